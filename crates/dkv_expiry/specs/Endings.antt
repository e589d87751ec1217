-- What ends when.
--     Endings      what contracts see of an expiry: the endings in rising order, and how many more find room without memory
--     ending_cmp p q, same_ending p q      endings by moment and then by key; whether the two are one
--     noted at key ps, dropped at key ps      the endings with this one, and without it
--     first_upto at ps      the first ending that is at the moment or before it
--     has q ps      whether the ending is among these
use Rattle.std.specs.Prelude.{ℕ, Bool, ◌&&◌, nat_le, ◌==◌, List, Option, find, bytes_eq}
use Rattle.std.specs.List.{list_any}
use Rattle.std.specs.Ordering.{nat_cmp, ordering_then}
use Rattle.std.specs.declared.cmp.Ordering.{Ordering}
use Rattle.dkv_base.specs.State.{key_cmp}
use Rattle.dkv_base.specs.Ordered.{put_in, left_out}
use Rattle.dkv_expiry.specs.declared.ending.Ending.{Ending}

-- the endings in rising order, and how many more find room without memory
pub record Endings : Type 0 where
  pub pairs : List Ending
  pub spare : ℕ

-- by moment, and then by the key's bytes
abbrev pub ending_cmp : Ending → Ending → Ordering
ending_cmp p q = ordering_then (nat_cmp p.at q.at) (key_cmp p.key q.key)

-- one moment and one key
abbrev pub same_ending : Ending → Ending → Bool
same_ending p q = (p.at == q.at) && bytes_eq p.key q.key

-- the entry under the key ends at the moment
abbrev pub ending : ℕ → List ℕ → Ending
ending at key = record { at = at; key = key }

-- with this ending
abbrev pub noted : ℕ → List ℕ → List Ending → List Ending
noted at key ps = put_in ending_cmp (ending at key) ps

-- without this ending
abbrev pub dropped : ℕ → List ℕ → List Ending → List Ending
dropped at key ps = left_out ending_cmp (ending at key) ps

-- the first that is at the moment or before it
abbrev pub first_upto : ℕ → List Ending → Option Ending
first_upto at ps = find (λ p. nat_le p.at at) ps

-- the ending is among these
abbrev pub has : Ending → List Ending → Bool
has q ps = list_any (same_ending q) ps
