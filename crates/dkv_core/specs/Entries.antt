-- What contracts see of the entries of a core, and what its index of ends holds.
--     Stored      the entries, and how many more, and how many more that end, find room without memory
--     is_end es q      whether an entry ends so
--     IsIndexed es ps      whether the index has exactly the ends of the entries
--     forgot was ps, noted_of e ps      the index without the end of an entry that is gone, and with that of a new one
--     note_of e      what is noted of an entry
use Rattle.std.specs.Prelude.{ℕ, ◌≡◌, Bool, false, not, ◌&&◌, ◌==◌, if◌then◌else◌, List, Option, Some, None}
use Rattle.std.specs.Option.{option_map_or}
use Rattle.dkv_base.specs.declared.types.Entry.{Entry}
use Rattle.dkv_base.specs.State.{entry_at}
use Rattle.dkv_expiry.specs.Endings.{has, noted, dropped}
use Rattle.dkv_expiry.specs.declared.ending.Ending.{Ending}

-- the entries in key order, and the room for more of them
pub record Stored : Type 0 where
  pub entries : List Entry
  pub spare : ℕ
  pub endings : ℕ

-- the entry under the key ends at the moment; an expiry of 0 is no end
abbrev pub is_end : List Entry → Ending → Bool
is_end es q = not (q.at == 0) && option_map_or (λ e. e.expire == q.at) (entry_at q.key es) false

-- each pair is there exactly where an entry ends so
abbrev pub IsIndexed : List Entry → List Ending → Type 0
IsIndexed es ps = (q : Ending) → has q ps ≡ is_end es q

-- without the end of the entry that is gone, if it had one
abbrev pub forgot : Option Entry → List Ending → List Ending
forgot None ps = ps
forgot (Some e) ps = if e.expire == 0 then ps else dropped e.expire e.key ps

-- with the end of the entry, if it has one
abbrev pub noted_of : Entry → List Ending → List Ending
noted_of e ps = if e.expire == 0 then ps else noted e.expire e.key ps

-- a copy of the entry's key, where it ends
abbrev pub note_of : Entry → Option (List ℕ)
note_of e = if e.expire == 0 then None else Some e.key
