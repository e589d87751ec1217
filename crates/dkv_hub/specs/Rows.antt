-- What contracts see of a watcher, and of the hub.
--     Watch      a watcher's number and keys, and what its last frame showed
--     WatchRow      what a hub has of a watcher
--     Last      what was shown, and for how many keys there is room
--     new_row n keys      the row of a watcher that has shown nothing
--     is_row_of n keys r      whether it is the row of the watcher with this number and these keys
--     rows_without n keys rows      without that row
--     is_free n rows, are_below n rows      whether no row has the number; whether all numbers are below it
use Rattle.std.specs.Prelude.{ℕ, Bool, true, not, ◌&&◌, ◌==◌, nat_lt, List, filter, Option, None, bytes_eq}
use Rattle.std.specs.List.{list_all, list_any}
use Rattle.std.specs.Cmp.Lexicographic.{pointwise}
use Rattle.dkv_hub.specs.declared.shown.Shown.{Shown}

-- a watcher's number and keys, and what its last frame showed of each key
pub record Watch : Type 0 where
  pub number : ℕ
  pub keys : List (List ℕ)
  pub shown : Option (List Shown)

-- what a hub has of a watcher; a mark says that something may have changed since it showed that
pub record WatchRow : Type 0 where
  pub number : ℕ
  pub keys : List (List ℕ)
  pub shown : Option (List Shown)
  pub marked : Bool

-- what was shown last, and for how many keys there is room
pub record Last : Type 0 where
  pub room : ℕ
  pub shown : Option (List Shown)

-- a watcher that has shown nothing is marked
abbrev pub new_row : ℕ → List (List ℕ) → WatchRow
new_row n keys = record { number = n; keys = keys; shown = None; marked = true }

-- the same keys in the same order
abbrev pub same_keys : List (List ℕ) → List (List ℕ) → Bool
same_keys some others = pointwise bytes_eq some others

-- the row of the watcher with this number and these keys
abbrev pub is_row_of : ℕ → List (List ℕ) → WatchRow → Bool
is_row_of n keys r = (r.number == n) && same_keys r.keys keys

-- without the row of that watcher
abbrev pub rows_without : ℕ → List (List ℕ) → List WatchRow → List WatchRow
rows_without n keys rows = filter (λ r. not (is_row_of n keys r)) rows

-- no row has the number
abbrev pub is_free : ℕ → List WatchRow → Bool
is_free n rows = not (list_any (λ r. r.number == n) rows)

-- each row's number is below this one
abbrev pub are_below : ℕ → List WatchRow → Bool
are_below n rows = list_all (λ r. nat_lt r.number n) rows
