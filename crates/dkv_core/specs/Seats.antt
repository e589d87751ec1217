-- The callers who watch, beside a core: each has a seat with its watcher.
--     is_seat_of who s      whether the seat is the caller's
--     rows_beside seats rows      the rows but those of the watchers in the seats
--     AreWatchesOf ws seats      whether each caller's watch in a situation is the one in its seat
--     IsSeatedAnew who seats s new      whether the caller's seat is this one now, and the other callers' are as before
--     rows_after gone rows      the rows once the watcher that a new seat hands back has ended
--     AreWithRow before s rows      whether the rows are those before, and then the new row of the seat's watcher
--     HasBegun c who t keys seats f new      whether a new watch of the caller has shown this first frame, in its seat
use Rattle.std.specs.Prelude.{ℕ, ◌≡◌, Bool, false, not, ◌==◌, IsTrue, List, [], ◌∷◌, ◌++◌, filter, find, Option, Some, None, Result, Ok, Err}
use Rattle.std.specs.List.{list_any}
use Rattle.dkv_base.specs.declared.types.Frame.{Frame}
use Rattle.dkv_base.specs.Replies.{frame, shown}
use Rattle.dkv_base.specs.Steps.{Watching, watch_of}
use Rattle.dkv_hub.specs.Frames.{last_told}
use Rattle.dkv_hub.specs.Rows.{Watch, WatchRow, is_free, is_row_of, new_row, rows_without}
use Rattle.dkv_core.specs.Cores.{Database}
use Rattle.dkv_core.specs.declared.seats.Seat.{Seat}

-- the seat is the caller's
abbrev pub is_seat_of : ℕ → Seat → Bool
is_seat_of who s = s.who == who

-- the caller's seat
abbrev pub seat_of : ℕ → List Seat → Option Seat
seat_of who seats = find (is_seat_of who) seats

-- the row is that of a watcher in one of the seats
abbrev pub is_seated : List Seat → WatchRow → Bool
is_seated seats r = list_any (λ s. is_row_of s.watcher.number s.watcher.keys r) seats

-- the rows of all others
abbrev pub rows_beside : List Seat → List WatchRow → List WatchRow
rows_beside seats rows = filter (λ r. not (is_seated seats r)) rows

-- the watch of a situation has the keys of the one in the seat, and what that showed
abbrev pub IsWatchOf : Option Watching → Option Seat → Type 0
IsWatchOf None None = Unit {0}
IsWatchOf None (Some s) = ⊥
IsWatchOf (Some w) None = ⊥
IsWatchOf (Some w) (Some s) = (w.keys ≡ s.watcher.keys) × (last_told s.watcher.shown ≡ Some w.last)

-- so it is for each caller
abbrev pub AreWatchesOf : List Watching → List Seat → Type 0
AreWatchesOf ws seats = (who : ℕ) → IsWatchOf (watch_of who ws) (seat_of who seats)

-- the caller's seat is this one now, and each other caller's is the one that it was
pub record IsSeatedAnew (who : ℕ) (seats : List Seat) (s : Seat) (new : List Seat) : Type 0 where
  pub own : seat_of who new ≡ Some s
  pub others : (k : ℕ) → (who == k) ≡ false → seat_of k new ≡ seat_of k seats

-- the rows once the watcher that a new seat hands back has ended: the one that was there, or the new one
abbrev pub rows_after : Result (Option Watch) Watch → List WatchRow → List WatchRow
rows_after (Ok None) rows = rows
rows_after (Ok (Some w)) rows = rows_without w.number w.keys rows
rows_after (Err w) rows = rows_without w.number w.keys rows

-- the rows are those before, of which none has the watcher's number, and then its new row
pub record AreWithRow (before : List WatchRow) (s : Seat) (rows : List WatchRow) : Type 0 where
  pub added : rows ≡ before ++ new_row s.watcher.number s.watcher.keys ∷ []
  pub free : IsTrue (is_free s.watcher.number before)

-- a new watch of the caller has shown its first frame, and sits in the caller's seat
pub record HasBegun (c : Database) (who t : ℕ) (keys : List (List ℕ)) (seats : List Seat) (f : Option Frame) (new : List Seat) : Type 0 where
  pub seat : Seat
  pub anew : IsSeatedAnew who seats seat new
  pub watches : seat.watcher.keys ≡ keys
  pub told : last_told seat.watcher.shown ≡ Some (shown c.state t keys)
  pub first : f ≡ frame c.state t keys None
