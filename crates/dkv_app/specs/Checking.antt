-- What `check` does, and how two files are opened.
--     Unopens s fa fb, OpenCause s ..      why two files are not opened, and which count rose
--     Checks .. s ..      it ended so: what it printed of which state, and that it wrote no file
use Rattle.std.specs.Prelude.{ℕ, ◌≡◌, ◌≤◌, ◌<◌, ◌^◌, ⊤, List, length, Option, Ok, Err}
use Rattle.dkv_base.specs.State.{State, visible}
use Rattle.dkv_base.specs.After.{after}
use Rattle.dkv_msgs.specs.Readings.{reads_atomic_write}
use Rattle.dkv_files.specs.Recovered.{Found, first_opening, found, no_database, damaged}
use Rattle.dkv_files.specs.Crashes.{WritesNothing, WhereBothTold, read}
use Rattle.dkv_app.specs.declared.status.Status.{Status}
use Rattle.dkv_app.specs.declared.status.Status.TheVariants as status
use Rattle.dkv_app.specs.Ids.{database_lines}

-- ---- opening

-- the last commit of the two files has this number, which begins no term
pub record IsWornAt (fa fb : List ℕ) (n : ℕ) : Type 0 where
  pub database : Found
  pub recovered : read fa fb ≡ found database
  pub last : n ≡ (after database.base database.commits).number
  pub worn : 2 ^ 62 ≤ n

-- the files stand so that they are not opened; a fault and want of memory say nothing of them
abbrev pub Unopens : Status → List ℕ → List ℕ → Type 0
Unopens status.DiskFault fa fb = ⊤
Unopens status.NoDatabase fa fb = first_opening reads_atomic_write fa fb ≡ Ok no_database
Unopens (status.Damaged file at) fa fb = first_opening reads_atomic_write fa fb ≡ Ok (damaged file at)
Unopens (status.Worn n) fa fb = IsWornAt fa fb n
Unopens status.NoMemory fa fb = ⊤
Unopens (status.NotBuilt at) fa fb = first_opening reads_atomic_write fa fb ≡ Err at
Unopens _ fa fb = ⊥

-- there is no other status of an opening that fails, and a fault comes only where a file's count rose
abbrev pub OpenCause : Status → Type 0 → Type 0
OpenCause status.DiskFault disk_rose = disk_rose
OpenCause status.NoDatabase disk_rose = ⊤
OpenCause (status.Damaged file at) disk_rose = ⊤
OpenCause (status.Worn n) disk_rose = ⊤
OpenCause status.NoMemory disk_rose = ⊤
OpenCause (status.NotBuilt at) disk_rose = ⊤
OpenCause _ disk_rose = ⊥

-- ---- check

-- it ended with a database, or a fault comes only where that object's count rose
abbrev pub CheckCause : Status → Type 0 → Type 0 → Type 0
CheckCause status.Ok write_rose disk_rose = ⊤
CheckCause status.WriteFault write_rose disk_rose = write_rose
CheckCause s write_rose disk_rose = OpenCause s disk_rose

-- it printed, or the write failed and its count rose
abbrev pub IsPrinted : Status → Type 0 → Type 0
IsPrinted status.Ok write_rose = ⊤
IsPrinted status.WriteFault write_rose = write_rose
IsPrinted _ write_rose = ⊥

-- the id, the state and the moment that the lines tell of
pub record Shown : Type 0 where
  pub id : List ℕ
  pub state : State
  pub at : ℕ

-- the two files recover to this state of the database of this id, the moment is its last commit's, and a term may begin on it
pub record IsOf (shown : Shown) (fa fb : List ℕ) : Type 0 where
  pub database : Found
  pub recovered : read fa fb ≡ found database
  pub id : shown.id ≡ database.id
  pub state : shown.state ≡ after database.base database.commits
  pub at : shown.at ≡ shown.state.moment
  pub unworn : shown.state.number < 2 ^ 62

-- the files recover to what is shown, or stand so that they are not opened
abbrev pub CheckAnswers : Status → Shown → List ℕ → List ℕ → Type 0
CheckAnswers status.Ok shown fa fb = IsOf shown fa fb
CheckAnswers status.WriteFault shown fa fb = IsOf shown fa fb
CheckAnswers s shown fa fb = Unopens s fa fb

-- the number of commits, the entries that are visible at the moment, and the messages that are pending
abbrev pub lines_of : Shown → List ℕ
lines_of shown = database_lines shown.id shown.state.number
    (length (visible shown.at shown.state.entries)) (length shown.state.messages)

pub record Checks {D : Type 0} (seen : D → Option (List ℕ)) (images : D → List ℕ → Type 0)
    (moment : D → ℕ) (since : D → ℕ → List ℕ → Type 0)
    (s : Status) (Prints : List ℕ → Type 0) (a b a_end b_end : D) : Type 0 where
  pub shown : Shown
  pub lines : Prints (lines_of shown)
  pub answers : WhereBothTold (seen a) (seen b) (CheckAnswers s shown)
  -- it writes no file
  pub moves : WritesNothing images moment since a b a_end b_end
