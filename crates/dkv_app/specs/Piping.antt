-- What `pipe` does.
--     Pipes .. s limit summary before after a b a_end b_end      it ran over two files under this limit, from one store to another, and ended so
--     PipesNew s limit summary before after      the same over a new database without files
use Rattle.std.specs.Prelude.{ℕ, ◌≡◌, ◌⊎◌, ◌≤◌, ◌<◌, ◌^◌, Bool, List, Option, count_by}
use Rattle.dkv_base.specs.Steps.{opened}
use Rattle.dkv_io.specs.Causes.{Rose}
use Rattle.dkv_io.specs.Disks.{Moves}
use Rattle.dkv_files.specs.Crashes.{WhereBothTold, StandsOrDoubtful, read}
use Rattle.dkv_store.specs.Attempts.{RunLeaves}
use Rattle.dkv_store.specs.Stores.{Contents, IsOpened}
use Rattle.dkv_pipe.specs.declared.pipe.PipeEnd.{PipeEnd}
use Rattle.dkv_pipe.specs.Courses.{Course, situation_of, started}
use Rattle.dkv_pipe.specs.Attempts.{attempts_of}
use Rattle.dkv_pipe.specs.Ends.{Streams, Ran, HasEndCause}
use Rattle.dkv_pipe.specs.Stores.{RunsTo}
use Rattle.dkv_pipe.specs.Whole.{Completes}
use Rattle.dkv_app.specs.declared.status.Status.{Status}
use Rattle.dkv_app.specs.Statuses.{told}

-- one of the two counts of faults rose
abbrev pub DisksRose : {D : Type 0} → (D → ℕ) → D → D → D → D → Type 0
DisksRose faults a b a_end b_end = Rose (faults a) (faults a_end) ⊎ Rose (faults b) (faults b_end)

-- a term under this limit begins on this store: nothing is out, and the moment is the last commit's
pub record BeginsTerm {D : Type 0} (images : D → List ℕ → Type 0) (limit : ℕ) (fa fb : List ℕ) (s : Contents D) : Type 0 where
  pub opens : IsOpened images fa fb s
  pub begins : situation_of s ≡ opened s.base limit
  pub unworn : s.base.number < 2 ^ 62

-- a run over frames, from the store that was opened on the first two disks to the one that was closed as the last two
pub record Pipes {D : Type 0} (seen : D → Option (List ℕ)) (images : D → List ℕ → Type 0)
    (faults moment : D → ℕ) (since : D → ℕ → List ℕ → Type 0)
    (s : Status) (limit : ℕ) (summary : Bool) (before after : Streams) (read_rose write_rose : Type 0)
    (a b a_end b_end : D) : Type 0 where
  pub how : PipeEnd
  pub first : Contents D
  pub last : Contents D
  pub status_is : s ≡ told how
  -- it begins a term on what the two files recover to
  pub begins : WhereBothTold (seen a) (seen b) (λ fa fb. BeginsTerm images limit fa fb first)
  -- what was read, answered and written, and where that led
  pub run : RunsTo seen images faults moment since summary how before after first last
  pub cause : HasEndCause how after.ended read_rose write_rose
  -- whole frames that are built are all answered, where no count rose
  pub complete : Completes summary how (situation_of first) before after read_rose write_rose (DisksRose faults a b a_end b_end)
  -- since the files were opened no count of theirs fell
  pub later : (faults a ≤ faults first.a) × (faults b ≤ faults first.b)
  pub ends : (a_end ≡ last.a) × (b_end ≡ last.b)
  -- stopped at any moment: what was there, or the state after the first commits, or these and one that was left in doubt there
  pub moves : WhereBothTold (seen a) (seen b) (λ fa fb.
      Moves images moment since (RunLeaves (images a) (images b) read first.who first.core.state
      (attempts_of (situation_of first) run.course.frames run.course.marks)) a b a_end b_end)
  -- at its end each image recovers to all of the commits, or to these and the one in doubt
  pub stands : WhereBothTold (seen a) (seen b) (λ fa fb.
      StandsOrDoubtful read (images a_end) (images b_end) last.core.state last.doubt last.who)

-- the same over the empty database, where no disk fails: no frame has a mark
pub record PipesNew (s : Status) (limit : ℕ) (summary : Bool) (before after : Streams) (read_rose write_rose : Type 0) : Type 0 where
  pub how : PipeEnd
  pub status_is : s ≡ told how
  pub course : Course
  pub ran : Ran summary how (started limit) before after course
  pub unmarked : count_by (λ mark. mark) course.marks ≡ 0
  pub cause : HasEndCause how after.ended read_rose write_rose
  pub complete : Completes summary how (started limit) before after read_rose write_rose ⊥
