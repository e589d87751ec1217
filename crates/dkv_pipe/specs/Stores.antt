-- Where a run over frames leads a store.
--     Reaches faults n marks old new      what the two disks and the commit number say of n frames and their marks
--     EndsIn e s rest new      the store that is given back is the situation's
--     RunsTo seen images faults moment since summary e before after old new      a run over these streams, from the one store to the other, ended so
use Rattle.std.specs.Prelude.{◌≡◌, ◌⊎◌, ◌+◌, ◌≤◌, ℕ, Bool, List, length, count_by}
use Rattle.std.specs.declared.option.Option.{Option}
use Rattle.dkv_base.specs.Steps.{Situation, effective, raised}
use Rattle.dkv_store.specs.Stores.{Contents, IsWithinRise}
use Rattle.dkv_store.specs.Situations.{StandsFor}
use Rattle.dkv_store.specs.Terms.{Leads}
use Rattle.dkv_pipe.specs.declared.pipe.PipeEnd.{PipeEnd}
use Rattle.dkv_pipe.specs.declared.pipe.PipeEnd.TheVariants as end
use Rattle.dkv_pipe.specs.Frames.{PipeFrame, Whole, front}
use Rattle.dkv_pipe.specs.Wishes.{readings}
use Rattle.dkv_pipe.specs.Pipe.{after_frames}
use Rattle.dkv_pipe.specs.Courses.{Course, situation_of}
use Rattle.dkv_pipe.specs.Attempts.{attempts_of}
use Rattle.dkv_pipe.specs.Ends.{Streams, Ran}

-- The true marks number at most the rise of the two counts of faults, which don't fall, and n frames make at most n commits.
pub record Reaches {D : Type 0} (faults : D → ℕ) (n : ℕ) (marks : List Bool) (old new : Contents D) : Type 0 where
  pub marked : IsWithinRise (count_by (λ mark. mark) marks) (faults old.a) (faults new.a) (faults old.b) (faults new.b)
  pub later_a : faults old.a ≤ faults new.a
  pub later_b : faults old.b ≤ faults new.b
  pub number : new.core.state.number ≤ old.core.state.number + n

-- the store is the situation's at the moment of the frame that stands whole at the front
pub record IsAtNext {D : Type 0} (s : Situation) (rest : List ℕ) (new : Contents D) : Type 0 where
  pub frame : PipeFrame
  pub more : List ℕ
  pub whole : front rest ≡ Whole frame more
  pub stands : StandsFor (raised (effective s frame.moment) s) new

-- the store is the situation's; where memory was wanted for the next frame, the greatest moment may have risen to that frame's
abbrev pub EndsIn : {D : Type 0} → PipeEnd → Situation → List ℕ → Contents D → Type 0
EndsIn end.NoMemory s rest new = StandsFor s new ⊎ IsAtNext s rest new
EndsIn _ s rest new = StandsFor s new

-- what was read, answered and written, and where that led and ended
pub record RunsTo {D : Type 0} (seen : D → Option (List ℕ)) (images : D → List ℕ → Type 0) (faults moment : D → ℕ) (since : D → ℕ → List ℕ → Type 0)
    (summary : Bool) (e : PipeEnd) (before after : Streams) (old new : Contents D) : Type 0 where
  pub course : Course
  pub ran : Ran summary e (situation_of old) before after course
  pub ends : EndsIn e (after_frames readings (situation_of old) course.frames course.marks) course.rest new
  pub reaches : Reaches faults (length course.frames) course.marks old new
  -- stopped at any moment, the files recover to a state of the run
  pub leads : Leads seen images moment since (attempts_of (situation_of old) course.frames course.marks) old new
