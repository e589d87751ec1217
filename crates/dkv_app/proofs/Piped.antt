-- Runs over frames, as the program runs them.
use Rattle.std.proofs.Common.{◌≡◌, ◌⊎◌, ◌≤◌, ℕ, ◌+◌, List, [], Option, length, refl, subst, arith}
use Rattle.std.specs.Prelude.{Bool, not, count_by}
use Rattle.std.proofs.KnownBytes.{Consumes-nil}
use Rattle.dkv_base.specs.State.{empty_state}
use Rattle.dkv_base.specs.Steps.{Situation, opened}
use Rattle.dkv_io.specs.Causes.{Rose}
use Rattle.dkv_store.specs.Stores.{Contents, IsFresh}
use Rattle.dkv_pipe.specs.declared.pipe.PipeEnd.{PipeEnd}
use Rattle.dkv_pipe.specs.declared.pipe.PipeEnd.TheVariants as end
use Rattle.dkv_pipe.specs.Courses.{Course, situation_of, started}
use Rattle.dkv_pipe.specs.Ends.{Streams, Ran, HasEndCause}
use Rattle.dkv_pipe.specs.Whole.{Completes}
use Rattle.dkv_pipe.proofs.Putting.{puts_nothing}
use Rattle.dkv_app.specs.declared.status.Status.{Status}
use Rattle.dkv_app.specs.declared.status.Status.TheVariants as status
use Rattle.dkv_app.specs.Piping.{PipesNew}
use Rattle.dkv_app.specs.Statuses.{told}

-- a count that rose since a later one rose since the earlier
pub rose_earlier : (a b c : ℕ) → a ≤ b → Rose b c → Rose a c
rose_earlier a b c le rose = omega (arith, le, rose)

-- where a weaker rise is what stands in the way
pub completes_more : (summary : Bool) (e : PipeEnd) (from : Situation) (before after : Streams) (read_rose write_rose P Q : Type 0) → (P → Q)
    → Completes summary e from before after read_rose write_rose P → Completes summary e from before after read_rose write_rose Q
completes_more summary e from before after read_rose write_rose P Q so completes =
    λ frames whole read write disk. completes frames whole read write (λ rose. disk (so rose))

-- a new store's situation is that of a new database
pub starts : {D : Type 0} (a b : D) (limit : ℕ) (s : Contents D) → IsFresh a b limit s → situation_of s ≡ started limit
starts a b limit s is =
    let under = is.limit in let state = is.state in let out = is.out in let trail = is.trail in let late = is.greatest in cc

-- a run from the situation of a new database, where no disk failed
pub new_pipes : (s : Status) (limit : ℕ) (summary : Bool) (e : PipeEnd) (from : Situation) (before after : Streams) (read_rose write_rose disk_rose : Type 0) (course : Course)
    → from ≡ started limit → s ≡ told e → Ran summary e from before after course → count_by (λ mark. mark) course.marks ≡ 0 → HasEndCause e after.ended read_rose write_rose
    → Completes summary e from before after read_rose write_rose disk_rose → (disk_rose → ⊥) → PipesNew s limit summary before after read_rose write_rose
new_pipes s limit summary e from before after read_rose write_rose disk_rose course new is ran unmarked cause completes no_rise = record {
  how = e;
  status_is = is;
  course = course;
  ran = subst (λ (x : Situation). Ran summary e x before after course) new ran;
  unmarked = unmarked;
  cause = cause;
  complete = completes_more summary e (started limit) before after read_rose write_rose disk_rose ⊥ no_rise (subst (λ (x : Situation). Completes summary e x before after read_rose write_rose disk_rose) new completes);
}

-- nothing was read
pub nothing_ran : (s : Status) (limit : ℕ) (summary : Bool) (at : Streams) (read_rose write_rose : Type 0) → s ≡ status.NoMemory → PipesNew s limit summary at at read_rose write_rose
nothing_ran s limit summary at read_rose write_rose is = record {
  how = end.NoMemory;
  status_is = is;
  course = record { frames = []; marks = []; at = 0; out = []; rest = [] };
  ran = record {
    read = [];
    taken = Consumes-nil at.left;
    answered = record { whole = refl; built = tt; early = tt; place = refl; replied = refl; many = refl; marked = tt };
    written = puts_nothing (not summary) at.held;
    ends = omega arith;
  };
  unmarked = refl;
  cause = tt;
  complete = λ frames whole read write disk. tt;
}
