-- A run over two files, from their opening on.
use Rattle.std.proofs.Common.{◌≡◌, ◌∙◌, ◌⊎◌, ◌≤◌, ◌<◌, ◌^◌, ℕ, List, [], Option, Some, None, refl, sym, subst, inl, inr}
use Rattle.std.specs.Prelude.{Bool}
use Rattle.dkv_base.specs.State.{State}
use Rattle.dkv_base.specs.Steps.{opened}
use Rattle.dkv_base.specs.Sound.{IsSound}
use Rattle.dkv_io.specs.Disks.{Moves, EachPair, PairImages, stays, a_moves, b_moves}
use Rattle.dkv_io.proofs.Moves.{joined, weaker}
use Rattle.dkv_io.proofs.Seen.{still_told}
use Rattle.dkv_files.specs.Crashes.{WhereBothTold, WritesNothing, StandsOrDoubtful, read}
use Rattle.dkv_store.specs.Attempts.{Attempt, RunLeaves}
use Rattle.dkv_store.specs.Stores.{Contents, IsOpened}
use Rattle.dkv_store.specs.Terms.{GoesOn, Leads, FilesStand}
use Rattle.dkv_store.proofs.Going.{goes_start}
use Rattle.dkv_io.specs.Causes.{Rose}
use Rattle.dkv_pipe.specs.declared.pipe.PipeEnd.{PipeEnd}
use Rattle.dkv_pipe.specs.Courses.{situation_of}
use Rattle.dkv_pipe.specs.Attempts.{attempts_of}
use Rattle.dkv_pipe.specs.Ends.{Streams, HasEndCause}
use Rattle.dkv_pipe.specs.Stores.{RunsTo}
use Rattle.dkv_pipe.specs.Whole.{Completes}
use Rattle.dkv_app.specs.declared.status.Status.{Status}
use Rattle.dkv_app.specs.Piping.{DisksRose, Pipes}
use Rattle.dkv_app.specs.Statuses.{told}
use Rattle.dkv_app.proofs.Piped.{completes_more, rose_earlier}

-- a term begins on a store that was opened
pub begins_term : {D : Type 0} (images : D → List ℕ → Type 0) (limit : ℕ) (fa fb : List ℕ) (s : Contents D)
    → IsOpened images fa fb s → s.core.greatest ≡ s.base.moment → s.limit ≡ limit → situation_of s ≡ opened s.base limit
begins_term images limit fa fb s is late under =
    let state = is.state in let out = is.out_none in let trail = is.trail in cc

module _ {D : Type 0} (images : D → List ℕ → Type 0) (moment : D → ℕ) (since : D → ℕ → List ℕ → Type 0) where
  -- at its end each pair of images has what each has at each moment
  at_end : (P : List ℕ → List ℕ → Type 0) (a b c d : D) → Moves images moment since P a b c d → EachPair (images c) (images d) P
  at_end P a b c d (stays x y each) = each
  at_end P a b c d (a_moves x y z u v leaves rest) = at_end P z y c d rest
  at_end P a b c d (b_moves x y z u v leaves rest) = at_end P x z c d rest

  module _ (seen : D → Option (List ℕ)) (a b : D) (first last : Contents D) (attempts : List Attempt) (fa fb : List ℕ)
      (sound : IsSound first.core.state) (sure : first.doubt ≡ None) (told_a : seen first.a ≡ Some fa) (told_b : seen first.b ≡ Some fb)
      (leads : Leads seen images moment since attempts first last) where
    goes : GoesOn seen images moment since attempts first last
    goes = leads first [] (goes_start seen images moment since first sound sure)

    -- each image in the opening and in the run is one of the run
    pub run_moves : WritesNothing images moment since a b first.a first.b
        → Moves images moment since (RunLeaves (images a) (images b) read first.who first.core.state attempts) a b last.a last.b
    run_moves opening =
        joined images moment since (RunLeaves (images a) (images b) read first.who first.core.state attempts) a b first.a first.b last.a last.b
        (weaker images moment since (PairImages (images a) (images b)) (RunLeaves (images a) (images b) read first.who first.core.state attempts)
        (λ x y was. inl was) a b first.a first.b opening)
        (weaker images moment since (RunLeaves (images first.a) (images first.b) read first.who first.core.state attempts) (RunLeaves (images a) (images b) read first.who first.core.state attempts)
        (λ x y is. from_first x y is) first.a first.b last.a last.b (goes.moves fa fb told_a told_b))
      where
        from_first : (x y : List ℕ) → RunLeaves (images first.a) (images first.b) read first.who first.core.state attempts x y → RunLeaves (images a) (images b) read first.who first.core.state attempts x y
        from_first x y (inl was) = inl (at_end (PairImages (images a) (images b)) a b first.a first.b opening x y was.0 was.1)
        from_first x y (inr made) = inr made

    -- at the end the files stand for the last store's state, or are in doubt by one commit
    pub run_stands : FilesStand seen images last → StandsOrDoubtful read (images last.a) (images last.b) last.core.state last.doubt last.who
    run_stands stand =
        let of_a = still_told _ (seen first.a) (seen last.a) fa told_a goes.told_a in
        let of_b = still_told _ (seen first.b) (seen last.b) fb told_b goes.told_b in
        stand of_a.file of_b.file of_a.seen of_b.seen

module _ {D : Type 0} (seen : D → Option (List ℕ)) (images : D → List ℕ → Type 0) (faults moment : D → ℕ) (since : D → ℕ → List ℕ → Type 0)
    (s : Status) (limit : ℕ) (summary : Bool) (e : PipeEnd) (before after : Streams) (read_rose write_rose : Type 0) (a b : D) (first last : Contents D) where
  -- one of the two counts rose in the run
  abbrev pub RunRose : Type 0
  RunRose = Rose (faults first.a) (faults last.a) ⊎ Rose (faults first.b) (faults last.b)

  -- and so it rose since the files were opened
  rose_since : (faults a ≤ faults first.a) × (faults b ≤ faults first.b) → RunRose → DisksRose faults a b last.a last.b
  rose_since later (inl rose) = inl (rose_earlier (faults a) (faults first.a) (faults last.a) later.0 rose)
  rose_since later (inr rose) = inr (rose_earlier (faults b) (faults first.b) (faults last.b) later.1 rose)

  -- two files were opened, and then it ran over them
  over_last : s ≡ told e → WhereBothTold (seen a) (seen b) (λ fa fb. IsOpened images fa fb first) → first.core.greatest ≡ first.base.moment → first.limit ≡ limit → first.core.state.number < 2 ^ 62 → IsSound first.base
      → (seen first.a ≡ seen a) × (seen first.b ≡ seen b) → (faults a ≤ faults first.a) × (faults b ≤ faults first.b)
      → WritesNothing images moment since a b first.a first.b → RunsTo seen images faults moment since summary e before after first last
      → HasEndCause e after.ended read_rose write_rose → Completes summary e (situation_of first) before after read_rose write_rose RunRose
      → FilesStand seen images last
      → Pipes seen images faults moment since s limit summary before after read_rose write_rose a b last.a last.b
  over_last is opens late under low sound told_as later opening run cause completes stand = record {
    how = e;
    first = first;
    last = last;
    status_is = is;
    begins = λ fa fb told_a told_b.
        let opened = opens fa fb told_a told_b in
        record {
          opens = opened;
          begins = begins_term images limit fa fb first opened late under;
          unworn = subst (λ (x : State). x.number < 2 ^ 62) opened.state low;
        };
    run = run;
    cause = cause;
    complete = completes_more summary e (situation_of first) before after read_rose write_rose RunRose (DisksRose faults a b last.a last.b) (rose_since later) completes;
    later = later;
    ends = (refl, refl);
    moves = λ fa fb told_a told_b.
        run_moves images moment since seen a b first last (attempts_of (situation_of first) run.course.frames run.course.marks) fa fb
        (subst IsSound (sym (opens fa fb told_a told_b).state) sound) (opens fa fb told_a told_b).doubt (told_as.0 ∙ told_a) (told_as.1 ∙ told_b) run.leads opening;
    stands = λ fa fb told_a told_b.
        run_stands images moment since seen a b first last (attempts_of (situation_of first) run.course.frames run.course.marks) fa fb
        (subst IsSound (sym (opens fa fb told_a told_b).state) sound) (opens fa fb told_a told_b).doubt (told_as.0 ∙ told_a) (told_as.1 ∙ told_b) run.leads stand;
  }

  pub over_pipes : (a_end b_end : D) → a_end ≡ last.a → b_end ≡ last.b
      → s ≡ told e → WhereBothTold (seen a) (seen b) (λ fa fb. IsOpened images fa fb first) → first.core.greatest ≡ first.base.moment → first.limit ≡ limit → first.core.state.number < 2 ^ 62 → IsSound first.base
      → (seen first.a ≡ seen a) × (seen first.b ≡ seen b) → (faults a ≤ faults first.a) × (faults b ≤ faults first.b)
      → WritesNothing images moment since a b first.a first.b → RunsTo seen images faults moment since summary e before after first last
      → HasEndCause e after.ended read_rose write_rose → Completes summary e (situation_of first) before after read_rose write_rose RunRose
      → FilesStand seen images last
      → Pipes seen images faults moment since s limit summary before after read_rose write_rose a b a_end b_end
  over_pipes a_end b_end is_a is_b is opens late under low sound told_as later opening run cause completes stand =
      subst (λ (x : D). Pipes seen images faults moment since s limit summary before after read_rose write_rose a b x b_end) (sym is_a)
      (subst (λ (x : D). Pipes seen images faults moment since s limit summary before after read_rose write_rose a b last.a x) (sym is_b)
      (over_last is opens late under low sound told_as later opening run cause completes stand))
