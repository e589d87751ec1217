use Rattle.std.proofs.Common.{◌≡◌, ◌≤◌, inl, inr, sym, ap, ◌∙◌, subst, ℕ, true, false, Bool, ◌||◌, List, [], ◌∷◌, length}
use Rattle.dkv_io.specs.Disks.{PairImages, Only, LeavesOnly}
use Rattle.dkv_io.proofs.Moves.{weaker, joined}
use Rattle.dkv_io.proofs.Moments as one
use Rattle.dkv_journal.specs.Records.{first_layout}
use Rattle.dkv_journal.specs.declared.gates.TheConstants.{OPEN_GATE, CLOSED_GATE}
use Rattle.dkv_msgs.specs.Readings.{reads_atomic_write}
use Rattle.dkv_base.specs.Profiles.{known_first}
use Rattle.dkv_files.specs.Crashes.{Identity, CreateLeaves, CreateMoves, WritesNothing, WholeLeaves, read}
use Rattle.dkv_files.specs.Creating.{new_head, new_identity}
use Rattle.dkv_files.specs.Files.{is_open, filled}
use Rattle.dkv_files.specs.Filling.{behind_gate}
use Rattle.dkv_files.proofs.Filled.{new_filled}
use Rattle.dkv_files.proofs.Fresh.{is_new}
use Rattle.dkv_files.proofs.Resting.{moves_of}
use Rattle.dkv_files.proofs.Used.{neither}
use Rattle.dkv_files.proofs.creating.create.Goals as goal

-- what a run that writes nothing leaves
nothing : {D : Type 0} (images : D → List ℕ → Type 0) (moment : D → ℕ) (since : D → ℕ → List ℕ → Type 0) (who : Identity) (a b c d : D) → WritesNothing images moment since a b c d → CreateMoves images moment since who a b c d
nothing images moment since who a b c d moves =
    weaker images moment since (PairImages (images a) (images b)) (CreateLeaves (images a) (images b) read who) (λ x y has. inl has) a b c d moves

module _ (id secret fa fb bytes : List ℕ) (long_id : length id ≡ 16) (long_secret : length secret ≡ 32) (spelled : CLOSED_GATE ∷ bytes ≡ filled first_layout (new_head id secret) [] []) (shut : is_open fb ≡ false) where
  -- what the writing of file a leaves beside a file that isn't open
  leaves : (a_start b_start a_rests : List ℕ → Type 0) → a_start fa → b_start fb → Only fa a_rests → (x y : List ℕ) → WholeLeaves a_rests (OPEN_GATE ∷ bytes) x → y ≡ fb
      → CreateLeaves a_start b_start read (new_identity id secret) x y
  leaves a_start b_start a_rests now_a now_b only x y (inl was) other = inl (subst a_start (sym (only x was)) now_a, subst b_start (sym other) now_b)
  leaves a_start b_start a_rests now_a now_b only x y (inr (inl shut_x)) other = inr (inl (neither known_first reads_atomic_write x y shut_x (ap is_open other ∙ shut)))
  leaves a_start b_start a_rests now_a now_b only x y (inr (inr whole)) other = inr (inr (is_new id secret long_id long_secret bytes x y spelled whole.0 (ap is_open other ∙ shut)))

  -- both brought to rest, and file a written
  written : {D : Type 0} (images : D → List ℕ → Type 0) (moment : D → ℕ) (since : D → ℕ → List ℕ → Type 0) → ((d : D) (t : ℕ) (x : List ℕ) → t ≤ moment d → images d x → since d t x)
      → (a b a_rests b_rests a_end : D) → images a fa → images b fb → Only fa (images a_rests) → Only fb (images b_rests) → WritesNothing images moment since a b a_rests b_rests
      → LeavesOnly moment since a_rests a_end (WholeLeaves (images a_rests) (OPEN_GATE ∷ bytes)) → CreateMoves images moment since (new_identity id secret) a b a_end b_rests
  written images moment since counts a b a_rests b_rests a_end now_a now_b only_a only_b moves left =
      let P = CreateLeaves (images a) (images b) read (new_identity id secret) in
      joined images moment since P a b a_rests b_rests a_end b_rests (nothing images moment since (new_identity id secret) a b a_rests b_rests moves)
      (moves_of images moment since counts a_rests a_end b_rests P
      (one.weaker moment since a_rests a_end (WholeLeaves (images a_rests) (OPEN_GATE ∷ bytes)) (λ x. (y : List ℕ) → images b_rests y → P x y)
      (λ x was y now. leaves (images a) (images b) (images a_rests) now_a now_b only_a x y was (only_b y now)) left))

-- what stands in the files before file a is written
none_open : (v w : Bool) → false ≡ (v || w) → w ≡ false
none_open true w is = absurd (cc is)
none_open false w is = sym is

pub returns-in-Ok-true-clause-moves : goal.returns-in-Ok-true-clause-moves
returns-in-Ok-true-clause-moves g c fa fb told_a told_b =
    nothing g.D.Disk.may_leave g.D.Disk.moment g.D.Disk.left_since (new_identity c.args.id c.args.secret) c.args.pair.now.a c.args.pair.now.b c.is_one_open.new.pair.a c.is_one_open.new.pair.b c.is_one_open.ensures.moves

pub returns-in-Err-clause-moves : goal.returns-in-Err-clause-moves
returns-in-Err-clause-moves g c fa fb told_a told_b =
    nothing g.D.Disk.may_leave g.D.Disk.moment g.D.Disk.left_since (new_identity c.args.id c.args.secret) c.args.pair.now.a c.args.pair.now.b c.is_one_open.new.pair.a c.is_one_open.new.pair.b c.is_one_open.ensures.moves

pub returns-in_default-clause-moves : goal.returns-in_default-clause-moves
returns-in_default-clause-moves g c fa fb told_a told_b =
    nothing g.D.Disk.may_leave g.D.Disk.moment g.D.Disk.left_since (new_identity c.args.id c.args.secret) c.args.pair.now.a c.args.pair.now.b c.is_one_open.new.pair.a c.is_one_open.new.pair.b c.is_one_open.ensures.moves

pub returns-in-Ok-write_new-clause-done : goal.returns-in-Ok-write_new-clause-done
returns-in-Ok-write_new-clause-done g c fa fb told_a told_b x y now_x now_y =
    let rest_a = c.in-Ok-false.ensures.rest_a fa told_a in
    let rest_b = c.in-Ok-false.ensures.rest_b fb told_b in
    let shut = none_open (is_open fa) (is_open fb) (sym c.in-Ok-false.field-0-test ∙ c.in-Ok-false.ensures.open fa fb told_a told_b) in
    let bytes = behind_gate c.deref.result.now [] [] in
    let spelled = new_filled c.args.id c.args.secret c.deref.result.now c.spell_new.ensures.id c.spell_new.ensures.secret (c.deref.ensures.value ∙ c.in-Ok.ensures.spelled) in
    let rests = c.in-Ok-write_new.ensures.done fa rest_a.told in
    is_new c.args.id c.args.secret c.spell_new.ensures.id c.spell_new.ensures.secret bytes x y spelled (rests.only x now_x) (ap is_open (rest_b.only y now_y) ∙ shut)

pub returns-in-Ok-write_new-clause-moves : goal.returns-in-Ok-write_new-clause-moves
returns-in-Ok-write_new-clause-moves g c fa fb told_a told_b =
    let rest_a = c.in-Ok-false.ensures.rest_a fa told_a in
    let rest_b = c.in-Ok-false.ensures.rest_b fb told_b in
    let shut = none_open (is_open fa) (is_open fb) (sym c.in-Ok-false.field-0-test ∙ c.in-Ok-false.ensures.open fa fb told_a told_b) in
    let bytes = behind_gate c.deref.result.now [] [] in
    let spelled = new_filled c.args.id c.args.secret c.deref.result.now c.spell_new.ensures.id c.spell_new.ensures.secret (c.deref.ensures.value ∙ c.in-Ok.ensures.spelled) in
    let start = c.args.pair.now in
    written c.args.id c.args.secret fa fb bytes c.spell_new.ensures.id c.spell_new.ensures.secret spelled shut
    g.D.Disk.may_leave g.D.Disk.moment g.D.Disk.left_since g.met.D.Disk.counts_now start.a start.b c.is_one_open.new.pair.a c.is_one_open.new.pair.b c.write_new.new.disk
    (g.met.D.Disk.reads_as start.a fa told_a) (g.met.D.Disk.reads_as start.b fb told_b) rest_a.only rest_b.only c.is_one_open.ensures.moves (c.write_new.ensures.leaves fa rest_a.told)

pub returns-clause-moves : goal.returns-clause-moves
returns-clause-moves g c fa fb told_a told_b =
    let rest_a = c.in-Ok-false.ensures.rest_a fa told_a in
    let rest_b = c.in-Ok-false.ensures.rest_b fb told_b in
    let shut = none_open (is_open fa) (is_open fb) (sym c.in-Ok-false.field-0-test ∙ c.in-Ok-false.ensures.open fa fb told_a told_b) in
    let bytes = behind_gate c.deref.result.now [] [] in
    let spelled = new_filled c.args.id c.args.secret c.deref.result.now c.spell_new.ensures.id c.spell_new.ensures.secret (c.deref.ensures.value ∙ c.in-Ok.ensures.spelled) in
    let start = c.args.pair.now in
    written c.args.id c.args.secret fa fb bytes c.spell_new.ensures.id c.spell_new.ensures.secret spelled shut
    g.D.Disk.may_leave g.D.Disk.moment g.D.Disk.left_since g.met.D.Disk.counts_now start.a start.b c.is_one_open.new.pair.a c.is_one_open.new.pair.b c.write_new.new.disk
    (g.met.D.Disk.reads_as start.a fa told_a) (g.met.D.Disk.reads_as start.b fb told_b) rest_a.only rest_b.only c.is_one_open.ensures.moves (c.write_new.ensures.leaves fa rest_a.told)
