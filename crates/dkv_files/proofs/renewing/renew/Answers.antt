use Rattle.std.proofs.Common.{subst, Bool, List, [], ◌∷◌, ℕ}
use Rattle.std.specs.Prelude.{Option}
use Rattle.std.specs.Option.{option_map_or}
use Rattle.dkv_base.specs.State.{State}
use Rattle.dkv_base.specs.declared.types.Commit.{Commit}
use Rattle.dkv_io.specs.Disks.{AtRest}
use Rattle.dkv_io.proofs.Moments.{weaker}
use Rattle.dkv_queue.specs.Rows.{messages_of}
use Rattle.dkv_files.specs.Crashes.{IsOneOf, IsCheckpointed, WholeLeaves, and_then, read, with_doubt}
use Rattle.dkv_files.specs.Filling.{whole_file}
use Rattle.dkv_files.specs.Laws.{state_of}
use Rattle.dkv_files.specs.Renewing.{MayRenew, identity_in}
use Rattle.dkv_files.proofs.Filled.{on_ok_of}
use Rattle.dkv_files.proofs.Renewed.{leaves_second, leaves_first, checkpointed_second, checkpointed_first}
use Rattle.dkv_files.proofs.Resting.{moves_of, moves_of_second}
use Rattle.dkv_files.proofs.renewing.renew.Goals as goal

-- the states beside the first
abbrev rest_of : State → Option Commit → List State
rest_of s doubt = option_map_or (λ c. and_then s c ∷ []) doubt []

pub returns-then-second-clause-moves : goal.returns-then-second-clause-moves
returns-then-second-clause-moves g c doubt fa fb told_a told_b may =
    let head = c.args.head.now in
    let es = g.T.Table.content c.args.table.now in
    let ms = messages_of c.args.queue.now.rows in
    let s = state_of head es ms in
    let old = c.args.pair.now in
    let images = g.D.Disk.may_leave in
    let P : List ℕ → List ℕ → Type 0 = λ x y. IsOneOf (read x y) (with_doubt s doubt) (identity_in head) in
    let so = subst (λ (v : Bool). MayRenew v (images old.a) (images old.b) head (with_doubt s doubt)) c.if-second.true may in
    moves_of_second images g.D.Disk.moment g.D.Disk.left_since g.met.D.Disk.counts_now old.a old.b c.write_whole.new.disk P
    (weaker g.D.Disk.moment g.D.Disk.left_since old.b c.write_whole.new.disk (WholeLeaves (images old.b) (whole_file head es ms)) (λ y. (x : List ℕ) → images old.a x → P x y)
    (λ y left x now. leaves_second head es ms c.requires.fits c.requires.numbers c.requires.image c.write_whole.ensures.sized (rest_of s doubt) (images old.a) (images old.b) so x y now left)
    (c.write_whole.ensures.leaves fb told_b))

pub returns-then-second-clause-done : goal.returns-then-second-clause-done
returns-then-second-clause-done g c doubt fa fb told_a told_b may =
    let head = c.args.head.now in
    let es = g.T.Table.content c.args.table.now in
    let ms = messages_of c.args.queue.now.rows in
    let s = state_of head es ms in
    let old = c.args.pair.now in
    let new = c.write_whole.new.disk in
    let images = g.D.Disk.may_leave in
    let so = subst (λ (v : Bool). MayRenew v (images old.a) (images old.b) head (with_doubt s doubt)) c.if-second.true may in
    on_ok_of c.write_whole.result (AtRest (g.D.Disk.seen new) (images new) (whole_file head es ms)) (IsCheckpointed read (images old.a) (images new) s (identity_in head)) (c.write_whole.ensures.done fb told_b)
    (λ rests. checkpointed_second head es ms c.requires.fits c.requires.numbers c.requires.image c.write_whole.ensures.sized (rest_of s doubt) (images old.a) (images old.b) (g.D.Disk.seen new) (images new) (g.met.D.Disk.short new) so rests)

pub returns-else-second-clause-moves : goal.returns-else-second-clause-moves
returns-else-second-clause-moves g c doubt fa fb told_a told_b may =
    let head = c.args.head.now in
    let es = g.T.Table.content c.args.table.now in
    let ms = messages_of c.args.queue.now.rows in
    let s = state_of head es ms in
    let old = c.args.pair.now in
    let images = g.D.Disk.may_leave in
    let P : List ℕ → List ℕ → Type 0 = λ x y. IsOneOf (read x y) (with_doubt s doubt) (identity_in head) in
    let so = subst (λ (v : Bool). MayRenew v (images old.a) (images old.b) head (with_doubt s doubt)) c.if-second.false may in
    moves_of images g.D.Disk.moment g.D.Disk.left_since g.met.D.Disk.counts_now old.a c.write_whole-else-second.new.disk old.b P
    (weaker g.D.Disk.moment g.D.Disk.left_since old.a c.write_whole-else-second.new.disk (WholeLeaves (images old.a) (whole_file head es ms)) (λ x. (y : List ℕ) → images old.b y → P x y)
    (λ x left y now. leaves_first head es ms c.requires.fits c.requires.numbers c.requires.image c.write_whole-else-second.ensures.sized (rest_of s doubt) (images old.a) (images old.b) so x y now left)
    (c.write_whole-else-second.ensures.leaves fa told_a))

pub returns-else-second-clause-done : goal.returns-else-second-clause-done
returns-else-second-clause-done g c doubt fa fb told_a told_b may =
    let head = c.args.head.now in
    let es = g.T.Table.content c.args.table.now in
    let ms = messages_of c.args.queue.now.rows in
    let s = state_of head es ms in
    let old = c.args.pair.now in
    let new = c.write_whole-else-second.new.disk in
    let images = g.D.Disk.may_leave in
    let so = subst (λ (v : Bool). MayRenew v (images old.a) (images old.b) head (with_doubt s doubt)) c.if-second.false may in
    on_ok_of c.write_whole-else-second.result (AtRest (g.D.Disk.seen new) (images new) (whole_file head es ms)) (IsCheckpointed read (images new) (images old.b) s (identity_in head)) (c.write_whole-else-second.ensures.done fa told_a)
    (λ rests. checkpointed_first head es ms c.requires.fits c.requires.numbers c.requires.image c.write_whole-else-second.ensures.sized (rest_of s doubt) (images old.a) (images old.b) (g.D.Disk.seen new) (images new) (g.met.D.Disk.short new) so rests)
