use Rattle.std.proofs.Common.{ap, subst, List, [], ◌∷◌}
use Rattle.std.specs.Prelude.{OnOk}
use Rattle.dkv_base.specs.declared.types.Entry.{Entry}
use Rattle.dkv_base.specs.declared.types.Message.{Message}
use Rattle.dkv_io.specs.Disks.{LeavesOnly, AtRest}
use Rattle.dkv_queue.specs.Rows.{messages_of}
use Rattle.dkv_image.specs.Image.{is_image}
use Rattle.dkv_image_io.specs.Reading.{narrow}
use Rattle.dkv_journal.specs.declared.gates.TheConstants.{OPEN_GATE}
use Rattle.dkv_files.specs.Crashes.{WholeLeaves}
use Rattle.dkv_files.specs.Filling.{behind_gate}
use Rattle.dkv_files.proofs.creating.write_new.Goals as goal

pub returns-in-Ok-clause-leaves : goal.returns-in-Ok-clause-leaves
returns-in-Ok-clause-leaves g c file told =
    let old = c.args.disk.now in
    let new = c.write_spelled.new.disk in
    let whole : List Entry → List Message → Type 0 = λ es ms. LeavesOnly g.D.Disk.moment g.D.Disk.left_since old new (WholeLeaves (g.D.Disk.may_leave old) (OPEN_GATE ∷ behind_gate c.args.front.now es ms)) in
    subst (whole []) (ap messages_of c.new-queue.ensures.rows) (subst (λ (es : List Entry). whole es (messages_of c.new-queue.result.rows)) c.new-table.ensures.content (c.write_spelled.ensures.leaves file told))

pub returns-clause-leaves : goal.returns-clause-leaves
returns-clause-leaves g c file told =
    let old = c.args.disk.now in
    let new = c.write_spelled.new.disk in
    let whole : List Entry → List Message → Type 0 = λ es ms. LeavesOnly g.D.Disk.moment g.D.Disk.left_since old new (WholeLeaves (g.D.Disk.may_leave old) (OPEN_GATE ∷ behind_gate c.args.front.now es ms)) in
    subst (whole []) (ap messages_of c.new-queue.ensures.rows) (subst (λ (es : List Entry). whole es (messages_of c.new-queue.result.rows)) c.new-table.ensures.content (c.write_spelled.ensures.leaves file told))

pub returns-in-Ok-clause-done : goal.returns-in-Ok-clause-done
returns-in-Ok-clause-done g c file told =
    let new = c.write_spelled.new.disk in
    let whole : List Entry → List Message → Type 0 = λ es ms. AtRest (g.D.Disk.seen new) (g.D.Disk.may_leave new) (OPEN_GATE ∷ behind_gate c.args.front.now es ms) in
    subst (whole []) (ap messages_of c.new-queue.ensures.rows) (subst (λ (es : List Entry). whole es (messages_of c.new-queue.result.rows)) c.new-table.ensures.content (c.in-Ok.ensures.done file told))

pub write_spelled-requires-clause-image : goal.write_spelled-requires-clause-image
write_spelled-requires-clause-image g c = (narrow 0 0, λ i. is_image (narrow 0 0) (c.new-table.ensures.content i) (messages_of (c.new-queue.ensures.rows i)))
