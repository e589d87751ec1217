use Rattle.std.proofs.Common.{inl, ap, ◌∙◌, ◌∷◌, List, length}
use Rattle.dkv_io.specs.Disks.{AtRest}
use Rattle.dkv_io.proofs.Moments.{started, weaker}
use Rattle.dkv_queue.specs.Rows.{messages_of}
use Rattle.dkv_image_io.specs.Reading.{narrow}
use Rattle.dkv_journal.specs.declared.gates.TheConstants.{OPEN_GATE}
use Rattle.dkv_files.specs.Crashes.{WholeLeaves}
use Rattle.dkv_files.specs.Filling.{behind_gate, whole_file}
use Rattle.dkv_files.proofs.Filled.{spelled_long, rests_whole, leaves_whole, on_ok_of}
use Rattle.dkv_files.proofs.whole.write_whole.Goals as goal

pub image_len-requires : goal.image_len-requires
image_len-requires g c = (narrow c.args.head.now.n c.args.head.now.now, c.requires.image)

pub write_spelled-requires-clause-image : goal.write_spelled-requires-clause-image
write_spelled-requires-clause-image g c = (narrow c.args.head.now.n c.args.head.now.now, c.requires.image)

pub write_spelled-requires-clause-long : goal.write_spelled-requires-clause-long
write_spelled-requires-clause-long g c =
    ap length c.deref.ensures.value ∙ spelled_long c.args.head.now (g.T.Table.content c.args.table.now) (messages_of c.args.queue.now.rows) c.in-Ok.front.items c.image_len.result
    c.spell_head.ensures.id c.spell_head.ensures.secret c.in-Ok.ensures.spelled c.image_len.ensures (g.D.Disk.may_leave c.args.disk.now)

pub returns-in_default-clause-leaves : goal.returns-in_default-clause-leaves
returns-in_default-clause-leaves g c file told =
    let old = c.args.disk.now in
    let whole = whole_file c.args.head.now (g.T.Table.content c.args.table.now) (messages_of c.args.queue.now.rows) in
    started g.D.Disk.moment g.D.Disk.left_since old (WholeLeaves (g.D.Disk.may_leave old) whole) (λ x left. inl (g.met.D.Disk.only_now old x left))

pub returns-clause-leaves : goal.returns-clause-leaves
returns-clause-leaves g c file told =
    let es = g.T.Table.content c.args.table.now in
    let ms = messages_of c.args.queue.now.rows in
    let old = c.args.disk.now in
    let images = g.D.Disk.may_leave old in
    let front = c.deref.result.now in
    weaker g.D.Disk.moment g.D.Disk.left_since old c.write_spelled.new.disk (WholeLeaves images (OPEN_GATE ∷ behind_gate front es ms)) (WholeLeaves images (whole_file c.args.head.now es ms))
    (leaves_whole c.args.head.now es ms front c.image_len.result c.spell_head.ensures.id c.spell_head.ensures.secret (c.deref.ensures.value ∙ c.in-Ok.ensures.spelled) c.image_len.ensures images)
    (c.write_spelled.ensures.leaves file told)

pub returns-clause-done : goal.returns-clause-done
returns-clause-done g c file told =
    let es = g.T.Table.content c.args.table.now in
    let ms = messages_of c.args.queue.now.rows in
    let new = c.write_spelled.new.disk in
    let images = g.D.Disk.may_leave new in
    let front = c.deref.result.now in
    on_ok_of c.write_spelled.result (AtRest (g.D.Disk.seen new) images (OPEN_GATE ∷ behind_gate front es ms)) (AtRest (g.D.Disk.seen new) images (whole_file c.args.head.now es ms)) (c.write_spelled.ensures.done file told)
    (rests_whole c.args.head.now es ms front c.image_len.result c.spell_head.ensures.id c.spell_head.ensures.secret (c.deref.ensures.value ∙ c.in-Ok.ensures.spelled) c.image_len.ensures images (g.D.Disk.seen new) (g.met.D.Disk.short new))
