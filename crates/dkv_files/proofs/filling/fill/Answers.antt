use Rattle.std.proofs.Common.{refl, ap, ◌∙◌, ◌∷◌, length}
use Rattle.dkv_io.specs.Disks.{AtRest}
use Rattle.dkv_io.proofs.Moments.{started}
use Rattle.dkv_queue.specs.Rows.{messages_of}
use Rattle.dkv_image_io.specs.Reading.{narrow}
use Rattle.dkv_journal.specs.Records.{first_layout}
use Rattle.dkv_journal.specs.declared.gates.TheConstants.{CLOSED_GATE}
use Rattle.dkv_files.specs.Crashes.{FillLeaves}
use Rattle.dkv_files.specs.Files.{filled}
use Rattle.dkv_files.specs.Filling.{behind_gate}
use Rattle.dkv_files.proofs.Filled.{fill_leaves, spelled_long, rests_filled, on_ok_of}
use Rattle.dkv_files.proofs.filling.fill.Goals as goal

pub returns-in_default-clause-leaves : goal.returns-in_default-clause-leaves
returns-in_default-clause-leaves g c file told =
    let old = c.args.disk.now in
    started g.D.Disk.moment g.D.Disk.left_since old FillLeaves (λ x left. fill_leaves (g.D.Disk.may_leave old) (c.requires.cleared file told) x (x, g.met.D.Disk.only_now old x left, refl))

pub fill_behind-requires-clause-long : goal.fill_behind-requires-clause-long
fill_behind-requires-clause-long g c =
    ap length c.deref.ensures.value ∙ spelled_long c.args.head.now (g.T.Table.content c.args.table.now) (messages_of c.args.queue.now.rows) c.in-Ok.front.items c.image_len.result
    c.spell_head.ensures.id c.spell_head.ensures.secret c.in-Ok.ensures.spelled c.image_len.ensures (g.D.Disk.may_leave c.args.disk.now)

pub fill_behind-requires-clause-image : goal.fill_behind-requires-clause-image
fill_behind-requires-clause-image g c = (narrow c.args.head.now.n c.args.head.now.now, c.requires.image)

pub image_len-requires : goal.image_len-requires
image_len-requires g c = (narrow c.args.head.now.n c.args.head.now.now, c.requires.image)

pub returns-clause-done : goal.returns-clause-done
returns-clause-done g c file told =
    let es = g.T.Table.content c.args.table.now in
    let ms = messages_of c.args.queue.now.rows in
    let new = c.fill_behind.new.disk in
    let images = g.D.Disk.may_leave new in
    let front = c.deref.result.now in
    on_ok_of c.fill_behind.result (AtRest (g.D.Disk.seen new) images (CLOSED_GATE ∷ behind_gate front es ms)) (AtRest (g.D.Disk.seen new) images (filled first_layout c.args.head.now es ms)) (c.fill_behind.ensures.done file told)
    (rests_filled c.args.head.now es ms front c.image_len.result c.spell_head.ensures.id c.spell_head.ensures.secret (c.deref.ensures.value ∙ c.in-Ok.ensures.spelled) c.image_len.ensures images (g.D.Disk.seen new) (g.met.D.Disk.short new))
