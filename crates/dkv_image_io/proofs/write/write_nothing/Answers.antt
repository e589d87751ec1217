use Rattle.dkv_image_io.proofs.Writing.{writes_one}
use Rattle.dkv_image_io.proofs.write.write_nothing.Goals as goal

pub returns-in-Ok-clause-leaves : goal.returns-in-Ok-clause-leaves
returns-in-Ok-clause-leaves g c pos =
    (writes_one g.D.Disk.seen g.D.Disk.may_leave g.D.Disk.moment g.D.Disk.left_since g.D.Disk.faults g.met.D.Disk.counts_now g.met.D.Disk.only_now
    c.args.at _ c.args.disk.now c.write_at.new.self c.write_at.result c.write_at.ensures.written c.write_at.ensures.crash c.write_at.ensures.time c.write_at.ensures.cause).leaves pos

pub returns-in-Err-clause-leaves : goal.returns-in-Err-clause-leaves
returns-in-Err-clause-leaves g c pos =
    (writes_one g.D.Disk.seen g.D.Disk.may_leave g.D.Disk.moment g.D.Disk.left_since g.D.Disk.faults g.met.D.Disk.counts_now g.met.D.Disk.only_now
    c.args.at _ c.args.disk.now c.write_at.new.self c.write_at.result c.write_at.ensures.written c.write_at.ensures.crash c.write_at.ensures.time c.write_at.ensures.cause).leaves pos
