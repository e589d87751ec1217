use Rattle.std.proofs.Common.{arith}
use Rattle.dkv_image_io.proofs.Writing.{writes_on}
use Rattle.dkv_image_io.proofs.pieces.Pieces.write_full.Goals as goal

pub loop-self-preserved : goal.loop-self-preserved
loop-self-preserved g c =
    let inv = c.loop-self.invariant in
    record {
      way = λ start file spelled w. c.in-Ok.ensures.way start file spelled (inv.way start file spelled w);
      within = c.in-Ok.ensures.within;
      onward = omega (arith, inv.onward, c.in-Ok.ensures.onward);
      writes = writes_on g.D.Disk.seen g.D.Disk.may_leave g.D.Disk.moment g.D.Disk.left_since g.D.Disk.faults g.met.D.Disk.counts_now g.met.D.Disk.only_now
          c.args.self.now.place c.loop-self.self.place c.args.disk.now c.loop-self.disk c.write_piece.new.disk inv.onward inv.writes c.write_piece.ensures.writes;
    }

pub returns-in-Err-clause-writes : goal.returns-in-Err-clause-writes
returns-in-Err-clause-writes g c =
    let inv = c.loop-self.invariant in
    writes_on g.D.Disk.seen g.D.Disk.may_leave g.D.Disk.moment g.D.Disk.left_since g.D.Disk.faults g.met.D.Disk.counts_now g.met.D.Disk.only_now
    c.args.self.now.place c.loop-self.self.place c.args.disk.now c.loop-self.disk c.write_piece.new.disk inv.onward inv.writes c.write_piece.ensures.writes
