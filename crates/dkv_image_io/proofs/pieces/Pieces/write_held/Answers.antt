use Rattle.std.proofs.Common.{subst, List, ℕ, arith}
use Rattle.dkv_io.specs.Disks.{Told, Holds}
use Rattle.dkv_image_io.proofs.Writing.{way_written, writes_one}
use Rattle.dkv_image_io.proofs.pieces.Pieces.write_held.Goals as goal

pub returns-in-Ok-clause-way : goal.returns-in-Ok-clause-way
returns-in-Ok-clause-way g c start file spelled w =
    let place = c.args.self.now.place in
    let held = c.args.self.now.held.items in
    let old = g.D.Disk.seen c.args.disk.now in
    let new = g.D.Disk.seen c.write_at.new.self in
    let told = subst (λ (l : List ℕ). Told (Holds place l) old new) c.deref.ensures.value c.in-Ok.ensures.written in
    way_written start place c.saturating_add-self.result file spelled held old new w c.requires.within told (g.met.D.Disk.short c.write_at.new.self) (omega (arith, c.saturating_add-self.ensures, c.len.ensures))

pub returns-in-Ok-clause-writes : goal.returns-in-Ok-clause-writes
returns-in-Ok-clause-writes g c =
    writes_one g.D.Disk.seen g.D.Disk.may_leave g.D.Disk.moment g.D.Disk.left_since g.D.Disk.faults g.met.D.Disk.counts_now g.met.D.Disk.only_now
    c.args.self.now.place c.deref.result.now c.args.disk.now c.write_at.new.self c.write_at.result c.write_at.ensures.written c.write_at.ensures.crash c.write_at.ensures.time c.write_at.ensures.cause

pub returns-in-Err-clause-writes : goal.returns-in-Err-clause-writes
returns-in-Err-clause-writes g c =
    writes_one g.D.Disk.seen g.D.Disk.may_leave g.D.Disk.moment g.D.Disk.left_since g.D.Disk.faults g.met.D.Disk.counts_now g.met.D.Disk.only_now
    c.args.self.now.place c.deref.result.now c.args.disk.now c.write_at.new.self c.write_at.result c.write_at.ensures.written c.write_at.ensures.crash c.write_at.ensures.time c.write_at.ensures.cause
