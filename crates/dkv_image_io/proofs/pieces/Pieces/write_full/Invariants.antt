use Rattle.std.proofs.Common.{◌≤◌, ℕ, List, length}
use Rattle.dkv_io.specs.Disks.{WithinTold}
use Rattle.dkv_image_io.specs.Writing.{Writes, IsUnderWay}
use Rattle.dkv_image_io.proofs.pieces.Pieces.write_full.Given as goal

abbrev pub invariant-loop-self : goal.invariant-loop-self
invariant-loop-self g l = record {
  way : (start : ℕ) (file spelled : List ℕ) → IsUnderWay start file spelled (g.D.Disk.seen l.fn.disk) l.fn.self.place l.fn.self.held.items
      → IsUnderWay start file spelled (g.D.Disk.seen l.disk) l.self.place l.self.held.items;
  within : WithinTold (g.D.Disk.seen l.disk) l.self.place;
  onward : l.fn.self.place ≤ l.self.place;
  writes : Writes g.D.Disk.seen g.D.Disk.may_leave g.D.Disk.moment g.D.Disk.left_since g.D.Disk.faults l.fn.self.place l.fn.disk l.disk;
}

abbrev pub decreases-loop-self : goal.decreases-loop-self
decreases-loop-self g l = length l.self.held.items
