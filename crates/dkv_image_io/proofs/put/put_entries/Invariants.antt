use Rattle.std.proofs.Common.{◌≡◌, ◌≤◌, ◌++◌, ℕ, List, length, flat_map}
use Rattle.std.specs.List.{AllByRecursion}
use Rattle.dkv_io.specs.Disks.{WithinTold}
use Rattle.dkv_image.specs.Image.{entry_bytes}
use Rattle.dkv_image_io.specs.Sizes.{FitsLengths}
use Rattle.dkv_image_io.specs.Writing.{Writes, IsUnderWay}
use Rattle.dkv_image_io.proofs.put.put_entries.Given as goal

-- some bytes were spelled, which with those of the entries still to come are all
abbrev pub invariant-loop-entry : goal.invariant-loop-entry
invariant-loop-entry g l = record {
  done : List ℕ;
  all : done ++ flat_map entry_bytes l.entries ≡ flat_map entry_bytes l.fn.entries;
  fit : AllByRecursion FitsLengths l.entries;
  way : (start : ℕ) (file spelled : List ℕ) → IsUnderWay start file spelled (g.D.Disk.seen l.fn.disk) l.fn.pieces.place l.fn.pieces.held.items
      → IsUnderWay start file (spelled ++ done) (g.D.Disk.seen l.disk) l.pieces.place l.pieces.held.items;
  within : WithinTold (g.D.Disk.seen l.disk) l.pieces.place;
  onward : l.fn.pieces.place ≤ l.pieces.place;
  writes : Writes g.D.Disk.seen g.D.Disk.may_leave g.D.Disk.moment g.D.Disk.left_since g.D.Disk.faults l.fn.pieces.place l.fn.disk l.disk;
}

abbrev pub decreases-loop-entry : goal.decreases-loop-entry
decreases-loop-entry g l = length l.entries
