use Rattle.std.proofs.Common.{◌≡◌, ◌≤◌, ◌++◌, ℕ, List, length, flat_map}
use Rattle.std.specs.List.{AllByRecursion}
use Rattle.dkv_io.specs.Disks.{WithinTold}
use Rattle.dkv_image.specs.Image.{message_bytes}
use Rattle.dkv_image_io.specs.Sizes.{FitsCounts}
use Rattle.dkv_image_io.specs.Writing.{Writes, IsUnderWay}
use Rattle.dkv_image_io.proofs.put.put_messages.Given as goal

-- some bytes were spelled, which with those of the messages still to come are all
abbrev pub invariant-loop-message : goal.invariant-loop-message
invariant-loop-message g l = record {
  done : List ℕ;
  all : done ++ flat_map message_bytes l.messages ≡ flat_map message_bytes l.fn.messages;
  fit : AllByRecursion FitsCounts l.messages;
  way : (start : ℕ) (file spelled : List ℕ) → IsUnderWay start file spelled (g.D.Disk.seen l.fn.disk) l.fn.pieces.place l.fn.pieces.held.items
      → IsUnderWay start file (spelled ++ done) (g.D.Disk.seen l.disk) l.pieces.place l.pieces.held.items;
  within : WithinTold (g.D.Disk.seen l.disk) l.pieces.place;
  onward : l.fn.pieces.place ≤ l.pieces.place;
  writes : Writes g.D.Disk.seen g.D.Disk.may_leave g.D.Disk.moment g.D.Disk.left_since g.D.Disk.faults l.fn.pieces.place l.fn.disk l.disk;
}

abbrev pub decreases-loop-message : goal.decreases-loop-message
decreases-loop-message g l = length l.messages
