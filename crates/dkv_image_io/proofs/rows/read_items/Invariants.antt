use Rattle.std.proofs.Common.{◌≡◌, ◌^◌, ◌<◌, ◌≤◌, ℕ, List, Some, None}
use Rattle.dkv_image.specs.Image.{row_at}
use Rattle.dkv_image_io.specs.Reading.{narrow, rest_in, end_in, last_of, OnlyReads}
use Rattle.dkv_image_io.proofs.Prepending.{prepended}
use Rattle.dkv_image_io.proofs.rows.read_items.Given as goal

-- the whole row is the items so far and the row of those that are left
abbrev pub invariant-loop-left : goal.invariant-loop-left
invariant-loop-left g l = record {
  row : (file : List ℕ) → g.D.Disk.seen l.fn.disk ≡ Some file → end_in file l.fn.window < 2 ^ 64
      → row_at g.I.Item.front (g.I.Item.may_follow (narrow l.fn.n l.fn.now)) None l.fn.count (rest_in file l.fn.window)
      ≡ prepended l.items (row_at g.I.Item.front (g.I.Item.may_follow (narrow l.fn.n l.fn.now)) (last_of l.items) l.left (rest_in file l.window));
  ends : (file : List ℕ) → g.D.Disk.seen l.fn.disk ≡ Some file → end_in file l.fn.window < 2 ^ 64 → end_in file l.window ≡ end_in file l.fn.window;
  onward : l.fn.window.place ≤ l.window.place;
  reads : OnlyReads g.D.Disk.seen g.D.Disk.may_leave g.D.Disk.moment g.D.Disk.left_since l.fn.disk l.disk;
  later : g.D.Disk.faults l.fn.disk ≤ g.D.Disk.faults l.disk;
}

abbrev pub decreases-loop-left : goal.decreases-loop-left
decreases-loop-left g l = l.left
