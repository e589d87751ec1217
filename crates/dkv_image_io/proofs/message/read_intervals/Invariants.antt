use Rattle.std.proofs.Common.{◌≡◌}
use Rattle.std.specs.Int.{w32}
use Rattle.dkv_image.specs.Image.{number_at, many_at, counted_at}
use Rattle.dkv_image_io.proofs.Many.{many_behind}
use Rattle.dkv_image_io.proofs.message.read_intervals.Given as goal

-- all are those so far and those that are left
abbrev pub invariant-loop-left : goal.invariant-loop-left
invariant-loop-left l = counted_at (number_at w32) l.fn.front ≡ many_behind l.intervals (many_at (number_at w32) l.left l.front)

abbrev pub decreases-loop-left : goal.decreases-loop-left
decreases-loop-left l = l.left
