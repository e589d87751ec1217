use Rattle.std.proofs.Common.{◌≡◌}
use Rattle.dkv_image.specs.Image.{sized_at, many_at, counted_at}
use Rattle.dkv_image_io.proofs.Many.{many_behind}
use Rattle.dkv_image_io.proofs.message.read_keys.Given as goal

-- all are those so far and those that are left
abbrev pub invariant-loop-left : goal.invariant-loop-left
invariant-loop-left l = counted_at sized_at l.fn.front ≡ many_behind l.keys (many_at sized_at l.left l.front)

abbrev pub decreases-loop-left : goal.decreases-loop-left
decreases-loop-left l = l.left
