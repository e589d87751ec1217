use Rattle.std.proofs.Common.{length}
use Rattle.dkv_base.proofs.order.+compare.Given as goal

abbrev pub decreases-compare : goal.decreases-compare
decreases-compare l = length l.key.now
