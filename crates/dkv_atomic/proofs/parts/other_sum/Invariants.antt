use Rattle.std.proofs.Common.{◌≡◌, take}
use Rattle.std.specs.Prelude.{sum_by}
use Rattle.dkv_atomic.specs.Sums.{capped}
use Rattle.dkv_atomic.proofs.parts.other_sum.Given as goal

-- the sum so far is that of the parts so far
abbrev pub invariant-loop-part : goal.invariant-loop-part
invariant-loop-part g l = l.sum ≡ capped (sum_by g.T.Counted.others (take l.part-index l.parts))
