use Rattle.std.proofs.Common.{◌≡◌, take}
use Rattle.dkv_atomic.specs.Sums.{capped, asked_entries}
use Rattle.dkv_atomic.proofs.reads.asked_entries.Given as goal

-- the sum so far is that of the ranges so far
abbrev pub invariant-loop-range : goal.invariant-loop-range
invariant-loop-range l = l.sum ≡ capped (asked_entries (take l.range-index l.ranges))
