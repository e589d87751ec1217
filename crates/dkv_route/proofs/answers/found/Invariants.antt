use Rattle.std.proofs.Common.{◌≡◌, take}
use Rattle.dkv_msgs.specs.Outputs.{told}
use Rattle.dkv_route.proofs.answers.found.Given as goal

abbrev pub invariant-loop-range : goal.invariant-loop-range
invariant-loop-range l = told l.found ≡ take l.range-index l.ranges
