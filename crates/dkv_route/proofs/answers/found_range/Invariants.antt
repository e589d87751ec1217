use Rattle.std.proofs.Common.{◌≡◌, take}
use Rattle.dkv_msgs.specs.Outputs.{told_range}
use Rattle.dkv_route.proofs.answers.found_range.Given as goal

abbrev pub invariant-loop-entry : goal.invariant-loop-entry
invariant-loop-entry l = told_range l.found ≡ take l.entry-index l.entries
