use Rattle.std.proofs.Common.{◌≡◌, length}
use Rattle.dkv_wire.specs.FieldLists.{are_varints}
use Rattle.dkv_wire.proofs.varints.are_varints.Given as goal

abbrev pub invariant-loop-number : goal.invariant-loop-number
invariant-loop-number l = are_varints l.numbers ≡ are_varints l.bytes

abbrev pub decreases-loop-number : goal.decreases-loop-number
decreases-loop-number l = length l.numbers
