use Rattle.std.proofs.Common.{◌≡◌, ◌++◌, map, length}
use Rattle.dkv_wire.specs.FieldLists.{varints}
use Rattle.dkv_msgs.specs.ByField.{uint32}
use Rattle.dkv_msgs.proofs.read_fields.add_packed.Given as goal

abbrev pub invariant-loop-n : goal.invariant-loop-n
invariant-loop-n l = l.all ++ map uint32 (varints l.packed) ≡ l.fn.all ++ map uint32 (varints l.text)

abbrev pub decreases-loop-n : goal.decreases-loop-n
decreases-loop-n l = length l.packed
