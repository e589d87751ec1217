use Rattle.std.proofs.Common.{◌≡◌, ◌++◌, map, length}
use Rattle.dkv_wire.specs.FieldLists.{fields}
use Rattle.dkv_wire.specs.Steps.{to_come}
use Rattle.dkv_msgs.specs.ByField.{uint32, numbers}
use Rattle.dkv_msgs.proofs.read_fields.numbers.Given as goal

abbrev pub invariant-loop-found : goal.invariant-loop-found
invariant-loop-found l = l.all ++ map uint32 (numbers l.field (to_come l.fields)) ≡ map uint32 (numbers l.field (fields 0 l.bytes))

abbrev pub decreases-loop-found : goal.decreases-loop-found
decreases-loop-found l = length l.fields.bytes
