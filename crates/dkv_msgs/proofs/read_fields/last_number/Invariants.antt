use Rattle.std.proofs.Common.{◌≡◌, length}
use Rattle.dkv_wire.specs.FieldLists.{fields}
use Rattle.dkv_wire.specs.Steps.{to_come}
use Rattle.dkv_msgs.specs.ByField.{last_or, held_by, number_in}
use Rattle.dkv_msgs.proofs.read_fields.last_number.Given as goal

abbrev pub invariant-loop-found : goal.invariant-loop-found
invariant-loop-found l = last_or l.last (held_by number_in l.field (to_come l.fields)) ≡ last_or l.before (held_by number_in l.field (fields 0 l.bytes))

abbrev pub decreases-loop-found : goal.decreases-loop-found
decreases-loop-found l = length l.fields.bytes
