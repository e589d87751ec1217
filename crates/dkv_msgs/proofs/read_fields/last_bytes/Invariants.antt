use Rattle.std.proofs.Common.{◌≡◌, length}
use Rattle.dkv_wire.specs.FieldLists.{fields}
use Rattle.dkv_msgs.specs.ByField.{last_or, payloads}
use Rattle.dkv_msgs.proofs.read_fields.last_bytes.Given as goal

abbrev pub invariant-loop-text : goal.invariant-loop-text
invariant-loop-text l = last_or l.last l.texts ≡ last_or l.before (payloads l.field (fields 0 l.bytes))

abbrev pub decreases-loop-text : goal.decreases-loop-text
decreases-loop-text l = length l.texts
