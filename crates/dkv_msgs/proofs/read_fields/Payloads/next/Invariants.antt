use Rattle.std.proofs.Common.{◌≡◌, length}
use Rattle.dkv_wire.specs.Steps.{to_come}
use Rattle.dkv_msgs.specs.ByField.{payloads}
use Rattle.dkv_msgs.proofs.read_fields.Payloads.next.Given as goal

abbrev pub invariant-loop-found : goal.invariant-loop-found
invariant-loop-found l = payloads l.self-inside.field (to_come l.self-inside.fields) ≡ payloads l.initial.self-inside.field (to_come l.initial.self-inside.fields)

abbrev pub decreases-loop-found : goal.decreases-loop-found
decreases-loop-found l = length l.self-inside.fields.bytes
