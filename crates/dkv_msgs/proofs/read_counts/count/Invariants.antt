use Rattle.std.proofs.Common.{◌≡◌, ◌+◌, ◌≤◌, length}
use Rattle.dkv_wire.specs.FieldLists.{fields}
use Rattle.dkv_wire.specs.Steps.{to_come}
use Rattle.dkv_msgs.specs.ByField.{payloads}
use Rattle.dkv_msgs.proofs.read_counts.count.Given as goal

abbrev pub invariant-loop-found : goal.invariant-loop-found
invariant-loop-found l = record {
  total : l.count + length (payloads l.field (to_come l.fields)) ≡ length (payloads l.field (fields 0 l.bytes));
  few : l.count + length l.fields.bytes ≤ length l.bytes;
}

abbrev pub decreases-loop-found : goal.decreases-loop-found
decreases-loop-found l = length l.fields.bytes
