use Rattle.std.proofs.Common.{◌≡◌, ◌+◌, ◌≤◌, length}
use Rattle.dkv_wire.specs.FieldLists.{fields}
use Rattle.dkv_wire.specs.Steps.{to_come}
use Rattle.dkv_msgs.specs.ByField.{payloads}
use Rattle.dkv_msgs.proofs.read_counts.WriteCounts.of.Given as goal

abbrev pub invariant-loop-found : goal.invariant-loop-found
invariant-loop-found l = record {
  checks : l.counts.checks + length (payloads 1 (to_come l.fields)) ≡ length (payloads 1 (fields 0 l.bytes));
  mutations : l.counts.mutations + length (payloads 2 (to_come l.fields)) ≡ length (payloads 2 (fields 0 l.bytes));
  enqueues : l.counts.enqueues + length (payloads 3 (to_come l.fields)) ≡ length (payloads 3 (fields 0 l.bytes));
  few : l.counts.checks + l.counts.mutations + l.counts.enqueues + length l.fields.bytes ≤ length l.bytes;
}

abbrev pub decreases-loop-found : goal.decreases-loop-found
decreases-loop-found l = length l.fields.bytes
