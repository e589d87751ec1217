use Rattle.std.proofs.Common.{◌≡◌, ◌++◌, [], map, length}
use Rattle.dkv_wire.specs.FieldLists.{fields}
use Rattle.dkv_wire.specs.Steps.{to_come}
use Rattle.dkv_msgs.specs.ByField.{last_or, held_by, number_in, payloads, numbers, uint32, last_bytes, last_number}
use Rattle.dkv_msgs.proofs.read_messages.EnqueueEmbedded.read.Given as goal

abbrev pub invariant-loop-found : goal.invariant-loop-found
invariant-loop-found l = record {
  payload : last_or l.payload (payloads 1 (to_come l.fields)) ≡ last_bytes 1 (fields 0 l.bytes);
  deadline : last_or l.deadline (held_by number_in 2 (to_come l.fields)) ≡ last_number 2 (fields 0 l.bytes);
  undelivered : l.undelivered ++ payloads 3 (to_come l.fields) ≡ payloads 3 (fields 0 l.bytes);
  backoff : l.backoff ++ map uint32 (numbers 4 (to_come l.fields)) ≡ map uint32 (numbers 4 (fields 0 l.bytes));
}

abbrev pub decreases-loop-found : goal.decreases-loop-found
decreases-loop-found l = length l.fields.bytes
