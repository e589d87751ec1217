use Rattle.std.proofs.Common.{◌≡◌, ◌++◌, length}
use Rattle.dkv_wire.specs.FieldLists.{fields}
use Rattle.dkv_wire.specs.Steps.{to_come}
use Rattle.dkv_msgs.specs.Messages.{each_of, check, mutation, enqueue}
use Rattle.dkv_msgs.proofs.read_messages.write_of.Given as goal

abbrev pub invariant-loop-found : goal.invariant-loop-found
invariant-loop-found l = record {
  checks : l.checks ++ each_of check 1 (to_come l.fields) ≡ each_of check 1 (fields 0 l.bytes);
  mutations : l.mutations ++ each_of mutation 2 (to_come l.fields) ≡ each_of mutation 2 (fields 0 l.bytes);
  enqueues : l.enqueues ++ each_of enqueue 3 (to_come l.fields) ≡ each_of enqueue 3 (fields 0 l.bytes);
}

abbrev pub decreases-loop-found : goal.decreases-loop-found
decreases-loop-found l = length l.fields.bytes
