use Rattle.std.proofs.Common.{◌≡◌, length}
use Rattle.dkv_wire.specs.FieldLists.{fields}
use Rattle.dkv_wire.specs.Steps.{to_come}
use Rattle.dkv_msgs.specs.ByField.{last_or, held_by, number_in, payloads}
use Rattle.dkv_msgs.proofs.read_parts.Parts.then.Given as goal

abbrev pub invariant-loop-found : goal.invariant-loop-found
invariant-loop-found l = record {
  bytes1 : last_or l.parts.bytes1.now (payloads 1 (to_come l.fields)) ≡ last_or l.self.bytes1.now (payloads 1 (fields 0 l.bytes));
  bytes2 : last_or l.parts.bytes2.now (payloads 2 (to_come l.fields)) ≡ last_or l.self.bytes2.now (payloads 2 (fields 0 l.bytes));
  bytes4 : last_or l.parts.bytes4.now (payloads 4 (to_come l.fields)) ≡ last_or l.self.bytes4.now (payloads 4 (fields 0 l.bytes));
  number1 : last_or l.parts.number1 (held_by number_in 1 (to_come l.fields)) ≡ last_or l.self.number1 (held_by number_in 1 (fields 0 l.bytes));
  number2 : last_or l.parts.number2 (held_by number_in 2 (to_come l.fields)) ≡ last_or l.self.number2 (held_by number_in 2 (fields 0 l.bytes));
  number3 : last_or l.parts.number3 (held_by number_in 3 (to_come l.fields)) ≡ last_or l.self.number3 (held_by number_in 3 (fields 0 l.bytes));
  number4 : last_or l.parts.number4 (held_by number_in 4 (to_come l.fields)) ≡ last_or l.self.number4 (held_by number_in 4 (fields 0 l.bytes));
}

abbrev pub decreases-loop-found : goal.decreases-loop-found
decreases-loop-found l = length l.fields.bytes
