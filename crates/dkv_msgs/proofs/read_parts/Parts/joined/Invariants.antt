use Rattle.std.proofs.Common.{length}
use Rattle.dkv_wire.specs.FieldLists.{fields}
use Rattle.dkv_msgs.specs.ByField.{joined}
use Rattle.dkv_msgs.proofs.Joined.{Gathers}
use Rattle.dkv_msgs.proofs.read_parts.Parts.joined.Given as goal

abbrev pub invariant-loop-text : goal.invariant-loop-text
invariant-loop-text l = Gathers l.parts l.texts (joined l.field (fields 0 l.bytes))

abbrev pub decreases-loop-text : goal.decreases-loop-text
decreases-loop-text l = length l.texts
