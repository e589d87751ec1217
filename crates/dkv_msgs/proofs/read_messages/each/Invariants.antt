use Rattle.std.proofs.Common.{◌≡◌, ◌++◌, map, length}
use Rattle.dkv_wire.specs.FieldLists.{fields}
use Rattle.dkv_msgs.specs.Messages.{each_of}
use Rattle.dkv_msgs.proofs.read_messages.each.Given as goal

abbrev pub invariant-loop-text : goal.invariant-loop-text
invariant-loop-text g l = l.all ++ map (λ t. g.M.Embedded.read_of (fields 0 t)) l.texts ≡ each_of g.M.Embedded.read_of l.field (fields 0 l.bytes)

abbrev pub decreases-loop-text : goal.decreases-loop-text
decreases-loop-text g l = length l.texts
