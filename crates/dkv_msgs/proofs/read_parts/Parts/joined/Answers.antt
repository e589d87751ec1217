use Rattle.std.proofs.Common.{sym, ◌∙◌}
use Rattle.dkv_wire.specs.FieldLists.{fields}
use Rattle.dkv_msgs.specs.ByField.{joined}
use Rattle.dkv_msgs.proofs.Joined.{gathers_first, gathers_next}
use Rattle.dkv_msgs.proofs.read_parts.Parts.joined.Goals as goal

pub loop-text-init : goal.loop-text-init
loop-text-init c =
    gathers_first c.of-parts.result c.args.field (fields 0 c.args.bytes.now) c.in_ok-next.field-0.now c.next.new.self (sym c.new-texts.ensures ∙ c.in_ok-next.ensures) c.of-parts.ensures

pub loop-text-preserved : goal.loop-text-preserved
loop-text-preserved c =
    gathers_next c.loop-text.parts c.then-parts.result c.in-Some.text.now c.next-in-loop-text.new.self c.loop-text.texts (joined c.args.field (fields 0 c.args.bytes.now)) c.in-Some.ensures c.then-parts.ensures c.loop-text.invariant
