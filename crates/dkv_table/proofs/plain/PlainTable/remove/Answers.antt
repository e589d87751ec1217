use Rattle.dkv_table.proofs.Parts.{in_order-without}
use Rattle.dkv_table.proofs.plain.PlainTable.remove.Goals as goal

pub invariant_of-self : goal.invariant_of-self
invariant_of-self c = record { ordered = rw c.take_out.ensures.content (in_order-without c.args.key.now _ c.args.self.now.ordered) }
