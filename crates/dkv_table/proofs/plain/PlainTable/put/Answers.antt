use Rattle.dkv_base.proofs.KeyOrder.{is_in_key_order-put}
use Rattle.dkv_table.proofs.plain.PlainTable.put.Goals as goal

pub invariant_of-self : goal.invariant_of-self
invariant_of-self c = record { ordered = rw c.store.ensures.content (is_in_key_order-put c.args.entry _ c.args.self.now.ordered) }
