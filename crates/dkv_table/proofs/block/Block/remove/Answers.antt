use Rattle.std.proofs.Common.{arith}
use Rattle.dkv_table.proofs.Parts.{in_order-without}
use Rattle.dkv_table.proofs.block.Block.remove.Goals as goal

pub invariant_of-self : goal.invariant_of-self
invariant_of-self c = record {
  in_order = rw c.take_out.ensures.content (in_order-without c.args.key.now c.self.inside.entries.items c.self.invariant.in_order);
  at_most = omega arith;
  room = rw c.take_out.ensures.capacity c.self.invariant.room;
}
