use Rattle.std.proofs.Common.{sym, ap, ◌∙◌}
use Rattle.dkv_base.specs.State.{entry_at}
use Rattle.dkv_table.proofs.KeyBlocks.{entry_at-seat}
use Rattle.dkv_table.proofs.blocks.BlocksTable.get.Goals as goal

pub returns : goal.returns
returns c =
    let seat = rw c.deref.ensures.value at c.in_ok-at.ensures.some in
    c.get.ensures ∙ ap (entry_at c.args.key.now) c.index.ensures ∙ sym (entry_at-seat c.args.key.now c.args.self.now.blocks.items c.in_ok-at.at c.index.result.now seat)
