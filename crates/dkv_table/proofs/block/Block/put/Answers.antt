use Rattle.std.proofs.Common.{◌≡◌, ◌+◌, ◌<◌, length, arith, sym, ap, subst, ◌∙◌}
use Rattle.std.specs.Prelude.{is_some, if◌then◌else◌}
use Rattle.dkv_base.specs.State.{entry_at}
use Rattle.dkv_base.proofs.KeyOrder.{is_in_key_order-put}
use Rattle.dkv_table.proofs.Parts.{put_fits}
use Rattle.dkv_table.proofs.block.Block.put.Goals as goal

pub invariant_of-self : goal.invariant_of-self
invariant_of-self c =
    let es = c.self.inside.entries.items in
    let len : length c.store.new.entries.items ≡ length es + (if is_some c.store.result then 0 else 1) = omega (arith, c.store.ensures.len) in
    record {
      in_order = rw c.store.ensures.content (is_in_key_order-put c.args.entry es c.self.invariant.in_order);
      at_most = put_fits c.store.result _ _ len c.self.invariant.at_most (λ none. subst (λ xs. length xs < 128) (sym c.self.view_is) (c.requires (ap (entry_at c.args.entry.key) (sym c.self.view_is) ∙ sym c.store.ensures.was ∙ none)));
      room = rw c.store.ensures.capacity c.self.invariant.room;
    }
