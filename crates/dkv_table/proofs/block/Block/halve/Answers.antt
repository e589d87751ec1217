use Rattle.std.proofs.Common.{◌≡◌, true, arith, sym, subst}
use Rattle.dkv_base.specs.State.{is_in_key_order}
use Rattle.dkv_table.proofs.Parts.{in_order-front, in_order-back}
use Rattle.dkv_table.proofs.block.Block.halve.Goals as goal

pub invariant_of-self : goal.invariant_of-self
invariant_of-self c =
    let both = subst (λ es. is_in_key_order es ≡ true) (sym c.move_half.ensures.content) c.self.invariant.in_order in
    record {
      in_order = in_order-front c.move_half.new.lower.items c.move_half.new.upper.items both;
      at_most = omega arith;
      room = rw c.move_half.ensures.lower_capacity c.self.invariant.room;
    }

pub invariant_of-upper : goal.invariant_of-upper
invariant_of-upper c =
    let both = subst (λ es. is_in_key_order es ≡ true) (sym c.move_half.ensures.content) c.self.invariant.in_order in
    record {
      in_order = in_order-back c.move_half.new.lower.items c.move_half.new.upper.items both;
      at_most = omega arith;
      room = rw c.move_half.ensures.upper_capacity c.upper.invariant.room;
    }
