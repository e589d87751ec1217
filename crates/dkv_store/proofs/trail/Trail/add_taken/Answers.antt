use Rattle.std.proofs.Common.{◌≡◌, ◌+◌, rules, ◌∙◌, subst, sym, ap, List, [], ◌∷◌, ◌++◌, refl, false, arith}
use Rattle.std.specs.Prelude.{vec_len, vec_capacity}
use Rattle.dkv_base.specs.declared.types.Item.{Item}
use Rattle.dkv_base.specs.declared.types.Item.TheVariants as item
use Rattle.dkv_base.specs.Messages.{is_out}
use Rattle.dkv_base.specs.Trails.{out, weight}
use Rattle.dkv_core.specs.Settling.{without_id}
use Rattle.dkv_store.specs.Trails.{Items}
use Rattle.dkv_store.proofs.Placing.{kept_taken, weighed_on}
use Rattle.dkv_store.proofs.Stopping.{knows_on}
use Rattle.dkv_store.proofs.trail.Trail.add_taken.Goals as goal

pub invariant_of-self-2 : goal.invariant_of-self-2
invariant_of-self-2 c =
    let i = c.self.inside in
    let n = c.push_reserved.new.self in
    let d = c.drop_id.new.ids in
    let x : Item = item.Took c.args.who c.args.at c.args.id in
    let wanted : c.in_ok-wanted.wanted ≡ i.kept + 2 = search rules in
    let items = c.push_reserved.ensures.items ∙ ap (λ (l : List Item). l ++ x ∷ []) c.reserve.ensures.items in
    let more = c.push_reserved.ensures.len in
    let same = c.reserve.ensures.len in
    let had = c.in_ok-reserve.ensures.ok in
    let most = c.push_reserved.ensures.capacity in
    let few = c.drop_id.ensures.len in
    let lost_same = c.reserve-2.ensures.len in
    let lost_had = c.in_ok-reserve-2.ensures.ok in
    let lost_most = c.drop_id.ensures.capacity in
    let free = subst (λ (t : Items). is_out c.args.id (out t.items) ≡ false) (sym c.self.view_is) c.requires in
    let weighs = weighed_on i.items.items x i.weight 64 c.saturating_add-self-inside.result c.self.invariant.0 refl c.saturating_add-self-inside.ensures in (
      weighs ∙ ap weight (sym items),
      kept_taken i.items.items (vec_len i.items) (vec_capacity i.items) i.lost.items (vec_len i.lost) (vec_capacity i.lost) i.kept i.settling c.self.invariant.1
          c.args.who c.args.at c.args.id n.items (vec_len n) (vec_capacity n) d.items (vec_len d) (vec_capacity d) c.have_record.new.settling free
          items (omega (arith, more, same)) (omega (arith, wanted, had, same, most)) (c.drop_id.ensures.ids ∙ ap (without_id c.args.id) c.reserve-2.ensures.items)
          (omega (arith, few, lost_same)) (omega (arith, wanted, lost_had, lost_same, lost_most)) c.have_record.ensures.settling c.in_ok-have_record.ensures.there,
      knows_on i.items.items n.items x i.stop i.ended c.self.invariant.2 refl items,
    )
