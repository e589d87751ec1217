use Rattle.std.proofs.Common.{rules, ◌≡◌, ◌||◌, ◌∙◌, ap, subst, sym, refl, ℕ, Some, length, arith}
use Rattle.std.specs.Prelude.{vec_len, vec_capacity}
use Rattle.std.specs.Option.{option_or}
use Rattle.dkv_base.specs.declared.types.Item.{Item}
use Rattle.dkv_base.specs.declared.types.Item.TheVariants as item
use Rattle.dkv_base.specs.Trails.{weight}
use Rattle.dkv_store.specs.Trails.{KeepsPlaces}
use Rattle.dkv_store.proofs.Placing.{kept_added, weighed_on}
use Rattle.dkv_store.proofs.Stopping.{knows_stop}
use Rattle.dkv_store.proofs.trail.Trail.add_stop.Goals as goal

pub invariant_of-self : goal.invariant_of-self
invariant_of-self c =
    let i = c.self.inside in
    let n = c.push_reserved.new.self in
    let x : Item = item.Stop c.args.who c.args.at c.args.last in
    let room = ap (λ t. t.room) c.self.view_is in
    let one = c.in_ok-make_place.ensures.room in
    let many : c.len-place.result ≡ length i.items.items = search rules in
    let first : c.or-self-inside.result ≡ option_or i.stop (Some c.len-place.result) = search rules in
    let ended : c.if-self.self ≡ (i.ended || c.args.last) = search rules in
    let keeps = kept_added i.items.items (vec_len i.items) (vec_capacity i.items) i.lost.items (vec_len i.lost) (vec_capacity i.lost) i.kept i.settling c.self.invariant.1
    x n.items (vec_len n) refl (omega (arith, room, one)) c.push_reserved.ensures.items c.push_reserved.ensures.len in
    let weighs = weighed_on i.items.items x i.weight 64 c.saturating_add-self-inside.result c.self.invariant.0 refl c.saturating_add-self-inside.ensures in (
      weighs ∙ ap weight (sym c.push_reserved.ensures.items),
      subst (λ (most : ℕ). KeepsPlaces n.items (vec_len n) most i.lost.items (vec_len i.lost) (vec_capacity i.lost) i.kept i.settling) (sym c.push_reserved.ensures.capacity) keeps,
      knows_stop i.items.items n.items c.args.who c.args.at c.args.last i.stop c.or-self-inside.result i.ended c.if-self.self c.len-place.result c.self.invariant.2 c.push_reserved.ensures.items many first ended,
    )
