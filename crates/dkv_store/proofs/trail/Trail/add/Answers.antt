use Rattle.std.proofs.Common.{◌∙◌, ap, subst, sym, ℕ, arith}
use Rattle.std.specs.Prelude.{vec_len, vec_capacity}
use Rattle.dkv_base.specs.Trails.{weight}
use Rattle.dkv_store.specs.Trails.{KeepsPlaces}
use Rattle.dkv_store.proofs.Placing.{kept_added, weighed_on}
use Rattle.dkv_store.proofs.Stopping.{knows_on}
use Rattle.dkv_store.proofs.trail.Trail.add.Goals as goal

pub invariant_of-self : goal.invariant_of-self
invariant_of-self c =
    let i = c.self.inside in
    let n = c.push_reserved.new.self in
    let room = ap (λ t. t.room) c.self.view_is in
    let one = c.requires.room in
    let keeps = kept_added i.items.items (vec_len i.items) (vec_capacity i.items) i.lost.items (vec_len i.lost) (vec_capacity i.lost) i.kept i.settling c.self.invariant.1
    c.args.item n.items (vec_len n) c.requires.takes (omega (arith, room, one)) c.push_reserved.ensures.items c.push_reserved.ensures.len in
    let weighs = weighed_on i.items.items c.args.item i.weight c.args.weight c.saturating_add-self-inside.result c.self.invariant.0 c.requires.weighed c.saturating_add-self-inside.ensures in (
      weighs ∙ ap weight (sym c.push_reserved.ensures.items),
      subst (λ (most : ℕ). KeepsPlaces n.items (vec_len n) most i.lost.items (vec_len i.lost) (vec_capacity i.lost) i.kept i.settling) (sym c.push_reserved.ensures.capacity) keeps,
      knows_on i.items.items n.items c.args.item i.stop i.ended c.self.invariant.2 c.requires.goes_on c.push_reserved.ensures.items,
    )
