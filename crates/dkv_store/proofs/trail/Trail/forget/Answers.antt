use Rattle.std.proofs.Common.{◌≡◌, subst, sym, ℕ, false}
use Rattle.std.specs.Prelude.{vec_len, vec_capacity}
use Rattle.dkv_base.specs.Messages.{is_out}
use Rattle.dkv_base.specs.Trails.{out}
use Rattle.dkv_store.specs.Trails.{Items, KeepsPlaces}
use Rattle.dkv_store.proofs.Placing.{kept_forgot}
use Rattle.dkv_store.proofs.trail.Trail.forget.Goals as goal

pub invariant_of-self : goal.invariant_of-self
invariant_of-self c =
    let i = c.self.inside in
    let n = c.drop_id.new.ids in
    let free = subst (λ (t : Items). is_out c.args.id (out t.items) ≡ false) (sym c.self.view_is) c.requires in
    let keeps = kept_forgot i.items.items (vec_len i.items) (vec_capacity i.items) i.lost.items (vec_len i.lost) (vec_capacity i.lost) i.kept i.settling c.self.invariant.1
    c.args.id n.items (vec_len n) free c.drop_id.ensures.ids c.drop_id.ensures.len in
    (c.self.invariant.0, subst (λ (most : ℕ). KeepsPlaces i.items.items (vec_len i.items) (vec_capacity i.items) n.items (vec_len n) most i.kept i.settling) (sym c.drop_id.ensures.capacity) keeps, c.self.invariant.2)
