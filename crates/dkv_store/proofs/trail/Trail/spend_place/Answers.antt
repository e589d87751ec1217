use Rattle.std.proofs.Common.{◌≡◌, ◌-◌, ◌∙◌, ap, subst, sym, ℕ, true, arith}
use Rattle.std.specs.Prelude.{vec_len, vec_capacity}
use Rattle.dkv_base.specs.Messages.{is_out}
use Rattle.dkv_base.specs.Trails.{out}
use Rattle.dkv_store.specs.Trails.{Items, KeepsPlaces}
use Rattle.dkv_store.proofs.Placing.{one_kept, kept_spent}
use Rattle.dkv_store.proofs.trail.Trail.spend_place.Goals as goal

pub push_reserved-requires : goal.push_reserved-requires
push_reserved-requires c =
    let i = c.self.inside in
    let free = ap (is_out c.args.id) (sym c.deref.ensures.value) ∙ sym c.holds.ensures ∙ c.if-holds.false in
    let is = subst (λ (t : Items). is_out c.args.id (out t.items) ≡ true) (sym c.self.view_is) c.requires in
    let one = one_kept i.items.items (vec_len i.items) (vec_capacity i.items) i.lost.items (vec_len i.lost) (vec_capacity i.lost) i.kept i.settling c.self.invariant.1 c.args.id is free in
    let w = c.self.invariant.1.lost_within in
    omega (arith, one, w)

pub overflow_sub-self : goal.overflow_sub-self
overflow_sub-self c =
    let i = c.self.inside in
    let free = ap (is_out c.args.id) (sym c.deref.ensures.value) ∙ sym c.holds.ensures ∙ c.if-holds.false in
    let is = subst (λ (t : Items). is_out c.args.id (out t.items) ≡ true) (sym c.self.view_is) c.requires in
    one_kept i.items.items (vec_len i.items) (vec_capacity i.items) i.lost.items (vec_len i.lost) (vec_capacity i.lost) i.kept i.settling c.self.invariant.1 c.args.id is free

pub invariant_of-self : goal.invariant_of-self
invariant_of-self c =
    let i = c.self.inside in
    let n = c.push_reserved.new.self in
    let free = ap (is_out c.args.id) (sym c.deref.ensures.value) ∙ sym c.holds.ensures ∙ c.if-holds.false in
    let is = subst (λ (t : Items). is_out c.args.id (out t.items) ≡ true) (sym c.self.view_is) c.requires in
    let one = one_kept i.items.items (vec_len i.items) (vec_capacity i.items) i.lost.items (vec_len i.lost) (vec_capacity i.lost) i.kept i.settling c.self.invariant.1 c.args.id is free in
    let keeps = kept_spent i.items.items (vec_len i.items) (vec_capacity i.items) i.lost.items (vec_len i.lost) (vec_capacity i.lost) i.kept i.settling c.self.invariant.1
    c.args.id n.items (vec_len n) (i.kept - 1) is free (omega (arith, one)) c.push_reserved.ensures.items c.push_reserved.ensures.len in
    (c.self.invariant.0, subst (λ (most : ℕ). KeepsPlaces i.items.items (vec_len i.items) (vec_capacity i.items) n.items (vec_len n) most (i.kept - 1) i.settling) (sym c.push_reserved.ensures.capacity) keeps, c.self.invariant.2)

pub returns-clause-room : goal.returns-clause-room
returns-clause-room c =
    let i = c.self.inside in
    let free = ap (is_out c.args.id) (sym c.deref.ensures.value) ∙ sym c.holds.ensures ∙ c.if-holds.false in
    let is = subst (λ (t : Items). is_out c.args.id (out t.items) ≡ true) (sym c.self.view_is) c.requires in
    let one = one_kept i.items.items (vec_len i.items) (vec_capacity i.items) i.lost.items (vec_len i.lost) (vec_capacity i.lost) i.kept i.settling c.self.invariant.1 c.args.id is free in
    let w = c.self.invariant.1.within in
    omega (arith, one, w)
