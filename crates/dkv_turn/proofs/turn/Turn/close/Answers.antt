-- The value that the slot has at the end is the last pass's.
use Rattle.std.proofs.Common.{ap, ◌∙◌, ◌≡◌, ◌+◌, length, Some, sym, subst}
use Rattle.dkv_turn.specs.Ends.{Ends}
use Rattle.dkv_turn.proofs.Closes.{last_value}
use Rattle.dkv_turn.proofs.turn.Turn.close.Goals as goal

pub unreachable-requires : goal.unreachable-requires
unreachable-requires g c =
    let h = c.into_parts-seat.ensures.parts.0 in let o = c.requires.outside in let l = c.requires.last in
    let t = last_value _ _ _ _ _ _ _ c.take-slot.result c.into_parts-seat.result.0.me.0 _ c.close_with-closed.ensures.values.2 c.take-slot.ensures.value (ap (λ s. s.me.0.spent) h ∙ o.0) (ap (λ s. s.me.0.stage) h ∙ o.1) (ap (λ s. s.me.0.marked) h ∙ l.0) (ap (λ s. length s.me.0.gone + s.me.0.left) h ∙ l.1) in
    c.in_default.not-Some t.0 t.1

pub returns : goal.returns
returns g c =
    let h = c.into_parts-seat.ensures.parts.0 in let o = c.requires.outside in let l = c.requires.last in
    let t = last_value _ _ _ _ _ _ _ c.take-slot.result c.into_parts-seat.result.0.me.0 _ c.close_with-closed.ensures.values.2 c.take-slot.ensures.value (ap (λ s. s.me.0.spent) h ∙ o.0) (ap (λ s. s.me.0.stage) h ∙ o.1) (ap (λ s. s.me.0.marked) h ∙ l.0) (ap (λ s. length s.me.0.gone + s.me.0.left) h ∙ l.1) in
    let e : Some t.0 ≡ Some c.in-Some.value = sym t.1 ∙ c.in-Some.is in
    let same : t.0 ≡ c.in-Some.value = cc (e) in
    subst (Ends g.V.Chronicle.carries g.V.Chronicle.items g.V.Chronicle.lent g.V.Chronicle.grounds c.args.pass.seat.me.0) same (subst (λ s. Ends g.V.Chronicle.carries g.V.Chronicle.items g.V.Chronicle.lent g.V.Chronicle.grounds s.me.0 t.0) h t.2)
