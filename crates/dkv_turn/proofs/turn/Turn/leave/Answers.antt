-- The steps of a leave keep the rule, with one item more or none.
use Rattle.std.proofs.Common.{rules, ap, ◌∙◌, ◌∷◌, ◌++◌, [], Some, refl, sym, ⊎_elim, arith, length, length-append}
use Rattle.dkv_turn.specs.Views.{loan_of}
use Rattle.atomic_table.specs.Table.{rest}
use Rattle.dkv_turn.proofs.Tickets.{passes_on}
use Rattle.dkv_turn.proofs.Items.{adds}
use Rattle.dkv_turn.proofs.turn.Turn.leave.Goals as goal

pub fetch_add-requires : goal.fetch_add-requires
fetch_add-requires g c =
    let l = c.settle_loan.ensures in let i = l.inside in let p = c.args.pass.now in let e = c.exchange-before.ensures in let s = c.exchange-before.new.seat in (
      search rules,
      search rules,
      ⊎_elim
          (λ same. passes_on _ _ _ _ _ _ _ s.me.0 s.me.1 i.0 _ _ _ c.args.held.value _ (ap (λ m. m.0.spent) e.3 ∙ i.1) (ap (λ m. m.0.stage) e.3 ∙ i.2) (ap (λ m. m.1) e.3) (same ∙ sym l.same.seen) (sym c.loan-now.ensures)
          (ap (λ m. m.0.grounds) e.3 ∙ (l.same.grounds ∙ (c.requires.own.0.1 ∙ sym (ap Some c.requires.grounds)))))
          (λ one. absurd (omega (arith, ap length one.1, length-append p.seat.me.0.seen (one.0 ∷ []), p.counted, c.length-length.ensures.is, c.if-length-pass.true)))
          c.requires.items,
    )

pub fetch_add-requires-2 : goal.fetch_add-requires-2
fetch_add-requires-2 g c =
    let l = c.settle_loan.ensures in let i = l.inside in let p = c.args.pass.now in let e = c.exchange-before.ensures in let s = c.exchange-before.new.seat in
    let slot = ap (λ m. m.1) e.3 ∙ ap (λ l. (0, Some c.args.held.value) ∷ rest l) i.3 in (
      search rules,
      search rules,
      ⊎_elim
          (λ same. absurd (c.if-length-pass.false (c.length-length.ensures.is ∙ (ap length same ∙ sym p.counted))))
          (λ one. adds _ _ _ _ _ _ _ s.me.0 s.me.1 i.0 _ _ _ c.args.held.value one.0 (ap (λ m. m.0.spent) e.3 ∙ i.1) (ap (λ m. m.0.stage) e.3 ∙ i.2) (sym (ap (λ m. m.0.seen) e.3)) slot
          (one.1 ∙ ap (λ x. x ++ one.0 ∷ []) (sym l.same.seen ∙ ap (λ m. m.0.seen) (sym e.3))) (one.2 ∙ (sym l.same.who ∙ ap (λ m. m.0.who) (sym e.3))) (omega (arith, c.length-length.ensures.is, c.length-length.ensures.few)))
          c.requires.items,
    )

pub fetch_add-requires-3 : goal.fetch_add-requires-3
fetch_add-requires-3 g c =
    let l = c.settle_loan.ensures in let i = l.inside in let e = c.exchange-before.ensures in let s = c.exchange-before.new.seat in let t = c.fetch_add-2.new.seat in
    let slot = ap (λ m. m.1) e.3 ∙ ap (λ l. (0, Some c.args.held.value) ∷ rest l) i.3 in
    let a = c.fetch_add-2.ensures.2 c.args.held.value slot in (
      search rules,
      search rules,
      passes_on _ _ _ _ _ _ _ t.me.0 t.me.1 _ _ _ _ c.args.held.value _ (ap (λ m. m.0.spent) a ∙ (ap (λ m. m.0.spent) e.3 ∙ i.1)) (ap (λ m. m.0.stage) a) (ap (λ m. m.1) a ∙ slot) refl
          (sym c.loan-now.ensures ∙ sym (ap (λ m. loan_of m.0.stage) e.3 ∙ ap loan_of i.2)) (ap (λ m. m.0.grounds) a ∙ (ap (λ m. m.0.grounds) e.3 ∙ (l.same.grounds ∙ (c.requires.own.0.1 ∙ sym (ap Some c.requires.grounds))))),
    )
