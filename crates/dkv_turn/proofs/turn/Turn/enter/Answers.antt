-- The steps of an entry keep the rule, and what they tell makes the clauses.
use Rattle.std.proofs.Common.{rules, ap, ◌∙◌, ◌∷◌, Some, None, ◌≡◌, ◌<◌, sym, subst}
use Rattle.dkv_turn.specs.Views.{number_of, loan_of}
use Rattle.dkv_turn.specs.declared.view.Stage.TheVariants.{Holding}
use Rattle.atomic_table.specs.Table.{rest}
use Rattle.dkv_turn.proofs.Tickets.{draws}
use Rattle.dkv_turn.proofs.Items.{learns}
use Rattle.dkv_turn.proofs.Loans.{notes}
use Rattle.dkv_turn.proofs.Entered.{inside_after, seen_after, own_since, same_slot}
use Rattle.dkv_turn.proofs.turn.Turn.enter.Goals as goal

pub fetch_add-number-requires : goal.fetch_add-number-requires
fetch_add-number-requires g c = let s = c.args.pass.now.seat in let o = c.requires.outside in
    (search rules, search rules, draws _ _ _ _ _ _ _ s.me.0 s.me.1 o.0 o.1)

pub load-count-requires : goal.load-count-requires
load-count-requires g c = let s = c.await_turn.new.seat in let got = c.await_turn.ensures.got in let drew = c.fetch_add-number.ensures.2 in
    (search rules, search rules, learns _ _ _ _ _ _ _ s.me.0 s.me.1 _ _ _ _ (ap (λ m. m.0.spent) got.seat ∙ (ap (λ m. m.0.spent) drew.2 ∙ c.requires.outside.0)) (ap (λ m. m.0.stage) got.seat))

pub load-pass-requires : goal.load-pass-requires
load-pass-requires g c = let s = c.load-count.new.seat in let got = c.await_turn.ensures.got in
    (search rules, search rules, notes _ _ _ _ _ _ _ s.me.0 s.me.1 _ _ _ _ (ap (λ m. m.0.stage) c.load-count.ensures.2.1 ∙ ap (λ m. m.0.stage) got.seat))

pub exchange-requires : goal.exchange-requires
exchange-requires g c = let got = c.await_turn.ensures.got in
    let slot = ap (λ m. m.1) c.load-pass.ensures.2.1 ∙ (ap (λ m. m.1) c.load-count.ensures.2.1 ∙ ap (λ m. m.1) got.seat) in
    (search rules, (Some got.value, slot ∙ ap (λ l. (0, Some got.value) ∷ rest l) (sym slot)))

pub returns-clause-inside : goal.returns-clause-inside
returns-clause-inside g c =
    let got = c.await_turn.ensures.got in let drew = c.fetch_add-number.ensures.2 in let m = c.fetch_add-number.new.seat.me.0 in
    let slot = ap (λ m. m.1) c.load-pass.ensures.2.1 ∙ (ap (λ m. m.1) c.load-count.ensures.2.1 ∙ ap (λ m. m.1) got.seat) in
    let out : Some got.value ≡ c.exchange.result = same_slot g.V.Chronicle.carries g.V.Chronicle.items g.V.Chronicle.lent g.V.Chronicle.grounds (g.V.Chronicle.grounds c.args.self.now.table.shared.key.value) _ _ _ _ (sym slot ∙ c.exchange.ensures.2) in
    let same : got.value ≡ c.unwrap-value.result = cc (out, c.unwrap-value.ensures) in
    let w = inside_after g.V.Chronicle.carries g.V.Chronicle.items g.V.Chronicle.lent g.V.Chronicle.grounds (g.V.Chronicle.grounds c.args.self.now.table.shared.key.value)
    m c.await_turn.new.seat.me.0 c.load-count.new.seat.me.0 c.load-pass.new.seat.me.0 c.exchange.new.seat.me.0 got.value c.unwrap-value.result c.load-pass.result
    (ap (λ m. m.0) got.seat) (ap (λ m. m.0) c.load-count.ensures.2.1) c.load-pass.ensures.2.0 (ap (λ m. m.0) c.load-pass.ensures.2.1) (ap (λ m. m.0) c.exchange.ensures.3) same
    (ap (λ m. m.0.spent) drew.2 ∙ c.requires.outside.0) in
    let lent : c.exchange.new.seat.me.0.loan ≡ m.loan = ap (λ m. m.0.loan) c.exchange.ensures.3 ∙ (ap (λ m. m.0.loan) c.load-pass.ensures.2.1 ∙ (ap (λ m. m.0.loan) c.load-count.ensures.2.1 ∙ ap (λ m. m.0.loan) got.seat)) in (
      (number_of m.stage, w.0, w.1 ∙ ap (λ l. Holding (number_of m.stage) c.exchange.new.seat.me.0.seen l (Some l)) (sym (ap loan_of w.1)), ap (λ m. m.1) c.exchange.ensures.3 ∙ ap (λ l. (0, None) ∷ l) (ap rest slot ∙ (ap (λ m. m.1) drew.2 ∙ c.requires.outside.2))),
      λ some. ap loan_of w.1 ∙ (ap g.V.Chronicle.lent (sym same) ∙ (got.same_loan (subst (λ n. 0 < n) lent some) ∙ sym lent)),
    )

pub returns-clause-mine : goal.returns-clause-mine
returns-clause-mine g c =
    let got = c.await_turn.ensures.got in let drew = c.fetch_add-number.ensures.2 in let m = c.fetch_add-number.new.seat.me.0 in
    own_since g.V.Chronicle.carries g.V.Chronicle.items g.V.Chronicle.lent g.V.Chronicle.grounds (g.V.Chronicle.grounds c.args.self.now.table.shared.key.value)
    c.args.pass.now.seat.me.0 m c.exchange.new.seat.me.0.seen got.value (ap (λ m. m.0.seen) drew.2) (ap (λ m. m.0.who) drew.2)
    (seen_after g.V.Chronicle.carries g.V.Chronicle.items g.V.Chronicle.lent g.V.Chronicle.grounds (g.V.Chronicle.grounds c.args.self.now.table.shared.key.value)
    m c.await_turn.new.seat.me.0 c.load-count.new.seat.me.0 c.load-pass.new.seat.me.0 c.exchange.new.seat.me.0 got.value c.load-pass.result
    (ap (λ m. m.0) got.seat) (ap (λ m. m.0) c.load-count.ensures.2.1) c.load-pass.ensures.2.0 (ap (λ m. m.0) c.load-pass.ensures.2.1) (ap (λ m. m.0) c.exchange.ensures.3))
    got.begins got.none_since
