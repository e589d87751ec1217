-- The steps on the word loan keep the rule.
use Rattle.std.proofs.Common.{◌≡◌, ℕ, ◌%◌, false, List, [], ◌∷◌, length, get_or, set, Option, Some, sym, refl, ap, ◌∙◌, subst, inl, inr, arith}
use mathlib.Core.Option.{none}
use Rattle.atomic_table.specs.Table.{step, keeps, Allows}
use Rattle.atomic_table.proofs.Lists.{set_here}
use Rattle.dkv_turn.specs.declared.view.Stage.{Stage}
use Rattle.dkv_turn.specs.declared.view.Stage.TheVariants.{Holding}
use Rattle.dkv_turn.specs.declared.view.View.{View}
use Rattle.dkv_turn.specs.Histories.{mine}
use Rattle.dkv_turn.specs.Views.{IsHolding, number_of, log_of, loan_of, with_note, with_loan}
use Rattle.dkv_turn.specs.Rule.{stage_weight, ticket, lent_to, KeptIn}
use Rattle.dkv_turn.specs.Steps.{Noted, Changed}
use Rattle.dkv_turn.proofs.Sums.{terms_le, only, only-same}
use Rattle.dkv_turn.proofs.Parts.{held_is, at_bound, false-ne-true, holding_number, holding_served, stands_anywhere}
use Rattle.dkv_turn.proofs.Standing.{restep, lone}

module _ {I G V : Type 0} (carries : I → ℕ) (items : V → List I) (lent : V → ℕ) (grounds : V → G) (base : G) where
  pub notes : (n id : ℕ) (v : View I G) (cs : List (ℕ × Option V)) (k : ℕ) (xs : List I) (l : ℕ) (o : Option ℕ) → v.stage ≡ Holding k xs l o
      → Allows (KeptIn carries items lent grounds base) n id (v, cs) 4 (λ x. x) (Noted (step 0 0 0 0 none) (v, cs))
  notes n id v cs k xs l o held s r wide at lt =
      let kn = r.each id v at in let stood = held_is r.served r.log r.loan held kn.stands in
      let is : set s.words 4 (get_or s.words 4 0) ≡ (r.drawn % 18446744073709551616) ∷ (r.served % 18446744073709551616) ∷ length r.log ∷ r.now ∷ r.loan ∷ []
      = ap (λ (ws : List ℕ). set ws 4 (get_or ws 4 0)) r.words_are in
      let found : get_or s.words 4 0 ≡ r.loan = ap (λ (ws : List ℕ). get_or ws 4 0) r.words_are in
      let number : number_of v.stage ≡ k = ap number_of held in
      let w = with_note v (get_or s.words 4 0) in (
        w,
        keeps,
        tt,
        restep r id v w at _ s.homes r.drawn r.served r.log r.now r.loan r.home is r.homes_are r.short r.capped
            (λ f. let a : f (number_of v.stage) ≡ f k = ap f number in let b : ticket f v ≡ f k = ap (stage_weight f) held in omega arith) (λ f. refl) refl refl r.given (inr (omega arith, omega arith))
            record {
              shares_closed = kn.shares_closed;
              begins = kn.begins;
              within = kn.within;
              stands = (number ∙ stood.0, ap log_of held ∙ stood.1, ap loan_of held ∙ stood.2, found);
              gives = kn.gives;
              gives_none = kn.gives_none;
              at_most = kn.at_most;
              lends = kn.lends;
              grounded = kn.grounded;
              rests = λ gone. let e = (kn.rests gone).0 in absurd (subst (λ (t : Stage I). ¬ IsHolding t) (sym e) (λ h. h) (subst IsHolding (sym held) tt));
            }
            (λ j u ne a h. h)
            (λ never. absurd (never id w (set_here s.views id w (at_bound s.views id v at)) tt)),
        (found ∙ (sym stood.2 ∙ sym (ap loan_of held)), refl),
      )

  pub changes : (n id : ℕ) (v : View I G) (cs : List (ℕ × Option V)) (k : ℕ) (xs : List I) (l m new : ℕ) → v.spent ≡ false → v.stage ≡ Holding k xs l (Some m) → v.loan ≡ m
      → Allows (KeptIn carries items lent grounds base) n id (v, cs) 4 (λ _. new) (λ x m. Changed (step n 4 new 0 none) (v, cs) x m)
  changes n id v cs k xs l m new live held mine s r wide at lt =
      let kn = r.each id v at in let stood = held_is r.served r.log r.loan held kn.stands in
      let is : set s.words 4 new ≡ (r.drawn % 18446744073709551616) ∷ (r.served % 18446744073709551616) ∷ length r.log ∷ r.now ∷ new ∷ []
      = ap (λ (ws : List ℕ). set ws 4 new) r.words_are in
      let number : number_of v.stage ≡ k = ap number_of held in
      let weight : (f : ℕ → ℕ) → ticket f v ≡ f k = λ f. ap (stage_weight f) held in
      let all : v.loan ≡ r.loan = mine ∙ stood.3 in
      let w = with_loan v new in (
        w,
        keeps,
        tt,
        restep r id v w at _ s.homes r.drawn r.served r.log r.now new r.home is r.homes_are r.short r.capped
            (λ f. let a : f (number_of v.stage) ≡ f k = ap f number in omega (arith, weight f)) (λ f. refl) refl (omega arith) r.given (inr (omega arith, omega arith))
            record {
              shares_closed = kn.shares_closed;
              begins = kn.begins;
              within = kn.within;
              stands = (number ∙ stood.0, ap log_of held ∙ stood.1, refl, refl);
              gives = kn.gives;
              gives_none = kn.gives_none;
              at_most = kn.at_most;
              lends = inr refl;
              grounded = kn.grounded;
              rests = λ gone. absurd (false-ne-true (sym live ∙ gone));
            }
            (λ j u ne a h.
            let resting : ¬ IsHolding u.stage = λ holds. let q : number_of u.stage ≡ k = holding_served r.served r.log r.loan u.stage holds h.stands ∙ sym stood.0 in
            lone r id j v u k ne at a (weight (only k) ∙ only-same k) (holding_number (only k) u.stage holds ∙ (ap (only k) q ∙ only-same k)) in
            let t = terms_le lent_to s.views id j v u ne at a in let o = r.one_loan in
            record {
              shares_closed = h.shares_closed;
              begins = h.begins;
              within = h.within;
              stands = stands_anywhere r.served r.served r.log r.log r.loan new u.stage resting h.stands;
              gives = h.gives;
              gives_none = h.gives_none;
              at_most = h.at_most;
              lends = inl (omega arith);
              grounded = h.grounded;
              rests = h.rests;
            })
            (λ never. absurd (never id w (set_here s.views id w (at_bound s.views id v at)) tt)),
        refl,
      )
