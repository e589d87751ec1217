-- The step on the word now keeps the rule.
use Rattle.std.proofs.Common.{inl, inr, false, ◌∙◌, lt_of_not-le, ◌≡◌, ℕ, ◌%◌, ◌≤◌, List, [], ◌∷◌, length, get_or, set, Option, sym, refl, ap, subst, arith, max}
use mathlib.Core.Option.{none}
use mathlib.Core.Logic.{dite}
use native.Mathlib.Decide.{dec_le}
use Rattle.atomic_table.specs.Table.{step, keeps, Allows}
use Rattle.dkv_turn.specs.declared.view.Stage.{Stage}
use Rattle.dkv_turn.specs.declared.view.Stage.TheVariants.{Idle}
use Rattle.dkv_turn.specs.declared.view.View.{View}
use Rattle.dkv_turn.specs.Views.{IsHolding, with_moment, with_handed}
use Rattle.dkv_turn.specs.Rule.{KeptIn}
use Rattle.dkv_turn.specs.Steps.{Raised}
use Rattle.dkv_turn.proofs.Parts.{false-ne-true, not_held_before}
use Rattle.dkv_turn.proofs.Standing.{restep}

module _ {I G V : Type 0} (carries : I → ℕ) (items : V → List I) (lent : V → ℕ) (grounds : V → G) (base : G) where
  pub raises : (n id : ℕ) (v : View I G) (cs : List (ℕ × Option V)) (k : ℕ) → v.spent ≡ false → v.stage ≡ Idle → k ≤ 253370764800000
      → Allows (KeptIn carries items lent grounds base) n id (v, cs) 3 (λ x. max x k) (λ x m. Raised (step n 3 k 0 none) (v, cs) x m)
  raises n id v cs k live idle low s r wide at lt =
      let kn = r.each id v at in
      let is : set s.words 3 (max (get_or s.words 3 0) k) ≡ (r.drawn % 18446744073709551616) ∷ (r.served % 18446744073709551616) ∷ length r.log ∷ max r.now k ∷ r.loan ∷ []
      = ap (λ (ws : List ℕ). set ws 3 (max (get_or ws 3 0) k)) r.words_are in
      let found : get_or s.words 3 0 ≡ r.now = ap (λ (ws : List ℕ). get_or ws 3 0) r.words_are in
      let free : ¬ IsHolding v.stage = subst (λ (t : Stage I). ¬ IsHolding t) (sym idle) (λ h. h) in
      let w = with_moment (with_handed v k) (max (get_or s.words 3 0) k) in
      let capped = r.capped in (
        w,
        keeps,
        tt,
        restep r id v w at _ s.homes r.drawn r.served r.log (max r.now k) r.loan r.home is r.homes_are r.short (omega arith)
            (λ f. omega arith) (λ f. refl) refl refl r.given
            (dite (dec_le r.now k) (λ (le : r.now ≤ k). inl (omega arith)) (λ more. let less = lt_of_not-le more in inr (omega arith, omega arith)))
            record {
              shares_closed = kn.shares_closed;
              begins = kn.begins;
              within = kn.within;
              stands = kn.stands;
              gives = kn.gives;
              gives_none = kn.gives_none;
              at_most = omega arith;
              lends = kn.lends;
              grounded = kn.grounded;
              rests = λ gone. absurd (false-ne-true (sym live ∙ gone));
            }
            (λ j u ne a h. let le = h.at_most in record {
              shares_closed = h.shares_closed;
              begins = h.begins;
              within = h.within;
              stands = h.stands;
              gives = h.gives;
              gives_none = h.gives_none;
              at_most = omega arith;
              lends = h.lends;
              grounded = h.grounded;
              rests = h.rests;
            })
            (λ nobody. let home = r.at_home (not_held_before s.views id v w at free nobody) in record {
              value = home.value;
              there = home.there;
              keeps_log = home.keeps_log;
              keeps_loan = home.keeps_loan;
              keeps_ground = home.keeps_ground;
            }),
        record { seat = refl; rises = let le = kn.at_most in omega arith; most = omega arith },
      )
