-- A look at what the rule has of a pass that is outside, and what a join makes of two looks.
use Rattle.std.proofs.Common.{◌≡◌, ℕ, suc, ◌%◌, ◌≤◌, false, List, [], ◌∷◌, ◌++◌, length, get_or, set, Option, sym, refl, ap, ◌∙◌, subst, inr, arith, drop, length-append}
use Rattle.std.proofs.lemmas.List.{length-drop}
use mathlib.Core.Option.{some, none}
use mathlib.Core.List.{IsPrefix}
use lib.ListN.{get_elem?}
use Rattle.atomic_table.specs.Table.{step, keeps, Allows}
use Rattle.atomic_table.proofs.Lists.{at_last}
use Rattle.dkv_turn.specs.declared.view.Stage.{Stage}
use Rattle.dkv_turn.specs.declared.view.Stage.TheVariants.{Idle}
use Rattle.dkv_turn.specs.declared.view.View.{View}
use Rattle.dkv_turn.specs.Histories.{NoneSince, longer}
use Rattle.dkv_turn.specs.Views.{gone_of, IsHolding, shares, joined_view}
use Rattle.dkv_turn.specs.Rule.{KeptIn}
use Rattle.dkv_turn.specs.Steps.{Sat, Recalled, Recalls}
use Rattle.dkv_turn.proofs.Laws.{prefix_shorter, prefix_get}
use Rattle.dkv_turn.proofs.Parts.{not_held_before}
use Rattle.dkv_turn.proofs.Shares.{own_share, gone_share}
use Rattle.dkv_turn.proofs.Standing.{restep}

module _ {I G V : Type 0} (carries : I → ℕ) (items : V → List I) (lent : V → ℕ) (grounds : V → G) (base : G) where
  pub recalls : (n id : ℕ) (v : View I G) (cs : List (ℕ × Option V)) → v.stage ≡ Idle
      → Allows (KeptIn carries items lent grounds base) n id (v, cs) 0 (λ x. x) (Recalls carries (step 0 0 0 0 none) (v, cs))
  recalls n id v cs idle s r wide at lt =
      let kn = r.each id v at in
      let is : set s.words 0 (get_or s.words 0 0) ≡ (r.drawn % 18446744073709551616) ∷ (r.served % 18446744073709551616) ∷ length r.log ∷ r.now ∷ r.loan ∷ []
      = ap (λ (ws : List ℕ). set ws 0 (get_or ws 0 0)) r.words_are in
      let free : ¬ IsHolding v.stage = subst (λ (t : Stage I). ¬ IsHolding t) (sym idle) (λ h. h) in (
        v,
        keeps,
        tt,
        restep r id v v at _ s.homes r.drawn r.served r.log r.now r.loan r.home is r.homes_are r.short r.capped
            (λ f. omega arith) (λ f. refl) refl refl r.given (inr (omega arith, omega arith)) kn (λ j u ne a h. h)
            (λ nobody. r.at_home (not_held_before s.views id v v at free nobody)),
        record { log = r.log; seat = refl; begins = kn.begins; within = kn.within; shares_closed = kn.shares_closed },
      )

module _ {I G V : Type 0} {carries : I → ℕ} where
  -- what follows the kept pass's own history in the longer one has none of its number, and the other's history begins it
  of_both : (v w : View I G) (cs : List (ℕ × Option V)) (n : Sat V I G) → length v.within ≤ length v.seen → v.spent ≡ false
      → Recalled carries (joined_view v w, cs) n → IsPrefix w.seen (longer v.seen w.seen) × NoneSince carries v.who v.seen (longer v.seen w.seen)
  of_both v w cs n inside live rec =
      let both = joined_view v w in let place = length (v.gone ++ w.gone) in let g = gone_of w.who w.seen in
      let there : get_elem? (shares both) (suc place) ≡ some g = gone_share both place g live (at_last (v.gone ++ w.gone) g place refl) in
      let rest = drop (length v.seen) w.seen in (
        prefix_shorter w.seen (longer v.seen w.seen) rec.log (rec.shares_closed (suc place) g there).begins rec.begins
            (omega (arith, length-append v.seen rest, length-drop (length v.seen) w.seen)),
        λ i x e is.
            let whole = prefix_get (longer v.seen w.seen) rec.log i x rec.begins e in
            let b = (rec.shares_closed 0 (gone_of v.who v.within) (own_share both live)).holds_all i x whole is in
            omega arith,
      )

  -- a join between two looks
  pub joined : (w : View I G) (m0 m1 m2 m3 : Sat V I G) → Recalled carries m0 m1 → m2 ≡ (joined_view m1.0 w, m1.1) → Recalled carries m2 m3
      → m0.0.spent ≡ false → IsPrefix w.seen m3.0.seen × NoneSince carries m0.0.who m0.0.seen m3.0.seen
  joined w m0 m1 m2 m3 first joins second live =
      let is : m2 ≡ (joined_view m0.0 w, m0.1) = joins ∙ ap (λ (m : Sat V I G). (joined_view m.0 w, m.1)) first.seat in
      let seen : longer m0.0.seen w.seen ≡ m3.0.seen = sym (ap (λ (m : Sat V I G). m.0.seen) (second.seat ∙ is)) in
      subst (λ (xs : List I). IsPrefix w.seen xs × NoneSince carries m0.0.who m0.0.seen xs) seen
      (of_both m0.0 w m0.1 m3 first.within live (subst (λ (m : Sat V I G). Recalled carries m m3) is second))
