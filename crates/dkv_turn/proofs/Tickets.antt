-- The steps on the words ticket and serving keep the rule.
use Rattle.std.proofs.Common.{inr, ◌≡◌, ℕ, ◌+◌, ◌%◌, false, List, [], ◌∷◌, length, get_or, set, Option, Some, sym, refl, ap, ◌∙◌, subst, ⊎_elim, arith}
use Rattle.std.proofs.Math.Nat.{mod-add-mod}
use mathlib.Core.Logic.{dite}
use mathlib.Core.Option.{some, none}
use mathlib.Core.List.{IsPrefix}
use native.Mathlib.Decide.{ℕ_discrete}
use lib.ListN.{get_elem?}
use Rattle.atomic_table.specs.Table.{step, put_back, keeps, takes, gives, Allows}
use Rattle.atomic_table.proofs.Lists.{set_here, one_turn}
use Rattle.dkv_turn.specs.declared.view.Stage.{Stage}
use Rattle.dkv_turn.specs.declared.view.Stage.TheVariants.{Idle, Waiting, Holding}
use Rattle.dkv_turn.specs.declared.view.View.{View}
use Rattle.dkv_turn.specs.Histories.{NoneSince}
use Rattle.dkv_turn.specs.Views.{IsHolding, number_of, with_stage, with_turn}
use Rattle.dkv_turn.specs.Rule.{stage_weight, ticket, KeptIn}
use Rattle.dkv_turn.specs.Steps.{Drew, Looked, PassedOn}
use Rattle.dkv_turn.proofs.Sums.{below_more, only, only-same}
use Rattle.dkv_turn.proofs.Parts.{held_is, at_bound, same_at, holding_number, holding_served, stands_anywhere, not_held_before}
use Rattle.dkv_turn.proofs.Shares.{own_closed}
use Rattle.dkv_turn.proofs.Standing.{Homes, knows_stage, restep, active_between, lone, few_wait}

module _ {I G V : Type 0} (carries : I → ℕ) (items : V → List I) (lent : V → ℕ) (grounds : V → G) (base : G) where
  pub draws : (n id : ℕ) (v : View I G) (cs : List (ℕ × Option V)) → v.spent ≡ false → v.stage ≡ Idle
      → Allows (KeptIn carries items lent grounds base) n id (v, cs) 0 (λ x. (x + 1) % 18446744073709551616) (Drew (step 0 0 0 0 none) (v, cs))
  draws n id v cs live idle s r wide at lt =
      let w = with_stage v (Waiting r.drawn) in let k = r.each id v at in
      let is : set s.words 0 ((get_or s.words 0 0 + 1) % 18446744073709551616) ≡ ((r.drawn + 1) % 18446744073709551616) ∷ (r.served % 18446744073709551616) ∷ length r.log ∷ r.now ∷ r.loan ∷ []
      = ap (λ (ws : List ℕ). set ws 0 ((get_or ws 0 0 + 1) % 18446744073709551616)) r.words_are
      ∙ ap (λ (x : ℕ). x ∷ (r.served % 18446744073709551616) ∷ length r.log ∷ r.now ∷ r.loan ∷ []) (mod-add-mod r.drawn 18446744073709551616 1) in
      let found : get_or s.words 0 0 ≡ r.drawn % 18446744073709551616 = ap (λ (ws : List ℕ). get_or ws 0 0) r.words_are in
      let free : ¬ IsHolding v.stage = subst (λ (t : Stage I). ¬ IsHolding t) (sym idle) (λ h. h) in (
        w,
        keeps,
        tt,
        restep r id v w at _ s.homes (r.drawn + 1) r.served r.log r.now r.loan r.home is r.homes_are r.short r.capped
            (λ f. let none : stage_weight f v.stage ≡ 0 = ap (stage_weight f) idle in omega (arith, none, below_more f r.drawn))
            (λ f. refl) refl refl r.given (inr (omega arith, omega arith))
            (knows_stage _ k tt live)
            (λ j u ne e h. h)
            (λ nobody. r.at_home (not_held_before s.views id v w at free nobody)),
        (r.drawn, found, refl),
      )

  pub looks : (n id : ℕ) (v : View I G) (cs : List (ℕ × Option V)) (k : ℕ) → v.spent ≡ false → v.stage ≡ Waiting k
      → Allows (KeptIn carries items lent grounds base) n id (v, cs) 1 (λ x. x) (Looked carries items lent grounds (step 0 0 0 0 none) (v, cs))
  looks n id v cs k live waits s r wide at lt =
      let kn = r.each id v at in
      let number : number_of v.stage ≡ k = ap number_of waits in
      let free : ¬ IsHolding v.stage = subst (λ (t : Stage I). ¬ IsHolding t) (sym waits) (λ h. h) in
      let weight : (f : ℕ → ℕ) → ticket f v ≡ f k = λ f. ap (stage_weight f) waits in
      let is : set s.words 1 (get_or s.words 1 0) ≡ (r.drawn % 18446744073709551616) ∷ (r.served % 18446744073709551616) ∷ length r.log ∷ r.now ∷ r.loan ∷ []
      = ap (λ (ws : List ℕ). set ws 1 (get_or ws 1 0)) r.words_are in
      let found : get_or s.words 1 0 ≡ r.served % 18446744073709551616 = ap (λ (ws : List ℕ). get_or ws 1 0) r.words_are in
      let b = active_between r id v k at (weight (only k) ∙ only-same k) in
      dite (ℕ_discrete (get_or s.words 1 0) (number_of v.stage % 18446744073709551616))
      (λ yes.
      let fw = few_wait r in
      let e : r.served ≡ k = one_turn r.served k 18446744073709551616 b.0 (omega (arith, b.1, fw)) (sym found ∙ (yes ∙ ap (λ (x : ℕ). x % 18446744073709551616) number)) in
      let nobody : (j : ℕ) (u : View I G) → get_elem? s.views j ≡ some u → ¬ IsHolding u.stage = λ j u a h.
      let m : number_of u.stage ≡ k = holding_served r.served r.log r.loan u.stage h (r.each j u a).stands ∙ e in
      dite (ℕ_discrete j id)
      (λ same. let here : v ≡ u = same_at s.views id v u at (subst (λ (x : ℕ). get_elem? s.views x ≡ some u) same a) in free (subst (λ (x : View I G). IsHolding x.stage) (sym here) h))
      (λ other. lone r id j v u k other at a (weight (only k) ∙ only-same k) (holding_number (only k) u.stage h ∙ (ap (only k) m ∙ only-same k))) in
      let home = r.at_home nobody in
      let w = with_turn v (items home.value) (lent home.value) in (
        w,
        takes 0 (Some home.value),
        ap (λ (hs : Homes V). get_elem? hs 0) r.homes_are ∙ ap some home.there,
        restep r id v w at _ (set s.homes 0 none) r.drawn r.served r.log r.now r.loan none is (ap (λ (hs : Homes V). set hs 0 none) r.homes_are) r.short r.capped
            (λ f. let a : f (number_of v.stage) ≡ f k = ap f number in omega (arith, a, weight f))
            (λ f. refl) refl refl r.given (inr (omega arith, omega arith))
            (knows_stage _ kn (number ∙ sym e, home.keeps_log, home.keeps_loan, tt) live)
            (λ j u ne a h. h)
            (λ never. absurd (never id w (set_here s.views id w (at_bound s.views id v at)) tt)),
        (
          λ _. record {
            value = home.value;
            seat = refl;
            same_ground = kn.grounded live ∙ ap Some (sym home.keeps_ground);
            begins = subst (λ (l : List I). IsPrefix v.seen l) (sym home.keeps_log) kn.begins;
            none_since = subst (λ (l : List I). NoneSince carries v.who v.seen l) (sym home.keeps_log)
                (own_closed kn live).holds_all;
            same_loan = λ pos. ⊎_elim (λ (z : v.loan ≡ 0). absurd (omega arith)) (λ (z : v.loan ≡ r.loan). home.keeps_loan ∙ sym z) kn.lends;
          },
          λ ne. absurd (ne yes),
        ),
      ))
      (λ no. (
        v,
        keeps,
        tt,
        restep r id v v at _ s.homes r.drawn r.served r.log r.now r.loan r.home is r.homes_are r.short r.capped
            (λ f. omega arith) (λ f. refl) refl refl r.given (inr (omega arith, omega arith)) kn (λ j u ne a h. h)
            (λ nobody. r.at_home (not_held_before s.views id v v at free nobody)),
        (λ yes. absurd (no yes), λ _. refl),
      ))

  pub passes_on : (n id : ℕ) (v : View I G) (cs : List (ℕ × Option V)) (k : ℕ) (xs : List I) (l : ℕ) (o : Option ℕ) (value : V) (more : List (ℕ × Option V)) → v.spent ≡ false
      → v.stage ≡ Holding k xs l o → cs ≡ (0, Some value) ∷ more → items value ≡ xs → lent value ≡ l → v.grounds ≡ Some (grounds value)
      → Allows (KeptIn carries items lent grounds base) n id (v, cs) 1 (λ y. (y + 1) % 18446744073709551616) (PassedOn (step 0 0 0 0 none) (v, cs))
  passes_on n id v cs k xs l o value more live held slot log_is loan_is ground_is s r wide at lt =
      let kn = r.each id v at in
      let stood = held_is r.served r.log r.loan held kn.stands in
      let is : set s.words 1 ((get_or s.words 1 0 + 1) % 18446744073709551616) ≡ (r.drawn % 18446744073709551616) ∷ ((r.served + 1) % 18446744073709551616) ∷ length r.log ∷ r.now ∷ r.loan ∷ []
      = ap (λ (ws : List ℕ). set ws 1 ((get_or ws 1 0 + 1) % 18446744073709551616)) r.words_are
      ∙ ap (λ (x : ℕ). (r.drawn % 18446744073709551616) ∷ x ∷ length r.log ∷ r.now ∷ r.loan ∷ []) (mod-add-mod r.served 18446744073709551616 1) in
      let w = with_stage v Idle in
      let weight : (f : ℕ → ℕ) → ticket f v ≡ f k = λ f. ap (stage_weight f) held in
      let base_is : grounds value ≡ base = cc (ground_is, kn.grounded live) in
      let back : put_back s.homes cs ≡ some (Some value) ∷ [] = ap (put_back s.homes) slot ∙ ap (λ (hs : Homes V). set hs 0 (some (Some value))) r.homes_are in (
        w,
        gives,
        tt,
        restep r id v w at _ (put_back s.homes cs) r.drawn (r.served + 1) r.log r.now r.loan (some (Some value)) is back r.short r.capped
            (λ f. let a : f k ≡ f r.served = ap f stood.0 in omega (arith, a, weight f, below_more f r.served))
            (λ f. refl) refl refl r.given (inr (omega arith, omega arith))
            (knows_stage _ kn tt live)
            (λ j u ne a h.
            let resting : ¬ IsHolding u.stage = λ holds. let m : number_of u.stage ≡ k = holding_served r.served r.log r.loan u.stage holds h.stands ∙ sym stood.0 in
            lone r id j v u k ne at a (weight (only k) ∙ only-same k) (holding_number (only k) u.stage holds ∙ (ap (only k) m ∙ only-same k)) in
            record {
              shares_closed = h.shares_closed;
              begins = h.begins;
              within = h.within;
              stands = stands_anywhere r.served (r.served + 1) r.log r.log r.loan r.loan u.stage resting h.stands;
              gives = h.gives;
              gives_none = h.gives_none;
              at_most = h.at_most;
              lends = h.lends;
              grounded = h.grounded;
              rests = h.rests;
            })
            (λ _. record {
              value = value;
              there = refl;
              keeps_log = log_is ∙ stood.1;
              keeps_loan = loan_is ∙ stood.2;
              keeps_ground = base_is;
            }),
        refl,
      )
