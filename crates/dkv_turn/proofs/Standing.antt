-- What the rule says of views and of their numbers, and how one step of one view keeps it.
use Rattle.std.proofs.Common.{◌≡◌, ◌≢◌, ℕ, ◌+◌, ◌%◌, ◌<◌, ◌≤◌, ◌⊎◌, List, [], ◌∷◌, length, set, Option, sym, refl, ap, ◌∙◌, subst, ⊎_elim, arith, false, length-set, lt_of_not-le}
use mathlib.Core.Logic.{dite}
use mathlib.Core.Option.{some}
use native.Mathlib.Decide.{ℕ_discrete, dec_le}
use lib.ListN.{get_elem?}
use Rattle.atomic_table.proofs.Lists.{at_set, set_here, set_else}
use Rattle.dkv_turn.specs.declared.view.Stage.{Stage}
use Rattle.dkv_turn.specs.declared.view.Gone.{Gone}
use Rattle.dkv_turn.specs.declared.view.View.{View}
use Rattle.dkv_turn.specs.Weights.{below}
use Rattle.dkv_turn.specs.Views.{IsHolding, shares, with_stage}
use Rattle.dkv_turn.specs.Rule.{StandsAt, ticket, numbers, mark, lent_to, HandedIn, Knows, Home, Kept}
use Rattle.dkv_turn.proofs.Sums.{total-set, term_le, terms_le, total-one, below-one, only, only-same, below-only, below-once}
use Rattle.dkv_turn.proofs.Parts.{at_bound, same_at, total_le, false-ne-true, below-in, one_each}
use Rattle.dkv_turn.proofs.Shares.{has_number}

-- what stands in the slots
abbrev pub Homes : Type 0 → Type 0
Homes V = List (mathlib.Core.Option.Option (Option V))

module _ {I G : Type 0} {carries : I → ℕ} {base : G} where
  -- a view whose stage alone changes, which stands with the new one
  pub knows_stage : (t : Stage I) {s s' : ℕ} {log : List I} {now loan c : ℕ} {v : View I G} → Knows carries base s log now loan c v
      → StandsAt s' log loan t → v.spent ≡ false → Knows carries base s' log now loan c (with_stage v t)
  knows_stage t k stands live = record {
    shares_closed = k.shares_closed;
    begins = k.begins;
    within = k.within;
    stands = stands;
    gives = k.gives;
    gives_none = k.gives_none;
    at_most = k.at_most;
    lends = k.lends;
    grounded = k.grounded;
    rests = λ gone. absurd (false-ne-true (sym live ∙ gone));
  }

module _ {I G : Type 0} where
  -- what was handed in stays so where one view changes, to one that was handed in no less
  pub handed_set : (vs : List (View I G)) (id : ℕ) (v w : View I G) (now now' : ℕ) → get_elem? vs id ≡ some v → now' ≤ now → v.handed ≤ w.handed
      → HandedIn now vs → HandedIn now' (set vs id w)
  handed_set vs id v w now now' at less le h = dite (ℕ_discrete h.0 id)
      (λ same.
      let here : v ≡ h.1 = same_at vs id v h.1 at (subst (λ (x : ℕ). get_elem? vs x ≡ some h.1) same h.2) in
      let by : v.handed ≡ h.1.handed = ap (λ (u : View I G). u.handed) here in
      (id, w, set_here vs id w (at_bound vs id v at), let most = h.3 in omega arith))
      (λ other. (h.0, h.1, set_else vs id h.0 w other ∙ h.2, let most = h.3 in omega arith))

module _ {I G V : Type 0} {carries : I → ℕ} {items : V → List I} {lent : V → ℕ} {grounds : V → G} {base : G} where
  pub restep : {ws : List ℕ} {hs : Homes V} {vs : List (View I G)} (r : Kept carries items lent grounds base ws hs vs) (id : ℕ) (v w : View I G) → get_elem? vs id ≡ some v
      → (ws' : List ℕ) (hs' : Homes V) (d s : ℕ) (log : List I) (now loan : ℕ) (home : mathlib.Core.Option.Option (Option V))
      → ws' ≡ (d % 18446744073709551616) ∷ (s % 18446744073709551616) ∷ length log ∷ now ∷ loan ∷ [] → hs' ≡ home ∷ [] → length log < 9223372036854775808 → now ≤ 253370764800000
      → ((f : ℕ → ℕ) → ticket f w + below f s + below f r.drawn ≡ below f d + ticket f v + below f r.served)
      → ((f : ℕ → ℕ) → numbers f w ≡ numbers f v) → mark w ≡ mark v → w.loan + r.loan ≡ v.loan + loan
      → ((i : ℕ) (x : I) → get_elem? log i ≡ some x → carries x < length vs)
      → (now ≤ w.handed) ⊎ ((now ≤ r.now) × (v.handed ≤ w.handed))
      → Knows carries base s log now loan (length vs) w
      → ((j : ℕ) (u : View I G) → j ≢ id → get_elem? vs j ≡ some u → Knows carries base r.served r.log r.now r.loan (length vs) u → Knows carries base s log now loan (length vs) u)
      → (((j : ℕ) (u : View I G) → get_elem? (set vs id w) j ≡ some u → ¬ IsHolding u.stage) → Home carries items lent grounds base log loan home)
      → Kept carries items lent grounds base ws' hs' (set vs id w)
  restep {vs = vs} r id v w at ws' hs' d s log now loan home wis his short capped q n m l gv hands mine others ends =
      let len = length-set vs id w in record {
        drawn = d;
        served = s;
        log = log;
        now = now;
        loan = loan;
        home = home;
        words_are = wis;
        homes_are = his;
        short = short;
        capped = capped;
        handed_in = ⊎_elim
            (λ (le : now ≤ w.handed). (id, w, set_here vs id w (at_bound vs id v at), le))
            (λ (t : (now ≤ r.now) × (v.handed ≤ w.handed)). handed_set vs id v w r.now now at t.0 t.1 r.handed_in)
            hands;
        few = let few = r.few in omega arith;
        queue = λ f. omega (arith, total-set (ticket f) vs id v w at, r.queue f, q f);
        once = λ f. omega (arith, total-set (numbers f) vs id v w at, r.once f, n f, ap (below f) len);
        given = λ i x e. subst (λ (c : ℕ). carries x < c) (sym len) (gv i x e);
        one_mark = let before = r.one_mark in omega (arith, total-set mark vs id v w at, m);
        one_loan = omega (arith, total-set lent_to vs id v w at, r.one_loan, l);
        each = λ j u e. subst (λ (c : ℕ). Knows carries base s log now loan c u) (sym len) (⊎_elim
            (λ (t : (j ≡ id) × (w ≡ u)). subst (Knows carries base s log now loan (length vs)) t.1 mine)
            (λ (t : (j ≢ id) × (get_elem? vs j ≡ some u)). others j u t.0 t.1 (r.each j u t.1))
            (at_set vs id j w u e));
        at_home = ends;
      }

  -- the number of a view that waits or holds is between those served and those drawn
  pub active_between : {ws : List ℕ} {hs : Homes V} {vs : List (View I G)} (r : Kept carries items lent grounds base ws hs vs) (id : ℕ) (v : View I G) (k : ℕ) → get_elem? vs id ≡ some v → ticket (only k) v ≡ 1
      → (r.served ≤ k) × (k < r.drawn)
  active_between {vs = vs} r id v k at one =
      let q = r.queue (only k) in let t = term_le (ticket (only k)) vs id v at in let b = below-once k r.drawn in (
        dite (dec_le r.served k) (λ y. y) (λ n. let full = below-in k r.served (lt_of_not-le n) in absurd (omega arith)),
        dite (dec_le r.drawn k) (λ y. let empty = (below-only k r.drawn).1 y in absurd (omega arith)) (λ n. lt_of_not-le n),
      )

  -- two views have two numbers
  pub lone : {ws : List ℕ} {hs : Homes V} {vs : List (View I G)} (r : Kept carries items lent grounds base ws hs vs) (i j : ℕ) (v u : View I G) (k : ℕ) → j ≢ i → get_elem? vs i ≡ some v → get_elem? vs j ≡ some u
      → ticket (only k) v ≡ 1 → ticket (only k) u ≡ 1 → ⊥
  lone {vs = vs} r i j v u k ne at at' one one' =
      let q = r.queue (only k) in let t = terms_le (ticket (only k)) vs i j v u ne at at' in let b = below-once k r.drawn in omega arith

  pub few_wait : {ws : List ℕ} {hs : Homes V} {vs : List (View I G)} (r : Kept carries items lent grounds base ws hs vs) → r.drawn ≤ r.served + 4294967296
  few_wait {vs = vs} r =
      let few = r.few in let q = r.queue (λ _. 1) in let t = total_le (ticket (λ _. 1)) (λ _. 1) (λ (u : View I G). one_each u.stage) vs in
      omega (arith, few, q, t, total-one vs, below-one r.drawn, below-one r.served)

  -- a number stands with one view, once
  pub apart : {ws : List ℕ} {hs : Homes V} {vs : List (View I G)} (r : Kept carries items lent grounds base ws hs vs) (id j : ℕ) (v u : View I G) (i k : ℕ) (g h : Gone I) → j ≢ id → get_elem? vs id ≡ some v → get_elem? vs j ≡ some u
      → get_elem? (shares v) i ≡ some g → get_elem? (shares u) k ≡ some h → g.who ≡ h.who → ⊥
  apart {vs = vs} r id j v u i k g h ne at at' e e' same =
      let a = has_number v i g h.who e same in let b = has_number u k h h.who e' refl in let t = terms_le (numbers (only h.who)) vs id j v u ne at at' in
      let o = r.once (only h.who) in let once = below-once h.who (length vs) in omega arith

  pub apart_within : {ws : List ℕ} {hs : Homes V} {vs : List (View I G)} (r : Kept carries items lent grounds base ws hs vs) (id : ℕ) (v : View I G) (i k : ℕ) (g h : Gone I) → k ≢ i → get_elem? vs id ≡ some v
      → get_elem? (shares v) i ≡ some g → get_elem? (shares v) k ≡ some h → g.who ≡ h.who → ⊥
  apart_within {vs = vs} r id v i k g h ne at e e' same =
      let t = terms_le (λ (x : Gone I). only h.who x.who) (shares v) i k g h ne e e' in let m = term_le (numbers (only h.who)) vs id v at in
      let a : only h.who g.who ≡ 1 = ap (only h.who) same ∙ only-same h.who in let b = only-same h.who in
      let o = r.once (only h.who) in let once = below-once h.who (length vs) in omega arith

  pub number_below : {ws : List ℕ} {hs : Homes V} {vs : List (View I G)} (r : Kept carries items lent grounds base ws hs vs) (id : ℕ) (v : View I G) (k : ℕ) (g : Gone I) → get_elem? vs id ≡ some v → get_elem? (shares v) k ≡ some g → g.who < length vs
  number_below {vs = vs} r id v k g at e =
      let a = has_number v k g g.who e refl in let m = term_le (numbers (only g.who)) vs id v at in let o = r.once (only g.who) in
      dite (dec_le (length vs) g.who) (λ y. let empty = (below-only g.who (length vs)).1 y in absurd (omega arith)) (λ n. lt_of_not-le n)
