-- A new turn meets the rule, and a split and a join keep it.
use Rattle.std.proofs.Common.{drop, ◌≡◌, ◌≢◌, ℕ, zero, suc, ◌+◌, ◌<◌, true, false, List, [], ◌∷◌, ◌++◌, length, set, Some, sym, refl, ap, ◌∙◌, subst, inl, ⊎_elim, arith, length-set, length-append}
use mathlib.Core.Option.{some, some-injective, some-ne-none}
use mathlib.Core.List.{IsPrefix}
use lib.ListN.{get_elem?}
use mathlib.Core.Logic.{dite}
use native.Mathlib.Decide.{ℕ_discrete}
use Rattle.atomic_table.specs.Table.{Splits, Joins}
use Rattle.atomic_table.proofs.Lists.{at_set, set_here, set_else, at_snoc, at_longer}
use Rattle.dkv_turn.specs.declared.view.Stage.{Stage}
use Rattle.dkv_turn.specs.declared.view.Stage.TheVariants.{Idle}
use Rattle.dkv_turn.specs.declared.view.Gone.{Gone}
use Rattle.dkv_turn.specs.declared.view.View.{View}
use Rattle.dkv_turn.specs.Weights.{total, below}
use Rattle.dkv_turn.specs.Views.{gone_of, IsHolding, spent_view, first_view, giver_view, given_view, joined_view}
use Rattle.dkv_turn.specs.Rule.{Closed, stage_weight, ticket, numbers, mark, lent_to, Knows, Kept, KeptIn}
use Rattle.dkv_turn.proofs.Sums.{total-append, total-set, terms_le, below_more}
use Rattle.dkv_turn.proofs.Laws.{prefix_self}
use Rattle.dkv_turn.proofs.Parts.{at_bound, same_at, false-ne-true, bool_cases, one_is, zero_is_false, both_give, at_append, at_one, longer_cases, not_held_before}
use Rattle.dkv_turn.proofs.Shares.{own_closed, closed_each, own_share, gone_share, whole_closed, numbers_live}
use Rattle.dkv_turn.proofs.Standing.{Homes, handed_set}

module _ {I G V : Type 0} (carries : I → ℕ) (items : V → List I) (lent : V → ℕ) (grounds : V → G) (base : G) where
  -- a new turn
  first_knows : (v : View I G) → first_view base ≡ v → Knows carries base 0 [] 0 0 1 v
  first_knows v e = subst (Knows carries base 0 [] 0 0 1) e record {
    shares_closed = closed_each (Closed carries []) false (gone_of 0 []) [] (λ _. whole_closed [] 0) (λ i g b a. absurd (some-ne-none g (sym a)));
    begins = prefix_self [];
    within = omega arith;
    stands = tt;
    gives = λ _. refl;
    gives_none = λ m. absurd (false-ne-true (sym m));
    at_most = omega arith;
    lends = inl refl;
    grounded = λ _. refl;
    rests = λ m. absurd (false-ne-true m);
  }

  pub opens : (value : V) (hs : Homes V) → items value ≡ [] → lent value ≡ 0 → grounds value ≡ base → hs ≡ some (Some value) ∷ []
      → Kept carries items lent grounds base (0 ∷ 0 ∷ 0 ∷ 0 ∷ 0 ∷ []) hs (first_view base ∷ [])
  opens value hs nothing no_loan is_base his = record {
    drawn = 0;
    served = 0;
    log = [];
    now = 0;
    loan = 0;
    home = some (Some value);
    words_are = refl;
    homes_are = his;
    short = omega arith;
    capped = omega arith;
    handed_in = (0, first_view base, refl, omega arith);
    few = omega arith;
    queue = λ f. refl;
    once = λ f. omega arith;
    given = λ i x e. absurd (some-ne-none x (sym e));
    one_mark = omega arith;
    one_loan = refl;
    each = λ j v e. elim j as (λ i. get_elem? (first_view base ∷ []) i ≡ some v → Knows carries base 0 [] 0 0 1 v) [ zero ↦ λ e. first_knows v (some-injective _ _ e) | (suc i) ↦ λ e. absurd (some-ne-none v (sym e)) ] e;
    at_home = λ _. record { value = value; there = refl; keeps_log = nothing; keeps_loan = no_loan; keeps_ground = is_base };
  }

  -- what a view shows stays so where the number of views grows, but for the pass with the mark
  count_grows : (s : ℕ) (log : List I) (now loan c c' : ℕ) (u : View I G) → u.marked ≡ false → Knows carries base s log now loan c u → Knows carries base s log now loan c' u
  count_grows s log now loan c c' u plain h = record {
    shares_closed = h.shares_closed;
    begins = h.begins;
    within = h.within;
    stands = h.stands;
    gives = λ m. absurd (false-ne-true (sym plain ∙ m));
    gives_none = h.gives_none;
    at_most = h.at_most;
    lends = h.lends;
    grounded = h.grounded;
    rests = h.rests;
  }

  pub splits : (id : ℕ) (v : View I G) → v.spent ≡ false → v.stage ≡ Idle → 0 < v.left → Splits (KeptIn carries items lent grounds base) id v (giver_view v) (given_view v)
  splits id v live idle room s r at =
      let kn = r.each id v at in let vs = s.views in let left = giver_view v in let right = given_view v in
      let marked : v.marked ≡ true = bool_cases v.marked (λ y. y) (λ n. let z = kn.gives_none n in absurd (omega arith)) in
      let sum : v.left + length vs ≡ 4294967296 = kn.gives marked in
      let len : length (set vs id left ++ right ∷ []) ≡ length vs + 1 = omega (arith, length-append (set vs id left) (right ∷ []), length-set vs id left) in
      let next : right.who ≡ length vs = omega arith in
      let plain : (j : ℕ) (u : View I G) → j ≢ id → get_elem? vs j ≡ some u → u.marked ≡ false = λ j u ne a.
      let t = terms_le mark vs id j v u ne at a in let o = r.one_mark in let m = one_is v.marked marked in zero_is_false u.marked (omega arith) in
      let free : ¬ IsHolding v.stage = subst (λ (t : Stage I). ¬ IsHolding t) (sym idle) (λ h. h) in
      let T : (g : View I G → ℕ) → total g (set vs id left ++ right ∷ []) + g v ≡ total g vs + g left + g right = λ g. omega (arith, total-append g (set vs id left) (right ∷ []), total-set g vs id v left at) in
      record {
        drawn = r.drawn;
        served = r.served;
        log = r.log;
        now = r.now;
        loan = r.loan;
        home = r.home;
        words_are = r.words_are;
        homes_are = r.homes_are;
        short = r.short;
        capped = r.capped;
        handed_in = let h = handed_set vs id v left r.now r.now at (omega arith) (omega arith) r.handed_in in (h.0, h.1, at_longer (set vs id left) (right ∷ []) h.0 h.1 h.2, h.3);
        few = omega arith;
        queue = λ f. omega (arith, T (ticket f), r.queue f);
        once = λ f. let w : f right.who ≡ f (length vs) = ap f next in let c : below f (length (set vs id left ++ right ∷ [])) ≡ below f (length vs + 1) = ap (below f) len in
            omega (arith, T (numbers f), r.once f, c, below_more f (length vs), w);
        given = λ i x e. let b = r.given i x e in omega arith;
        one_mark = let b = r.one_mark in omega (arith, T mark);
        one_loan = omega (arith, T lent_to, r.one_loan);
        each = λ j u e. subst (λ (c : ℕ). Knows carries base r.served r.log r.now r.loan c u) (sym len) (⊎_elim
            (λ (b : get_elem? (set vs id left) j ≡ some u). ⊎_elim
            (λ (t : (j ≡ id) × (left ≡ u)). subst (Knows carries base r.served r.log r.now r.loan (length vs + 1)) t.1 record {
              shares_closed = kn.shares_closed;
              begins = kn.begins;
              within = kn.within;
              stands = kn.stands;
              gives = λ _. omega arith;
              gives_none = λ n. absurd (false-ne-true (sym n ∙ marked));
              at_most = kn.at_most;
              lends = kn.lends;
              grounded = kn.grounded;
              rests = kn.rests;
            })
            (λ (t : (j ≢ id) × (get_elem? vs j ≡ some u)). count_grows r.served r.log r.now r.loan (length vs) (length vs + 1) u (plain j u t.0 t.1) (r.each j u t.1))
            (at_set vs id j left u b))
            (λ (t : right ≡ u). subst (Knows carries base r.served r.log r.now r.loan (length vs + 1)) t record {
              shares_closed = closed_each (Closed carries r.log) false (gone_of right.who []) []
                  (λ _. record { begins = (r.log, refl); holds_all = λ i x e n. let b = r.given i x e in absurd (omega arith) })
                  (λ i g b a. absurd (some-ne-none g (sym a)));
              begins = kn.begins;
              within = omega arith;
              stands = tt;
              gives = λ m. absurd (false-ne-true m);
              gives_none = λ _. refl;
              at_most = kn.at_most;
              lends = inl refl;
              grounded = λ _. kn.grounded live;
              rests = λ m. absurd (false-ne-true m);
            })
            (at_snoc (set vs id left) right u j e));
        at_home = λ nobody. r.at_home (not_held_before vs id v left at free (λ j u e. nobody j u (at_longer (set vs id left) (right ∷ []) j u e)));
      }

  spent_knows : (s : ℕ) (log : List I) (now loan c : ℕ) → Knows carries base s log now loan c spent_view
  spent_knows s log now loan c = record {
    shares_closed = λ i g e. absurd (some-ne-none g (sym e));
    begins = (log, refl);
    within = omega arith;
    stands = tt;
    gives = λ m. absurd (false-ne-true m);
    gives_none = λ _. refl;
    at_most = omega arith;
    lends = inl refl;
    grounded = λ m. absurd (false-ne-true (sym m));
    rests = λ _. (refl, refl, refl);
  }

  pub joins : (id : ℕ) (v : View I G) (other : ℕ) (w : View I G) → v.spent ≡ false → v.stage ≡ Idle → w.spent ≡ false → w.stage ≡ Idle → w.loan ≡ 0 → Joins (KeptIn carries items lent grounds base) id v other w (joined_view v w) spent_view
  joins id v other w live idle live' idle' none_lent s r at ne there =
      let vs = s.views in let both = joined_view v w in let vs' = set (set vs id both) other spent_view in
      let at' : get_elem? vs other ≡ some w = sym (set_else vs id other both ne) ∙ there in
      let kv = r.each id v at in let kw = r.each other w at' in
      let len : length vs' ≡ length vs = length-set (set vs id both) other spent_view ∙ length-set vs id both in
      let T : (g : View I G → ℕ) → total g vs' + g w + g v ≡ total g vs + g both + g spent_view = λ g. omega (arith, total-set g (set vs id both) other w spent_view there, total-set g vs id v both at) in
      let tv : (f : ℕ → ℕ) → ticket f v ≡ 0 = λ f. ap (stage_weight f) idle in
      let tw : (f : ℕ → ℕ) → ticket f w ≡ 0 = λ f. ap (stage_weight f) idle' in
      let marks = let t = terms_le mark vs id other v w ne at at' in let o = r.one_mark in
      both_give v.marked w.marked v.left w.left (length vs) kv.gives kv.gives_none kw.gives kw.gives_none (omega arith) in
      let free : ¬ IsHolding v.stage = subst (λ (t : Stage I). ¬ IsHolding t) (sym idle) (λ h. h) in
      let free' : ¬ IsHolding w.stage = subst (λ (t : Stage I). ¬ IsHolding t) (sym idle') (λ h. h) in
      record {
        drawn = r.drawn;
        served = r.served;
        log = r.log;
        now = r.now;
        loan = r.loan;
        home = r.home;
        words_are = r.words_are;
        homes_are = r.homes_are;
        short = r.short;
        capped = r.capped;
        handed_in = let h = handed_set vs id v both r.now r.now at (omega arith) (omega arith) r.handed_in in
            dite (ℕ_discrete h.0 other)
            (λ same.
            let here : w ≡ h.1 = same_at (set vs id both) other w h.1 there (subst (λ (x : ℕ). get_elem? (set vs id both) x ≡ some h.1) same h.2) in
            let by : w.handed ≡ h.1.handed = ap (λ (u : View I G). u.handed) here in
            (id, both, set_else (set vs id both) other id spent_view (λ e. ne (sym e)) ∙ set_here vs id both (at_bound vs id v at), let most = h.3 in omega arith))
            (λ apart. (h.0, h.1, set_else (set vs id both) other h.0 spent_view apart ∙ h.2, h.3));
        few = let few = r.few in omega arith;
        queue = λ f. omega (arith, T (ticket f), r.queue f, tw f);
        once = λ f. let c : below f (length vs') ≡ below f (length vs) = ap (below f) len in
            let h : Gone I → ℕ = λ g. f g.who in
            omega (arith, T (numbers f), r.once f, c, numbers_live f v live, numbers_live f w live', numbers_live f both live, total-append h (v.gone ++ w.gone) (gone_of w.who w.seen ∷ []), total-append h v.gone w.gone);
        given = λ i x e. subst (λ (c : ℕ). carries x < c) (sym len) (r.given i x e);
        one_mark = let b = r.one_mark in let m = marks.2 in omega (arith, T mark);
        one_loan = omega (arith, T lent_to, r.one_loan, none_lent);
        each = λ j u e. subst (λ (c : ℕ). Knows carries base r.served r.log r.now r.loan c u) (sym len) (⊎_elim
            (λ (t : (j ≡ other) × (spent_view ≡ u)). subst (Knows carries base r.served r.log r.now r.loan (length vs)) t.1 (spent_knows r.served r.log r.now r.loan (length vs)))
            (λ (t : (j ≢ other) × (get_elem? (set vs id both) j ≡ some u)). ⊎_elim
            (λ (q : (j ≡ id) × (both ≡ u)). subst (Knows carries base r.served r.log r.now r.loan (length vs)) q.1 record {
              shares_closed = closed_each (Closed carries r.log) v.spent (gone_of v.who v.within) ((v.gone ++ w.gone) ++ gone_of w.who w.seen ∷ [])
                  (λ _. kv.shares_closed 0 (gone_of v.who v.within) (own_share v live))
                  (λ i g b e. ⊎_elim
                  (λ (a : (i : ℕ) × (get_elem? (v.gone ++ w.gone) i ≡ some g)). ⊎_elim
                  (λ (a : (i : ℕ) × (get_elem? v.gone i ≡ some g)). kv.shares_closed (suc a.0) g (gone_share v a.0 g live a.1))
                  (λ (a : (i : ℕ) × (get_elem? w.gone i ≡ some g)). kw.shares_closed (suc a.0) g (gone_share w a.0 g live' a.1))
                  (at_append v.gone w.gone a.0 g a.1))
                  (λ (a : (i : ℕ) × (get_elem? (gone_of w.who w.seen ∷ []) i ≡ some g)). subst (Closed carries r.log) (at_one (gone_of w.who w.seen) g a.0 a.1) (own_closed kw live'))
                  (at_append (v.gone ++ w.gone) (gone_of w.who w.seen ∷ []) i g e));
              begins = longer_cases (λ (l : List I). IsPrefix l r.log) v.seen w.seen r.log kv.begins kw.begins (λ _. kw.begins) (λ _. kv.begins);
              within = let inside = kv.within in omega (arith, length-append v.seen (drop (length v.seen) w.seen));
              stands = kv.stands;
              gives = marks.0;
              gives_none = marks.1;
              at_most = let a = kv.at_most in let b = kw.at_most in omega arith;
              lends = kv.lends;
              grounded = kv.grounded;
              rests = λ gone. absurd (false-ne-true (sym live ∙ gone));
            })
            (λ (q : (j ≢ id) × (get_elem? vs j ≡ some u)). r.each j u q.1)
            (at_set vs id j both u t.1))
            (at_set (set vs id both) other j spent_view u e));
        at_home = λ nobody. r.at_home (not_held_before vs id v both at free (not_held_before (set vs id both) other w spent_view there free' nobody));
      }
