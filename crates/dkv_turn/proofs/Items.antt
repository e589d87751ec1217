-- The steps on the word count keep the rule.
use Rattle.std.proofs.Common.{◌≤◌, inr, ◌≡◌, ℕ, suc, ◌+◌, ◌%◌, ◌<◌, false, List, [], ◌∷◌, ◌++◌, length, get_or, set, Option, Some, None, sym, refl, ap, ◌∙◌, subst, ⊎_elim, arith, length-append, mod-eq_of_lt}
use mathlib.Core.Option.{some, none}
use mathlib.Core.List.{IsPrefix}
use lib.ListN.{get_elem?}
use Rattle.atomic_table.specs.Table.{step, keeps, Allows}
use Rattle.atomic_table.proofs.Lists.{set_here, at_snoc}
use Rattle.dkv_turn.specs.declared.view.Stage.TheVariants.{Holding}
use Rattle.dkv_turn.specs.declared.view.View.{View}
use Rattle.dkv_turn.specs.Views.{gone_of, IsHolding, number_of, log_of, loan_of, noted_of, with_seen, grown_view}
use Rattle.dkv_turn.specs.Rule.{Closed, HasNoted, stage_weight, ticket, KeptIn}
use Rattle.dkv_turn.specs.Steps.{Learned, Added}
use Rattle.dkv_turn.proofs.Sums.{only, only-same}
use Rattle.dkv_turn.proofs.Laws.{prefix_self, prefix_length, prefix_trans}
use Rattle.dkv_turn.proofs.Parts.{held_is, at_bound, false-ne-true, holding_number, holding_served, stands_anywhere, numbers_seen}
use Rattle.dkv_turn.proofs.Shares.{closed_each, own_share, gone_share, whole_closed, closed_grows}
use Rattle.dkv_turn.proofs.Standing.{restep, lone, apart, apart_within, number_below}

module _ {I G V : Type 0} (carries : I → ℕ) (items : V → List I) (lent : V → ℕ) (grounds : V → G) (base : G) where
  pub learns : (n id : ℕ) (v : View I G) (cs : List (ℕ × Option V)) (k : ℕ) (xs : List I) (l : ℕ) (o : Option ℕ) → v.spent ≡ false → v.stage ≡ Holding k xs l o
      → Allows (KeptIn carries items lent grounds base) n id (v, cs) 2 (λ x. x) (Learned (step 0 0 0 0 none) (v, cs))
  learns n id v cs k xs l o live held s r wide at lt =
      let kn = r.each id v at in
      let is : set s.words 2 (get_or s.words 2 0) ≡ (r.drawn % 18446744073709551616) ∷ (r.served % 18446744073709551616) ∷ length r.log ∷ r.now ∷ r.loan ∷ []
      = ap (λ (ws : List ℕ). set ws 2 (get_or ws 2 0)) r.words_are in
      let found : get_or s.words 2 0 ≡ length r.log = ap (λ (ws : List ℕ). get_or ws 2 0) r.words_are in
      let log : log_of v.stage ≡ r.log = ap log_of held ∙ (held_is r.served r.log r.loan held kn.stands).1 in
      let w = with_seen v (log_of v.stage) in
      let holds : IsHolding v.stage = subst IsHolding (sym held) tt in (
        w,
        keeps,
        tt,
        restep r id v w at _ s.homes r.drawn r.served r.log r.now r.loan r.home is r.homes_are r.short r.capped
            (λ f. omega arith) (λ f. refl) refl refl r.given (inr (omega arith, omega arith))
            record {
              shares_closed = kn.shares_closed;
              begins = subst (λ (l : List I). IsPrefix l r.log) (sym log) (prefix_self r.log);
              within = subst (λ (l : List I). length v.within ≤ length l) (sym log) (let le = prefix_length v.seen r.log kn.begins in let inside = kn.within in omega arith);
              stands = kn.stands;
              gives = kn.gives;
              gives_none = kn.gives_none;
              at_most = kn.at_most;
              lends = kn.lends;
              grounded = kn.grounded;
              rests = kn.rests;
            }
            (λ j u ne a h. h)
            (λ never. absurd (never id w (set_here s.views id w (at_bound s.views id v at)) holds)),
        (found ∙ sym (ap length log), refl),
      )

  pub adds : (n id : ℕ) (v : View I G) (cs : List (ℕ × Option V)) (k : ℕ) (xs : List I) (l : ℕ) (o : Option ℕ) (value : V) (x : I) → v.spent ≡ false → v.stage ≡ Holding k xs l o
      → xs ≡ v.seen → cs ≡ (0, Some value) ∷ [] → items value ≡ v.seen ++ x ∷ [] → carries x ≡ v.who → length (items value) < 9223372036854775808
      → Allows (KeptIn carries items lent grounds base) n id (v, cs) 2 (λ y. (y + 1) % 18446744073709551616) (Added items (step 0 0 0 0 none) (v, cs))
  adds n id v cs k xs l o value x live held all slot one mine_is short s r wide at lt =
      let kn = r.each id v at in
      let stood = held_is r.served r.log r.loan held kn.stands in
      let seen_all : v.seen ≡ r.log = sym all ∙ stood.1 in
      let grows : items value ≡ r.log ++ x ∷ [] = one ∙ ap (λ (l : List I). l ++ x ∷ []) seen_all in
      let len : length (items value) ≡ length r.log + 1 = ap length grows ∙ (omega (arith, length-append r.log (x ∷ []))) in
      let fits : (length r.log + 1) % 18446744073709551616 ≡ length (items value) = mod-eq_of_lt (omega arith) ∙ sym len in
      let is : set s.words 2 ((get_or s.words 2 0 + 1) % 18446744073709551616) ≡ (r.drawn % 18446744073709551616) ∷ (r.served % 18446744073709551616) ∷ length (items value) ∷ r.now ∷ r.loan ∷ []
      = ap (λ (ws : List ℕ). set ws 2 ((get_or ws 2 0 + 1) % 18446744073709551616)) r.words_are
      ∙ ap (λ (y : ℕ). (r.drawn % 18446744073709551616) ∷ (r.served % 18446744073709551616) ∷ y ∷ r.now ∷ r.loan ∷ []) fits in
      let w = grown_view v (items value) in
      let own = own_share v live in
      let number : number_of v.stage ≡ k = ap number_of held in
      let weight : (f : ℕ → ℕ) → ticket f v ≡ f k = λ f. ap (stage_weight f) held in (
        w,
        keeps,
        tt,
        restep r id v w at _ s.homes r.drawn r.served (items value) r.now r.loan r.home is r.homes_are short r.capped
            (λ f. let a : f (number_of v.stage) ≡ f k = ap f number in omega (arith, a, weight f))
            (λ f. numbers_seen f v.spent v.who (items value) v.within v.gone) refl refl
            (λ i y e. ⊎_elim (λ (p : get_elem? r.log i ≡ some y). r.given i y p)
            (λ (p : x ≡ y). subst (λ (c : ℕ). c < length s.views) (sym mine_is ∙ ap carries p) (number_below r id v 0 (gone_of v.who v.within) at own))
            (at_snoc r.log x y i (subst (λ (l : List I). get_elem? l i ≡ some y) grows e)))
            (inr (omega arith, omega arith))
            record {
              shares_closed = closed_each (Closed carries (items value)) v.spent (gone_of v.who (items value)) v.gone
                  (λ _. whole_closed (items value) v.who)
                  (λ i g b e. let there = gone_share v i g live e in
                  closed_grows r.log (items value) x g grows (λ same. apart_within r id v 0 (suc i) (gone_of v.who v.within) g (λ z. absurd (omega arith)) at own there (sym mine_is ∙ same)) (kn.shares_closed (suc i) g there));
              begins = prefix_self (items value);
              within = omega arith;
              stands = (number ∙ stood.0, refl, ap loan_of held ∙ stood.2, subst (HasNoted r.loan) (sym (ap noted_of held)) stood.3);
              gives = kn.gives;
              gives_none = kn.gives_none;
              at_most = kn.at_most;
              lends = kn.lends;
              grounded = kn.grounded;
              rests = λ gone. absurd (false-ne-true (sym live ∙ gone));
            }
            (λ j u ne a h.
            let resting : ¬ IsHolding u.stage = λ holds. let m : number_of u.stage ≡ k = holding_served r.served r.log r.loan u.stage holds h.stands ∙ sym stood.0 in
            lone r id j v u k ne at a (weight (only k) ∙ only-same k) (holding_number (only k) u.stage holds ∙ (ap (only k) m ∙ only-same k)) in
            record {
              shares_closed = λ i g e. closed_grows r.log (items value) x g grows (λ same. apart r id j v u 0 i (gone_of v.who v.within) g ne at a own e (sym mine_is ∙ same)) (h.shares_closed i g e);
              begins = prefix_trans u.seen r.log (items value) h.begins (x ∷ [], sym grows);
              within = h.within;
              stands = stands_anywhere r.served r.served r.log (items value) r.loan r.loan u.stage resting h.stands;
              gives = h.gives;
              gives_none = h.gives_none;
              at_most = h.at_most;
              lends = h.lends;
              grounded = h.grounded;
              rests = h.rests;
            })
            (λ never. absurd (never id w (set_here s.views id w (at_bound s.views id v at)) tt)),
        (λ value' e. let both : Some value ≡ Some value' = ap (λ (l : List (ℕ × Option V)). (get_or l 0 (0, None)).1) (sym slot ∙ e) in let same : value ≡ value' = cc (both) in ap (λ (y : V). (grown_view v (items y), cs)) same),
      )
