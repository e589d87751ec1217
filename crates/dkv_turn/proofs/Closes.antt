-- What the rule says of the last view and of the value at home.
use Rattle.std.proofs.Common.{◌≡◌, ◌≢◌, ℕ, suc, ◌+◌, ◌<◌, true, false, List, length, set, Option, Some, sym, refl, ap, ◌∙◌, subst, inl, inr, ⊎_elim, arith}
use mathlib.Core.Logic.{dite}
use mathlib.Core.Option.{some}
use mathlib.Core.List.{IsPrefix}
use native.Mathlib.Decide.{ℕ_discrete}
use lib.ListN.{get_elem?}
use Rattle.atomic_table.specs.Table.{Final, Seen}
use Rattle.atomic_table.proofs.Lists.{at_set}
use Rattle.dkv_turn.specs.declared.view.Stage.{Stage}
use Rattle.dkv_turn.specs.declared.view.Stage.TheVariants.{Idle}
use Rattle.dkv_turn.specs.declared.view.Gone.{Gone}
use Rattle.dkv_turn.specs.declared.view.View.{View}
use Rattle.dkv_turn.specs.Weights.{total}
use Rattle.dkv_turn.specs.Views.{gone_of, IsHolding, spent_view, shares}
use Rattle.dkv_turn.specs.Rule.{numbers, lent_to, Kept, KeptIn}
use Rattle.dkv_turn.specs.Ends.{Ends}
use Rattle.dkv_turn.proofs.Sums.{total-set, terms_le, total-one, below-one, only}
use Rattle.dkv_turn.proofs.Parts.{same_at, bool_cases, total_zero, some_weight, only_is, below-in}
use Rattle.dkv_turn.proofs.Shares.{own_closed, own_share, gone_share, share_cases, numbers_live, numbers_spent, own_items}
use Rattle.dkv_turn.proofs.Standing.{Homes, apart_within}

module _ {I G V : Type 0} (carries : I → ℕ) (items : V → List I) (lent : V → ℕ) (grounds : V → G) (base : G) where
  -- the last pass has or keeps every number, so no other view holds, and each item is accounted for
  pub ends : (ws : List ℕ) (hs : Homes V) (vs : List (View I G)) (r : Kept carries items lent grounds base ws hs vs) (id : ℕ) (v : View I G) → get_elem? vs id ≡ some v → v.spent ≡ false → v.stage ≡ Idle → v.marked ≡ true
      → length v.gone + v.left ≡ 4294967295 → (value : V) × (get_elem? hs 0 ≡ some (some (Some value))) × Ends carries items lent grounds v value
  ends ws hs vs r id v at live idle marked last =
      let kn = r.each id v at in
      let all_mine : numbers (λ _. 1) v ≡ length vs = let g = kn.gives marked in omega (arith, numbers_live (λ _. 1) v live, total-one v.gone) in
      let others : (j : ℕ) (u : View I G) → j ≢ id → get_elem? vs j ≡ some u → u.spent ≡ true = λ j u ne a.
      bool_cases u.spent (λ y. y) (λ no. let t = terms_le (numbers (λ _. 1)) vs id j v u ne at a in let o = r.once (λ _. 1) in
      absurd (omega (arith, numbers_live (λ _. 1) u no, below-one (length vs)))) in
      let rest_zero : (g : View I G → ℕ) → g spent_view ≡ 0 → ((u : View I G) → (u.spent ≡ true) → u.loan ≡ 0 → g u ≡ 0) → total g vs ≡ g v = λ g z each.
      let t = total_zero g (set vs id spent_view) (λ k a e. ⊎_elim
      (λ (q : (k ≡ id) × (spent_view ≡ a)). ap g (sym q.1) ∙ z)
      (λ (q : (k ≢ id) × (get_elem? vs k ≡ some a)). let gone = others k a q.0 q.1 in each a gone ((r.each k a q.1).rests gone).1)
      (at_set vs id k spent_view a e)) in
      omega (arith, total-set g vs id v spent_view at) in
      let nobody : (j : ℕ) (u : View I G) → get_elem? vs j ≡ some u → ¬ IsHolding u.stage = λ j u a. dite (ℕ_discrete j id)
      (λ same. let here : v ≡ u = same_at vs id v u at (subst (λ (x : ℕ). get_elem? vs x ≡ some u) same a) in subst (λ (t : Stage I). ¬ IsHolding t) (sym idle ∙ ap (λ (x : View I G). x.stage) here) (λ h. h))
      (λ ne. subst (λ (t : Stage I). ¬ IsHolding t) (sym ((r.each j u a).rests (others j u ne a)).0) (λ h. h)) in
      let home = r.at_home nobody in (
        home.value,
        ap (λ (hs : Homes V). get_elem? hs 0) r.homes_are ∙ ap some home.there,
        record {
          same_ground = kn.grounded live ∙ ap Some (sym home.keeps_ground);
          same_loan = home.keeps_loan ∙ (sym r.one_loan ∙ rest_zero lent_to refl (λ u gone z. z));
          moment = let h = r.handed_in in let most = kn.at_most in dite (ℕ_discrete h.0 id)
              (λ same.
              let here : v ≡ h.1 = same_at vs id v h.1 at (subst (λ (x : ℕ). get_elem? vs x ≡ some h.1) same h.2) in
              let by : v.handed ≡ h.1.handed = ap (λ (u : View I G). u.handed) here in
              let le = h.3 in omega arith)
              (λ other. let none = ((r.each h.0 h.1 h.2).rests (others h.0 h.1 other h.2)).2 in let le = h.3 in omega arith);
          apart_own = λ k g e same. apart_within r id v 0 (suc k) (gone_of v.who v.within) g (λ z. absurd (omega arith)) at (own_share v live) (gone_share v k g live e) (sym same);
          apart = λ j k g h ne e d same. apart_within r id v (suc j) (suc k) g h (λ z. ne (omega arith)) at (gone_share v j g live e) (gone_share v k h live d) same;
          begins = subst (λ (l : List I). IsPrefix v.seen l) (sym home.keeps_log) kn.begins;
          own = own_items v.who v.seen (items home.value) r.log home.keeps_log (own_closed kn live);
          own_gone = λ k g e. own_items g.who g.seen (items home.value) r.log home.keeps_log (kn.shares_closed (suc k) g (gone_share v k g live e));
          begins_gone = λ k g e. subst (λ (l : List I). IsPrefix g.seen l) (sym home.keeps_log) (kn.shares_closed (suc k) g (gone_share v k g live e)).begins;
          numbered = λ i x e.
              let e' : get_elem? r.log i ≡ some x = subst (λ (l : List I). get_elem? l i ≡ some x) home.keeps_log e in
              let full = below-in (carries x) (length vs) (r.given i x e') in let o = r.once (only (carries x)) in
              let mine = rest_zero (numbers (only (carries x))) refl (λ u gone _. numbers_spent (only (carries x)) u gone) in
              let t = some_weight (λ (g : Gone I). only (carries x) g.who) (shares v) (omega arith) in
              let who : t.1.who ≡ carries x = only_is (carries x) t.1.who t.3 in
              let inside : i < length t.1.seen = (kn.shares_closed t.0 t.1 t.2).holds_all i x e' (sym who) in
              ⊎_elim
              (λ (own : gone_of v.who v.within ≡ t.1). inl (sym who ∙ ap (λ (g : Gone I). g.who) (sym own), let there : i < length v.within = subst (λ (g : Gone I). i < length g.seen) (sym own) inside in let all = kn.within in omega arith))
              (λ (q : (k : ℕ) × (get_elem? v.gone k ≡ some t.1)). inr (q.0, t.1, q.1, sym who, inside))
              (share_cases v t.0 t.1 live t.2);
        },
      )

  -- what the first slot has at the end is the value
  pub last_value : (ws : List ℕ) (slots : List (Option V)) (got : Option V) (v : View I G) (id : ℕ) → Final (Seen (KeptIn carries items lent grounds base) id v) ws slots → get_elem? slots 0 ≡ some got → v.spent ≡ false → v.stage ≡ Idle → v.marked ≡ true
      → length v.gone + v.left ≡ 4294967295 → (value : V) × (got ≡ Some value) × Ends carries items lent grounds v value
  last_value ws slots got v id f at live idle marked last =
      let e = ends f.0.words f.0.homes f.0.views f.1.0 id v f.1.1 live idle marked last in
      (e.0, same_at slots 0 got (Some e.0) at (f.4 0 (Some e.0) e.1), e.2)
