-- The numbers of a view, its own and those joined into it, and the histories that were seen under them.
use Rattle.std.proofs.Common.{◌≡◌, ℕ, zero, suc, ◌+◌, ◌≤◌, ◌⊎◌, Bool, true, false, cond, List, [], ◌∷◌, ◌++◌, sym, refl, ap, ◌∙◌, subst, inl, inr, ⊎_elim, arith}
use mathlib.Core.Option.{some, some-injective, some-ne-none}
use lib.ListN.{get_elem?}
use Rattle.atomic_table.proofs.Lists.{at_snoc}
use Rattle.dkv_turn.specs.declared.view.Gone.{Gone}
use Rattle.dkv_turn.specs.declared.view.View.{View}
use Rattle.dkv_turn.specs.Weights.{total}
use Rattle.dkv_turn.specs.Histories.{mine}
use Rattle.dkv_turn.specs.Views.{gone_of, shares}
use Rattle.dkv_turn.specs.Rule.{Closed, numbers, Knows}
use Rattle.dkv_turn.proofs.Sums.{term_le, only, only-same}
use Rattle.dkv_turn.proofs.Laws.{prefix_self, prefix_trans, mine_after}
use Rattle.dkv_turn.proofs.Parts.{at_bound}

module _ {I : Type 0} where
  -- what is true of a view's own number and of each that was joined into it is true of all its numbers
  pub closed_each : (Q : Gone I → Type 0) (b : Bool) (y : Gone I) (gone : List (Gone I)) → (b ≡ false → Q y)
      → ((k : ℕ) (g : Gone I) → b ≡ false → get_elem? gone k ≡ some g → Q g)
      → (k : ℕ) (g : Gone I) → get_elem? (cond b [] (y ∷ gone)) k ≡ some g → Q g
  closed_each Q true y gone own others k g e = absurd (some-ne-none g (sym e))
  closed_each Q false y gone own others zero g e = subst Q (some-injective y g e) (own refl)
  closed_each Q false y gone own others (suc k) g e = others k g refl e

  own_or_gone : (x g : Gone I) (gone : List (Gone I)) (k : ℕ) → get_elem? (x ∷ gone) k ≡ some g
      → (x ≡ g) ⊎ ((i : ℕ) × (get_elem? gone i ≡ some g))
  own_or_gone x g gone zero e = inl (some-injective x g e)
  own_or_gone x g gone (suc k) e = inr (k, e)

module _ {I G : Type 0} where
  pub own_share : (v : View I G) → v.spent ≡ false → get_elem? (shares v) 0 ≡ some (gone_of v.who v.within)
  own_share v live = ap (λ (c : Bool). get_elem? (cond c [] (gone_of v.who v.within ∷ v.gone)) 0) live

  pub gone_share : (v : View I G) (k : ℕ) (g : Gone I) → v.spent ≡ false → get_elem? v.gone k ≡ some g
      → get_elem? (shares v) (suc k) ≡ some g
  gone_share v k g live e = ap (λ (c : Bool). get_elem? (cond c [] (gone_of v.who v.within ∷ v.gone)) (suc k)) live ∙ e

  pub share_cases : (v : View I G) (k : ℕ) (g : Gone I) → v.spent ≡ false → get_elem? (shares v) k ≡ some g
      → (gone_of v.who v.within ≡ g) ⊎ ((i : ℕ) × (get_elem? v.gone i ≡ some g))
  share_cases v k g live e =
      let at = sym (ap (λ (c : Bool). get_elem? (cond c [] (gone_of v.who v.within ∷ v.gone)) k) live) ∙ e in
      own_or_gone (gone_of v.who v.within) g v.gone k at

  pub has_number : (v : View I G) (k : ℕ) (g : Gone I) (n : ℕ) → get_elem? (shares v) k ≡ some g → g.who ≡ n
      → 1 ≤ numbers (only n) v
  has_number v k g n e is =
      let t = term_le (λ (h : Gone I). only n h.who) (shares v) k g e in
      let o : only n g.who ≡ 1 = ap (only n) is ∙ only-same n in
      omega arith

  pub numbers_live : (f : ℕ → ℕ) (v : View I G) → v.spent ≡ false
      → numbers f v ≡ f v.who + total (λ (g : Gone I). f g.who) v.gone
  numbers_live f v live =
      ap (λ (c : Bool). total (λ (g : Gone I). f g.who) (cond c [] (gone_of v.who v.within ∷ v.gone))) live

  pub numbers_spent : (f : ℕ → ℕ) (v : View I G) → v.spent ≡ true → numbers f v ≡ 0
  numbers_spent f v gone =
      ap (λ (c : Bool). total (λ (g : Gone I). f g.who) (cond c [] (gone_of v.who v.within ∷ v.gone))) gone

module _ {I : Type 0} {carries : I → ℕ} where
  pub whole_closed : (log : List I) (n : ℕ) → Closed carries log (gone_of n log)
  whole_closed log n = record { begins = prefix_self log; holds_all = λ i x e _. at_bound log i x e }

  -- the history grows by an item of another number
  pub closed_grows : (log log' : List I) (x : I) (g : Gone I) → log' ≡ log ++ x ∷ [] → (carries x ≡ g.who → ⊥)
      → Closed carries log g → Closed carries log' g
  closed_grows log log' x g grows other c = record {
    begins = prefix_trans g.seen log log' c.begins (x ∷ [], sym grows);
    holds_all = λ i y e n. ⊎_elim
        (λ (p : get_elem? log i ≡ some y). c.holds_all i y p n)
        (λ (p : x ≡ y). absurd (other (ap carries p ∙ n)))
        (at_snoc log x y i (subst (λ (l : List I). get_elem? l i ≡ some y) grows e));
  }

  -- no item past those seen under a number carries it, so the number's own are among those seen
  pub own_items : (n : ℕ) (xs all log : List I) → all ≡ log → Closed carries log (gone_of n xs)
      → mine carries n all ≡ mine carries n xs
  own_items n xs all log is c = ap (mine carries n) is ∙ mine_after carries n xs log c.begins c.holds_all

module _ {I G : Type 0} {carries : I → ℕ} {base : G} where
  -- no item past what it has seen carries its number, since none carries it past what is within
  pub own_closed : {s : ℕ} {log : List I} {now loan c : ℕ} {v : View I G} → Knows carries base s log now loan c v → v.spent ≡ false
      → Closed carries log (gone_of v.who v.seen)
  own_closed {v = v} k live = record {
    begins = k.begins;
    holds_all = λ i x e n.
        let b = (k.shares_closed 0 (gone_of v.who v.within) (own_share v live)).holds_all i x e n in
        let w = k.within in omega arith;
  }
