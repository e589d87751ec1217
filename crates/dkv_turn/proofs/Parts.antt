-- Lemmas on lists, truth values, stages and views, which no rule is part of.
use Rattle.std.proofs.Common.{◌≡◌, ℕ, zero, suc, ◌+◌, ◌<◌, ◌≤◌, ◌⊎◌, Bool, true, false, cond, List, [], ◌∷◌, ◌++◌, length, set, sym, refl, ap, ◌∙◌, subst, inl, inr, ⊎_elim, arith, max, ◌||◌, eq-eqb, ne_eqb, lt_of_not-le, le_of_lt, drop_of_length-le, append-nil, Option}
use mathlib.Core.Logic.{dite}
use mathlib.Core.Option.{some, some-injective, some-ne-none}
use mathlib.Core.List.{IsPrefix}
use native.Mathlib.Decide.{ℕ_discrete, dec_le}
use lib.ListN.{get_elem?}
use Rattle.atomic_table.proofs.Lists.{set_else}
use Rattle.dkv_turn.specs.declared.view.Stage.{Stage}
use Rattle.dkv_turn.specs.declared.view.Stage.TheVariants.{Idle, Waiting, Holding}
use Rattle.dkv_turn.specs.declared.view.Gone.{Gone}
use Rattle.dkv_turn.specs.declared.view.View.{View}
use Rattle.dkv_turn.specs.Weights.{total, below}
use Rattle.dkv_turn.specs.Histories.{longer}
use Rattle.dkv_turn.specs.Views.{gone_of, IsHolding, number_of}
use Rattle.dkv_turn.specs.Rule.{stage_weight, StandsAt, HasNoted}
use Rattle.dkv_turn.proofs.Sums.{only, below-only}
use Rattle.dkv_turn.proofs.Laws.{prefix_shorter}

module _ {A : Type 0} where
  pub at_bound : (l : List A) (i : ℕ) (a : A) → get_elem? l i ≡ some a → i < length l
  at_bound [] i a e = absurd (some-ne-none a (sym e))
  at_bound (x ∷ xs) zero a e = omega arith
  at_bound (x ∷ xs) (suc i) a e = omega (arith, at_bound xs i a e)

  pub same_at : (l : List A) (i : ℕ) (a b : A) → get_elem? l i ≡ some a → get_elem? l i ≡ some b → a ≡ b
  same_at l i a b e d = some-injective a b (sym e ∙ d)

  pub total_le : (g h : A → ℕ) → ((a : A) → g a ≤ h a) → (l : List A) → total g l ≤ total h l
  total_le g h le [] = omega arith
  total_le g h le (x ∷ xs) = omega (arith, le x, total_le g h le xs)

  pub total_same : (g h : A → ℕ) → ((a : A) → g a ≡ h a) → (l : List A) → total g l ≡ total h l
  total_same g h e [] = refl
  total_same g h e (x ∷ xs) = omega (arith, e x, total_same g h e xs)

pub false-ne-true : false ≡ true → ⊥
false-ne-true e = cc

pub bool_cases : {P : Type 0} (b : Bool) → (b ≡ true → P) → (b ≡ false → P) → P
bool_cases true f g = f refl
bool_cases false f g = g refl

pub one_is : (b : Bool) → b ≡ true → let n : ℕ = cond b 1 0 in n ≡ 1
one_is b e = ap (λ (c : Bool). cond c 1 0) e

pub zero_is_false : (b : Bool) → let n : ℕ = cond b 1 0 in n ≡ 0 → b ≡ false
zero_is_false true e = absurd (omega arith)
zero_is_false false e = refl

-- of two marks at most one is there
pub both_give : (a b : Bool) (x y c : ℕ) → (a ≡ true → x + c ≡ 4294967296) → (a ≡ false → x ≡ 0) → (b ≡ true → y + c ≡ 4294967296) → (b ≡ false → y ≡ 0) → cond a 1 0 + cond b 1 0 ≤ 1
    → ((a || b) ≡ true → max x y + c ≡ 4294967296) × ((a || b) ≡ false → max x y ≡ 0) × (cond (a || b) 1 0 ≤ cond a 1 0 + cond b 1 0)
both_give true true x y c p q p' q' le = absurd (omega arith)
both_give true false x y c p q p' q' le = let e = p refl in let z = q' refl in ((λ _. omega arith), (λ e. absurd (false-ne-true (sym e))), omega arith)
both_give false true x y c p q p' q' le = let e = q refl in let z = p' refl in ((λ _. omega arith), (λ e. absurd (false-ne-true (sym e))), omega arith)
both_give false false x y c p q p' q' le = let e = q refl in let z = q' refl in ((λ e. absurd (false-ne-true e)), (λ _. omega arith), omega arith)

module _ {A : Type 0} where
  pub at_append : (l m : List A) (k : ℕ) (a : A) → get_elem? (l ++ m) k ≡ some a → ((i : ℕ) × (get_elem? l i ≡ some a)) ⊎ ((i : ℕ) × (get_elem? m i ≡ some a))
  at_append [] m k a e = inr (k, e)
  at_append (x ∷ xs) m zero a e = inl (0, e)
  at_append (x ∷ xs) m (suc k) a e = ⊎_elim (λ (t : (i : ℕ) × (get_elem? xs i ≡ some a)). inl (suc t.0, t.1)) (λ (t : (i : ℕ) × (get_elem? m i ≡ some a)). inr t) (at_append xs m k a e)

  pub at_one : (x a : A) (k : ℕ) → get_elem? (x ∷ []) k ≡ some a → x ≡ a
  at_one x a zero e = some-injective x a e
  at_one x a (suc k) e = absurd (some-ne-none a (sym e))

  pub longer_right : (xs ys : List A) → IsPrefix xs ys → longer xs ys ≡ ys
  longer_right [] ys p = refl
  longer_right (x ∷ xs) [] p = absurd (cc (p.1))
  longer_right (x ∷ xs) (y ∷ ys) p = let heads : x ≡ y = cc (p.1) in let rest = longer_right xs ys (p.0, cc (p.1)) in cc (heads, rest)

  pub longer_left : (xs ys : List A) → length ys ≤ length xs → longer xs ys ≡ xs
  longer_left xs ys le = ap (λ (l : List A). xs ++ l) (drop_of_length-le ys le) ∙ append-nil xs

  pub longer_cases : (P : List A → Type 0) (xs ys log : List A) → IsPrefix xs log → IsPrefix ys log → (length xs ≤ length ys → P ys) → (length ys ≤ length xs → P xs) → P (longer xs ys)
  longer_cases P xs ys log p q less more = dite (dec_le (length xs) (length ys))
      (λ le. subst P (sym (longer_right xs ys (prefix_shorter xs ys log p q le))) (less le))
      (λ n. let le : length ys ≤ length xs = le_of_lt (lt_of_not-le n) in subst P (sym (longer_left xs ys le)) (more le))

  pub total_zero : (g : A → ℕ) (l : List A) → ((k : ℕ) (a : A) → get_elem? l k ≡ some a → g a ≡ 0) → total g l ≡ 0
  total_zero g [] z = refl
  total_zero g (x ∷ xs) z = omega (arith, z 0 x refl, total_zero g xs (λ k a e. z (suc k) a e))

  pub some_weight : (g : A → ℕ) (l : List A) → 0 < total g l → (k : ℕ) × (a : A) × (get_elem? l k ≡ some a) × (0 < g a)
  some_weight g [] p = absurd (omega arith)
  some_weight g (x ∷ xs) p = dite (ℕ_discrete (g x) 0)
      (λ z. let t = some_weight g xs (omega arith) in (suc t.0, t.1, t.2, t.3))
      (λ n. (0, x, refl, omega arith))

pub only_is : (n k : ℕ) → 0 < only n k → k ≡ n
only_is n k p = dite (ℕ_discrete k n) (λ e. e) (λ ne. let z : only n k ≡ 0 = ap (λ (b : Bool). cond b 1 0) (ne_eqb k n ne) in absurd (omega arith))

-- below n, the number k is counted once
pub below-in : (k n : ℕ) → k < n → below (only k) n ≡ 1
below-in k zero lt = absurd (omega arith)
below-in k (suc n) lt = dite (ℕ_discrete n k)
    (λ e. let one : only k n ≡ 1 = ap (λ b. cond b 1 0) (eq-eqb n k e) in let none-yet = (below-only k n).1 (omega arith) in omega arith)
    (λ ne. let zero-here : only k n ≡ 0 = ap (λ b. cond b 1 0) (ne_eqb n k ne) in let yes = below-in k n (omega arith) in omega arith)

module _ {I : Type 0} where
  pub stage_weight_le : (f h : ℕ → ℕ) → ((k : ℕ) → f k ≤ h k) → (t : Stage I) → stage_weight f t ≤ stage_weight h t
  stage_weight_le f h le Idle = omega arith
  stage_weight_le f h le (Waiting k) = le k
  stage_weight_le f h le (Holding k xs l n) = le k

  pub one_each : (t : Stage I) → stage_weight (λ _. 1) t ≤ 1
  one_each Idle = omega arith
  one_each (Waiting k) = omega arith
  one_each (Holding k xs l n) = omega arith

  pub holding_number : (f : ℕ → ℕ) (t : Stage I) → IsHolding t → stage_weight f t ≡ f (number_of t)
  holding_number f Idle h = absurd h
  holding_number f (Waiting k) h = absurd h
  holding_number f (Holding k xs l n) h = refl

  pub holding_served : (s : ℕ) (log : List I) (loan : ℕ) (t : Stage I) → IsHolding t → StandsAt s log loan t → number_of t ≡ s
  holding_served s log loan Idle h k = absurd h
  holding_served s log loan (Waiting n) h k = absurd h
  holding_served s log loan (Holding n xs l o) h k = k.0

  -- a view that doesn't hold stands anywhere
  pub stands_anywhere : (s s' : ℕ) (log log' : List I) (loan loan' : ℕ) (t : Stage I) → ¬ IsHolding t → StandsAt s log loan t → StandsAt s' log' loan' t
  stands_anywhere s s' log log' loan loan' Idle h k = tt
  stands_anywhere s s' log log' loan loan' (Waiting n) h k = tt
  stands_anywhere s s' log log' loan loan' (Holding n xs l o) h k = absurd (h tt)

  pub held_is : (s : ℕ) (log : List I) (loan : ℕ) {t : Stage I} {k : ℕ} {xs : List I} {l : ℕ} {o : Option ℕ} → t ≡ Holding k xs l o
      → StandsAt s log loan t → (k ≡ s) × (xs ≡ log) × (l ≡ loan) × HasNoted loan o
  held_is s log loan e h = subst (StandsAt s log loan) e h

  pub numbers_seen : (f : ℕ → ℕ) (b : Bool) (n : ℕ) (xs ys : List I) (gone : List (Gone I)) → total (λ (g : Gone I). f g.who) (cond b [] (gone_of n xs ∷ gone)) ≡ total (λ (g : Gone I). f g.who) (cond b [] (gone_of n ys ∷ gone))
  numbers_seen f true n xs ys gone = refl
  numbers_seen f false n xs ys gone = refl

module _ {I G : Type 0} where
  -- where nobody holds the turn after a step of a view that didn't, nobody held it before
  pub not_held_before : (vs : List (View I G)) (id : ℕ) (v w : View I G) → get_elem? vs id ≡ some v → ¬ IsHolding v.stage
      → ((j : ℕ) (u : View I G) → get_elem? (set vs id w) j ≡ some u → ¬ IsHolding u.stage) → (j : ℕ) (u : View I G) → get_elem? vs j ≡ some u → ¬ IsHolding u.stage
  not_held_before vs id v w at free nobody j u e = dite (ℕ_discrete j id)
      (λ same. let here : v ≡ u = same_at vs id v u at (subst (λ (x : ℕ). get_elem? vs x ≡ some u) same e) in subst (λ (x : View I G). ¬ IsHolding x.stage) here free)
      (λ other. nobody j u (set_else vs id j w other ∙ e))
