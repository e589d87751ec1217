-- Tests of all elements before a place and from it on.
use Rattle.std.proofs.Common.{◌≡◌, ℕ, zero, suc, ◌<◌, ◌≤◌, Bool, true, false, cond, not, ◌&&◌, List, [], ◌∷◌, length, take, drop, filter, get_or, refl, sym, ap, ◌∙◌, arith}
use Rattle.std.specs.List.{list_all}
use Rattle.std.proofs.lemmas.Bool.{and_parts, and_from}

-- what is not so fails
pub fails : (b : Bool) → not b ≡ true → b ≡ false
fails true h = sym h
fails false h = refl

module _ {X : Type 0} (p : X → Bool) where
  -- what holds of each before a place holds of all before it
  pub all-take : (xs : List X) (i : ℕ) → ((k : ℕ) (d : X) → k < i → p (get_or xs k d) ≡ true) → list_all p (take i xs) ≡ true
  all-take xs zero each = refl
  all-take [] (suc i) each = refl
  all-take (x ∷ xs) (suc i) each = and_from _ _ (each 0 x (omega arith)) (all-take xs i (λ k d lt. each (suc k) d (omega arith)))

  -- and likewise from a place on
  pub all-drop : (xs : List X) (i : ℕ) → ((k : ℕ) (d : X) → i ≤ k → k < length xs → p (get_or xs k d) ≡ true) → list_all p (drop i xs) ≡ true
  all-drop [] zero each = refl
  all-drop [] (suc i) each = refl
  all-drop (x ∷ xs) zero each = and_from _ _ (each 0 x (omega arith) (omega arith)) (all-drop xs zero (λ k d le lt. each (suc k) d (omega arith) (omega arith)))
  all-drop (x ∷ xs) (suc i) each = all-drop xs i (λ k d le lt. each (suc k) d (omega arith) (omega arith))

  -- what holds of all holds of those from a place on
  pub all_of_drop : (xs : List X) (i : ℕ) → list_all p xs ≡ true → list_all p (drop i xs) ≡ true
  all_of_drop xs zero all = all
  all_of_drop [] (suc i) all = refl
  all_of_drop (x ∷ xs) (suc i) all = all_of_drop xs i (and_parts _ _ all).1

  -- and of those before it
  pub all_of_take : (xs : List X) (i : ℕ) → list_all p xs ≡ true → list_all p (take i xs) ≡ true
  all_of_take xs zero all = refl
  all_of_take [] (suc i) all = refl
  all_of_take (x ∷ xs) (suc i) all = and_from _ _ (and_parts _ _ all).0 (all_of_take xs i (and_parts _ _ all).1)

  -- a filter keeps what all pass
  pub filter-all : (xs : List X) → list_all p xs ≡ true → filter p xs ≡ xs
  filter-all [] all = refl
  filter-all (x ∷ xs) all = (λ i. cond ((and_parts (p x) _ all).0 i) (x ∷ filter p xs) (filter p xs)) ∙ ap (λ ys. x ∷ ys) (filter-all xs (and_parts _ _ all).1)

  -- and nothing where all fail
  pub filter-none : (xs : List X) → list_all (λ x. not (p x)) xs ≡ true → filter p xs ≡ []
  filter-none [] none = refl
  filter-none (x ∷ xs) none = (λ i. cond (fails (p x) (and_parts _ _ none).0 i) (x ∷ filter p xs) (filter p xs)) ∙ filter-none xs (and_parts _ _ none).1

  -- the first that fail are left out
  pub filter-drop : (xs : List X) (i : ℕ) → list_all (λ x. not (p x)) (take i xs) ≡ true → filter p xs ≡ filter p (drop i xs)
  filter-drop xs zero none = refl
  filter-drop [] (suc i) none = refl
  filter-drop (x ∷ xs) (suc i) none = (λ j. cond (fails (p x) (and_parts _ _ none).0 j) (x ∷ filter p xs) (filter p xs)) ∙ filter-drop xs i (and_parts _ _ none).1

  -- where the first pass and no others do, it is the first
  pub filter-take : (xs : List X) (i : ℕ) → list_all p (take i xs) ≡ true → list_all (λ x. not (p x)) (drop i xs) ≡ true → filter p xs ≡ take i xs
  filter-take xs zero all none = filter-none xs none
  filter-take [] (suc i) all none = refl
  filter-take (x ∷ xs) (suc i) all none =
      (λ j. cond ((and_parts (p x) _ all).0 j) (x ∷ filter p xs) (filter p xs)) ∙ ap (λ ys. x ∷ ys) (filter-take xs i (and_parts _ _ all).1 none)

  -- of two tests, one that all pass
  pub filter-and : (q : X → Bool) (xs : List X) → list_all p xs ≡ true → filter (λ x. p x && q x) xs ≡ filter q xs
  filter-and q [] all = refl
  filter-and q (x ∷ xs) all =
      (λ j. cond ((and_parts (p x) _ all).0 j && q x) (x ∷ filter-and q xs (and_parts _ _ all).1 j) (filter-and q xs (and_parts _ _ all).1 j))
