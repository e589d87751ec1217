-- A look-up, a put and a removal in a list whose first items rank below, or whose last rank above.
use Rattle.std.proofs.Common.{◌≡◌, Bool, true, cond, not, List, [], ◌∷◌, ◌++◌, Some, None, refl, ap, ◌∙◌}
use Rattle.std.specs.List.{list_all}
use Rattle.std.specs.Ordering.{is_lt, is_eq, match_ordering}
use Rattle.std.specs.declared.cmp.Ordering.{Ordering}
use Rattle.std.specs.declared.cmp.Ordering.TheVariants.{Equal}
use Rattle.std.specs.Cmp.{IsTotalOrder}
use Rattle.std.proofs.lemmas.Bool.{and_parts}
use Rattle.dkv_base.specs.Ordered.{found, above, put_in, left_out}
use Rattle.dkv_base.proofs.Lists.{all_weaker}
use Rattle.dkv_base.proofs.Ranks.{lt_is, greater, not_eq-below, not_lt-below, not_eq-above, lt_lt, eq_lt, lt_eq}

module _ {T : Type 0} {cmp : T → T → Ordering} (o : IsTotalOrder cmp) where
  -- all rank below x, and all rank above it
  abbrev pub all_below : T → List T → Bool
  all_below x ys = list_all (λ y. is_lt (cmp y x)) ys

  abbrev pub all_above : T → List T → Bool
  all_above x ys = list_all (λ y. is_lt (cmp x y)) ys

  -- items that rank below x are passed by
  pub found-below : (x : T) (ys zs : List T) → all_below x ys ≡ true → found cmp x (ys ++ zs) ≡ found cmp x zs
  found-below x [] zs h = refl
  found-below x (y ∷ ys) zs h =
      (λ i. cond (not_eq-below o x y (and_parts _ _ h).0 i) (Some y) (found cmp x (ys ++ zs))) ∙ found-below x ys zs (and_parts _ _ h).1

  -- the first above is not among those below
  pub above-below : (x : T) (ys zs : List T) → all_below x ys ≡ true → above cmp x (ys ++ zs) ≡ above cmp x zs
  above-below x [] zs h = refl
  above-below x (y ∷ ys) zs h =
      (λ i. cond (not_lt-below o x y (and_parts _ _ h).0 i) (Some y) (above cmp x (ys ++ zs))) ∙ above-below x ys zs (and_parts _ _ h).1

  -- a put passes by those below
  pub put_in-below : (x : T) (ys zs : List T) → all_below x ys ≡ true → put_in cmp x (ys ++ zs) ≡ ys ++ put_in cmp x zs
  put_in-below x [] zs h = refl
  put_in-below x (y ∷ ys) zs h =
      (λ i. match_ordering (greater o y x (and_parts _ _ h).0 i) (x ∷ y ∷ (ys ++ zs)) (x ∷ (ys ++ zs)) (y ∷ put_in cmp x (ys ++ zs)))
      ∙ ap (λ us. y ∷ us) (put_in-below x ys zs (and_parts _ _ h).1)

  -- a removal passes by those below
  pub left_out-below : (x : T) (ys zs : List T) → all_below x ys ≡ true → left_out cmp x (ys ++ zs) ≡ ys ++ left_out cmp x zs
  left_out-below x [] zs h = refl
  left_out-below x (y ∷ ys) zs h =
      (λ i. cond (not (not_eq-below o x y (and_parts _ _ h).0 i)) (y ∷ left_out cmp x (ys ++ zs)) (left_out cmp x (ys ++ zs)))
      ∙ ap (λ us. y ∷ us) (left_out-below x ys zs (and_parts _ _ h).1)

  -- and those that rank above x end the search
  pub found-above : (x : T) (ys : List T) → all_above x ys ≡ true → found cmp x ys ≡ None
  found-above x [] h = refl
  found-above x (y ∷ ys) h =
      (λ i. cond (not_eq-above (cmp x y) (and_parts _ _ h).0 i) (Some y) (found cmp x ys)) ∙ found-above x ys (and_parts _ _ h).1

  -- an item below all is put first
  pub put_in-above : (x : T) (ys : List T) → all_above x ys ≡ true → put_in cmp x ys ≡ x ∷ ys
  put_in-above x [] h = refl
  put_in-above x (y ∷ ys) h = λ i. match_ordering (lt_is (cmp x y) (and_parts _ _ h).0 i) (x ∷ y ∷ ys) (x ∷ ys) (y ∷ put_in cmp x ys)

  -- a removal below all leaves all
  pub left_out-above : (x : T) (ys : List T) → all_above x ys ≡ true → left_out cmp x ys ≡ ys
  left_out-above x [] h = refl
  left_out-above x (y ∷ ys) h =
      (λ i. cond (not (not_eq-above (cmp x y) (and_parts _ _ h).0 i)) (y ∷ left_out cmp x ys) (left_out cmp x ys))
      ∙ ap (λ us. y ∷ us) (left_out-above x ys (and_parts _ _ h).1)

  -- at the item that ranks as x does
  pub found-here : (x y : T) (ys : List T) → cmp x y ≡ Equal → found cmp x (y ∷ ys) ≡ Some y
  found-here x y ys h i = cond (ap is_eq h i) (Some y) (found cmp x ys)

  -- nor is it one of the same rank
  pub above-here : (x y : T) (ys : List T) → cmp x y ≡ Equal → above cmp x (y ∷ ys) ≡ above cmp x ys
  above-here x y ys h i = cond (ap is_lt h i) (Some y) (above cmp x ys)

  -- a put takes the place of the item of its rank
  pub put_in-here : (x y : T) (ys : List T) → cmp x y ≡ Equal → put_in cmp x (y ∷ ys) ≡ x ∷ ys
  put_in-here x y ys h i = match_ordering (h i) (x ∷ y ∷ ys) (x ∷ ys) (y ∷ put_in cmp x ys)

  -- a removal takes the item of its rank
  pub left_out-here : (x y : T) (ys : List T) → cmp x y ≡ Equal → left_out cmp x (y ∷ ys) ≡ left_out cmp x ys
  left_out-here x y ys h i = cond (not (ap is_eq h i)) (y ∷ left_out cmp x ys) (left_out cmp x ys)

  -- the first of those that rank above
  pub above-first : (x y : T) (ys : List T) → is_lt (cmp x y) ≡ true → above cmp x (y ∷ ys) ≡ Some y
  above-first x y ys h i = cond (h i) (Some y) (above cmp x ys)

  -- what ranks below y ranks below what ranks above it, and so on
  pub all_below-lt : (x y : T) (ys : List T) → is_lt (cmp y x) ≡ true → all_below y ys ≡ true → all_below x ys ≡ true
  all_below-lt x y ys h = all_weaker _ _ (λ z k. lt_lt o z y x k h) ys

  -- what stands below an item stands below those of its rank
  pub all_below-eq : (x y : T) (ys : List T) → cmp x y ≡ Equal → all_below y ys ≡ true → all_below x ys ≡ true
  all_below-eq x y ys h = all_weaker _ _ (λ z k. lt_eq o z y x k h) ys

  -- and above those below it
  pub all_above-lt : (x y : T) (ys : List T) → is_lt (cmp x y) ≡ true → all_above y ys ≡ true → all_above x ys ≡ true
  all_above-lt x y ys h = all_weaker _ _ (λ z k. lt_lt o x y z h k) ys

  -- what stands above an item stands above those of its rank
  pub all_above-eq : (x y : T) (ys : List T) → cmp x y ≡ Equal → all_above y ys ≡ true → all_above x ys ≡ true
  all_above-eq x y ys h = all_weaker _ _ (λ z k. eq_lt o x y z h k) ys
