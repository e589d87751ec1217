-- The first of several limits, one part after another.
use Rattle.std.proofs.Common.{◌≡◌, ℕ, ◌+◌, ◌<◌, Bool, true, false, List, [], ◌∷◌, ◌++◌, length, map, take, drop, get_or, Option, Some, None, refl, sym, ap, ◌∙◌}
use Rattle.std.specs.Prelude.{◌||◌}
use Rattle.std.specs.List.{list_any}
use Rattle.std.specs.Option.{option_or, is_some}
use Rattle.std.proofs.lemmas.List.{take_more, map-append, take-append-drop}
use Rattle.dkv_base.specs.Limits.{first_some, when}
use Rattle.dkv_base.specs.declared.codes.Limit.{Limit}

or_none : {A : Type 0} (x : Option A) → option_or x None ≡ x
or_none None = refl
or_none (Some x) = refl

some_or : {A : Type 0} (x y : Option A) → is_some x ≡ true → option_or x y ≡ x
some_or None y is = absurd (cc is)
some_or (Some x) y is = refl

none_is : {A : Type 0} (x : Option A) → is_some x ≡ false → x ≡ None
none_is None is = refl
none_is (Some x) is = absurd (cc is)

first-append : {A : Type 0} (xs ys : List (Option A)) → first_some (xs ++ ys) ≡ option_or (first_some xs) (first_some ys)
first-append [] ys = refl
first-append (None ∷ xs) ys = first-append xs ys
first-append (Some x ∷ xs) ys = refl

module _ {X : Type 0} (f : X → Option Limit) (xs : List X) (i : ℕ) (x : X) where
  -- the parts before place i pass none, so the first of those up to it is its own
  upto : i < length xs → first_some (map f (take i xs)) ≡ None → x ≡ get_or xs i x → first_some (map f (take (i + 1) xs)) ≡ f x
  upto inside none is =
      ap (λ (l : List X). first_some (map f l)) (take_more xs i x inside)
      ∙ ap first_some (map-append f (take i xs) (get_or xs i x ∷ []))
      ∙ first-append (map f (take i xs)) (f (get_or xs i x) ∷ [])
      ∙ ap (λ (o : Option Limit). option_or o (option_or (f (get_or xs i x)) None)) none
      ∙ or_none (f (get_or xs i x))
      ∙ ap f (sym is)

  pub goes_on : i < length xs → first_some (map f (take i xs)) ≡ None → x ≡ get_or xs i x → is_some (f x) ≡ false → first_some (map f (take (i + 1) xs)) ≡ None
  goes_on inside none is own = upto inside none is ∙ none_is (f x) own

  pub stops : i < length xs → first_some (map f (take i xs)) ≡ None → x ≡ get_or xs i x → is_some (f x) ≡ true → f x ≡ first_some (map f xs)
  stops inside none is own =
      sym (ap (λ (l : List X). first_some (map f l)) (sym (take-append-drop (i + 1) xs))
      ∙ ap first_some (map-append f (take (i + 1) xs) (drop (i + 1) xs))
      ∙ first-append (map f (take (i + 1) xs)) (map f (drop (i + 1) xs))
      ∙ ap (λ (o : Option Limit). option_or o (first_some (map f (drop (i + 1) xs)))) (upto inside none is)
      ∙ some_or (f x) (first_some (map f (drop (i + 1) xs))) own)

-- one limit over several is passed where some of them passes it
pub first_when : {X : Type 0} (p : X → Bool) (l : Limit) (xs : List X) → first_some (map (λ x. when (p x) l) xs) ≡ when (list_any p xs) l
first_when p l [] = refl
first_when p l (x ∷ xs) = more (p x) (first_when p l xs)
  where
    more : (b : Bool) → first_some (map (λ y. when (p y) l) xs) ≡ when (list_any p xs) l → option_or (when b l) (first_some (map (λ y. when (p y) l) xs)) ≡ when (b || list_any p xs) l
    more true rest = refl
    more false rest = rest
