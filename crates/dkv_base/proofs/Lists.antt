-- Lists: what holds of all, and filters.
use Rattle.std.proofs.Common.{◌≡◌, ℕ, zero, suc, ◌<◌, length, get_or, arith, Bool, true, false, cond, not, ◌||◌, List, [], ◌∷◌, filter, refl, ap}
use Rattle.std.specs.List.{list_all}
use Rattle.std.proofs.Math.Path.{fun_ext}
use Rattle.std.proofs.lemmas.Bool.{and_parts, and_from}

-- what holds of all holds of those that a filter leaves
pub all-filter : {X : Type 0} (q p : X → Bool) (xs : List X) → list_all q xs ≡ true → list_all q (filter p xs) ≡ true
all-filter q p [] h = refl
all-filter q p (x ∷ xs) h =
    let parts = and_parts (q x) (list_all q xs) h in
    elim (p x) as (λ b. list_all q (cond b (x ∷ filter p xs) (filter p xs)) ≡ true) [
      | true ↦ and_from (q x) _ parts.0 (all-filter q p xs parts.1)
      | false ↦ all-filter q p xs parts.1
    ]

-- a filter's own test holds of all that it leaves
pub all_of_filter : {X : Type 0} (p : X → Bool) (xs : List X) → list_all p (filter p xs) ≡ true
all_of_filter p [] = refl
all_of_filter p (x ∷ xs) =
    elim (p x) as (λ b. p x ≡ b → list_all p (cond b (x ∷ filter p xs) (filter p xs)) ≡ true) [
      | true ↦ λ e. and_from (p x) _ e (all_of_filter p xs)
      | false ↦ λ e. all_of_filter p xs
    ] refl

-- what follows from what holds of all holds of all
pub all_weaker : {X : Type 0} (p q : X → Bool) → ((x : X) → p x ≡ true → q x ≡ true) → (xs : List X) → list_all p xs ≡ true → list_all q xs ≡ true
all_weaker p q so [] all = refl
all_weaker p q so (x ∷ xs) all = and_from _ _ (so x (and_parts _ _ all).0) (all_weaker p q so xs (and_parts _ _ all).1)

-- what holds of all holds of each
pub all_at : {X : Type 0} (p : X → Bool) (xs : List X) (i : ℕ) (d : X) → list_all p xs ≡ true → i < length xs → p (get_or xs i d) ≡ true
all_at p [] i d all lt = absurd (omega arith)
all_at p (x ∷ xs) zero d all lt = (and_parts _ _ all).0
all_at p (x ∷ xs) (suc i) d all lt = all_at p xs i d (and_parts _ _ all).1 (omega arith)

-- two tests that agree leave the same
pub filter-cong : {X : Type 0} (p q : X → Bool) → ((x : X) → p x ≡ q x) → (xs : List X) → filter p xs ≡ filter q xs
filter-cong p q h xs = ap (λ t. filter t xs) (fun_ext h)

-- a filter that lets all through leaves all
pub filter_all : {X : Type 0} (xs : List X) → filter (λ x. true) xs ≡ xs
filter_all [] = refl
filter_all (x ∷ xs) = ap (λ ys. x ∷ ys) (filter_all xs)

-- to leave out by either test is to leave out by one and then by the other
pub two_filters : {X : Type 0} (a b : X → Bool) (xs : List X) → filter (λ x. not (a x || b x)) xs ≡ filter (λ x. not (b x)) (filter (λ x. not (a x)) xs)
two_filters a b [] = refl
two_filters a b (x ∷ xs) =
    elim (a x) as (λ t. cond (not (t || b x)) (x ∷ filter (λ y. not (a y || b y)) xs) (filter (λ y. not (a y || b y)) xs)
    ≡ filter (λ y. not (b y)) (cond (not t) (x ∷ filter (λ y. not (a y)) xs) (filter (λ y. not (a y)) xs))) [
      | true ↦ two_filters a b xs
      | false ↦ ap (λ ys. cond (not (b x)) (x ∷ ys) ys) (two_filters a b xs)
    ]

-- nothing is added by what is false
pub or_false : (b : Bool) → (b || false) ≡ b
or_false true = refl
or_false false = refl
