-- A look-up, a put and a removal in rising items about one of them.
use Rattle.std.proofs.Common.{◌≡◌, true, false, cond, not, List, [], ◌∷◌, ◌++◌, Option, Some, None, refl, sym, ap, ◌∙◌}
use Rattle.std.specs.List.{list_all}
use Rattle.std.specs.Option.{option_or}
use Rattle.std.specs.Ordering.{is_lt, is_eq, match_ordering}
use Rattle.std.specs.declared.cmp.Ordering.{Ordering}
use Rattle.std.specs.declared.cmp.Ordering.TheVariants.{Less, Equal, Greater}
use Rattle.std.specs.Cmp.{IsTotalOrder}
use Rattle.std.proofs.lemmas.Bool.{and_parts, and_from}
use Rattle.std.proofs.lemmas.List.Folds.{list_all-append, find-append}
use Rattle.dkv_base.specs.Ordered.{found, above, put_in, left_out, is_rising}
use Rattle.dkv_base.proofs.Ranks.{less}
use Rattle.dkv_base.proofs.RankedLists.{all_below-lt, all_below-eq, all_above-lt, all_above-eq, found-below, found-here, found-above, above-below, above-here, above-first, put_in-below, put_in-here, put_in-above, left_out-below, left_out-here, left_out-above}

-- the sides rise, and the item is between them
pub record IsBetween {T : Type 0} (cmp : T → T → Ordering) (ls : List T) (y : T) (rs : List T) : Type 0 where
  pub left : is_rising cmp ls ≡ true
  pub below : list_all (λ z. is_lt (cmp z y)) ls ≡ true
  pub above : list_all (λ z. is_lt (cmp y z)) rs ≡ true
  pub right : is_rising cmp rs ≡ true

pub between : {T : Type 0} (cmp : T → T → Ordering) (ls : List T) (y : T) (rs : List T) → is_rising cmp (ls ++ y ∷ rs) ≡ true → IsBetween cmp ls y rs
between cmp [] y rs h = record { left = refl; below = refl; above = (and_parts _ _ h).0; right = (and_parts _ _ h).1 }
between cmp (l ∷ ls) y rs h =
    let parts = and_parts (list_all (λ z. is_lt (cmp l z)) (ls ++ y ∷ rs)) _ h in
    let split = and_parts (list_all (λ z. is_lt (cmp l z)) ls) _ (sym (list_all-append _ ls (y ∷ rs)) ∙ parts.0) in
    let rest = between cmp ls y rs parts.1 in
    record { left = and_from _ _ split.0 rest.left; below = and_from _ _ (and_parts _ _ split.1).0 rest.below; above = rest.above; right = rest.right }

module _ {T : Type 0} {cmp : T → T → Ordering} (o : IsTotalOrder cmp) where
  above_from : (x y : T) (rs : List T) → cmp x y ≡ Less → list_all (λ z. is_lt (cmp y z)) rs ≡ true → list_all (λ z. is_lt (cmp x z)) (y ∷ rs) ≡ true
  above_from x y rs e h = and_from _ _ (ap is_lt e) (all_above-lt o x y rs (ap is_lt e) h)

  -- what ranks above x stays behind
  found-front : (x : T) (ys zs : List T) → list_all (λ z. is_lt (cmp x z)) zs ≡ true → found cmp x (ys ++ zs) ≡ found cmp x ys
  found-front x [] zs h = found-above o x zs h
  found-front x (y ∷ ys) zs h = ap (cond (is_eq (cmp x y)) (Some y)) (found-front x ys zs h)

  put_in-front : (x : T) (ys zs : List T) → list_all (λ z. is_lt (cmp x z)) zs ≡ true → put_in cmp x (ys ++ zs) ≡ put_in cmp x ys ++ zs
  put_in-front x [] zs h = put_in-above o x zs h
  put_in-front x (y ∷ ys) zs h =
      elim (cmp x y) as (λ r. match_ordering r (x ∷ y ∷ (ys ++ zs)) (x ∷ (ys ++ zs)) (y ∷ put_in cmp x (ys ++ zs)) ≡ match_ordering r (x ∷ y ∷ ys) (x ∷ ys) (y ∷ put_in cmp x ys) ++ zs) [
        | Less ↦ refl
        | Equal ↦ refl
        | Greater ↦ ap (λ us. y ∷ us) (put_in-front x ys zs h)
      ]

  left_out-front : (x : T) (ys zs : List T) → list_all (λ z. is_lt (cmp x z)) zs ≡ true → left_out cmp x (ys ++ zs) ≡ left_out cmp x ys ++ zs
  left_out-front x [] zs h = left_out-above o x zs h
  left_out-front x (y ∷ ys) zs h =
      elim (is_eq (cmp x y)) as (λ b. cond (not b) (y ∷ left_out cmp x (ys ++ zs)) (left_out cmp x (ys ++ zs)) ≡ cond (not b) (y ∷ left_out cmp x ys) (left_out cmp x ys) ++ zs) [
        | true ↦ left_out-front x ys zs h
        | false ↦ ap (λ us. y ∷ us) (left_out-front x ys zs h)
      ]

  module _ (x : T) (ls : List T) (y : T) (rs : List T) (rising : is_rising cmp (ls ++ y ∷ rs) ≡ true) where
    sides : IsBetween cmp ls y rs
    sides = between cmp ls y rs rising

    -- x ranks below the item
    pub found-less : cmp x y ≡ Less → found cmp x ls ≡ found cmp x (ls ++ y ∷ rs)
    found-less e = sym (found-front x ls (y ∷ rs) (above_from x y rs e sides.above))

    pub put_in-less : cmp x y ≡ Less → put_in cmp x ls ++ y ∷ rs ≡ put_in cmp x (ls ++ y ∷ rs)
    put_in-less e = sym (put_in-front x ls (y ∷ rs) (above_from x y rs e sides.above))

    pub left_out-less : cmp x y ≡ Less → left_out cmp x ls ++ y ∷ rs ≡ left_out cmp x (ls ++ y ∷ rs)
    left_out-less e = sym (left_out-front x ls (y ∷ rs) (above_from x y rs e sides.above))

    pub above-less : cmp x y ≡ Less → option_or (above cmp x ls) (Some y) ≡ above cmp x (ls ++ y ∷ rs)
    above-less e = sym (find-append (λ z. is_lt (cmp x z)) ls (y ∷ rs) ∙ ap (option_or (above cmp x ls)) (above-first o x y rs (ap is_lt e)))

    -- x ranks as the item does
    pub found-equal : cmp x y ≡ Equal → Some y ≡ found cmp x (ls ++ y ∷ rs)
    found-equal e = sym (found-below o x ls (y ∷ rs) (all_below-eq o x y ls e sides.below) ∙ found-here o x y rs e)

    pub put_in-equal : cmp x y ≡ Equal → ls ++ x ∷ rs ≡ put_in cmp x (ls ++ y ∷ rs)
    put_in-equal e = sym (put_in-below o x ls (y ∷ rs) (all_below-eq o x y ls e sides.below) ∙ ap (λ us. ls ++ us) (put_in-here o x y rs e))

    pub left_out-equal : cmp x y ≡ Equal → ls ++ rs ≡ left_out cmp x (ls ++ y ∷ rs)
    left_out-equal e = sym (
        left_out-below o x ls (y ∷ rs) (all_below-eq o x y ls e sides.below)
        ∙ ap (λ us. ls ++ us) (left_out-here o x y rs e ∙ left_out-above o x rs (all_above-eq o x y rs e sides.above)))

    pub above-equal : cmp x y ≡ Equal → above cmp x rs ≡ above cmp x (ls ++ y ∷ rs)
    above-equal e = sym (above-below o x ls (y ∷ rs) (all_below-eq o x y ls e sides.below) ∙ above-here o x y rs e)

    -- x ranks above the item
    below_from : cmp x y ≡ Greater → list_all (λ z. is_lt (cmp z x)) ls ≡ true
    below_from e = all_below-lt o x y ls (less o x y e) sides.below

    pub found-greater : cmp x y ≡ Greater → found cmp x rs ≡ found cmp x (ls ++ y ∷ rs)
    found-greater e = sym (found-below o x ls (y ∷ rs) (below_from e) ∙ (λ i. cond (ap is_eq e i) (Some y) (found cmp x rs)))

    pub put_in-greater : cmp x y ≡ Greater → ls ++ y ∷ put_in cmp x rs ≡ put_in cmp x (ls ++ y ∷ rs)
    put_in-greater e = sym (
        put_in-below o x ls (y ∷ rs) (below_from e)
        ∙ ap (λ us. ls ++ us) (λ i. match_ordering (e i) (x ∷ y ∷ rs) (x ∷ rs) (y ∷ put_in cmp x rs)))

    pub left_out-greater : cmp x y ≡ Greater → ls ++ y ∷ left_out cmp x rs ≡ left_out cmp x (ls ++ y ∷ rs)
    left_out-greater e = sym (
        left_out-below o x ls (y ∷ rs) (below_from e)
        ∙ ap (λ us. ls ++ us) (λ i. cond (not (ap is_eq e i)) (y ∷ left_out cmp x rs) (left_out cmp x rs)))

    pub above-greater : cmp x y ≡ Greater → above cmp x rs ≡ above cmp x (ls ++ y ∷ rs)
    above-greater e = sym (above-below o x ls (y ∷ rs) (below_from e) ∙ (λ i. cond (ap is_lt e i) (Some y) (above cmp x rs)))

    pub above-not_less : (cmp x y ≡ Less → ⊥) → above cmp x rs ≡ above cmp x (ls ++ y ∷ rs)
    above-not_less n = elim (cmp x y) as (λ r. cmp x y ≡ r → above cmp x rs ≡ above cmp x (ls ++ y ∷ rs)) [
      | Less ↦ λ e. absurd (n e)
      | Equal ↦ above-equal
      | Greater ↦ above-greater
    ] refl

-- a value that is there is taken before another
pub or_some : {X : Type 0} (o : Option X) (x : X) (p : Option X) → option_or (option_or o (Some x)) p ≡ option_or o (Some x)
or_some None x p = refl
or_some (Some y) x p = refl
