-- How the ranks of two items compare.
use Rattle.std.proofs.Common.{◌≡◌, ℕ, ◌<◌, ◌≤◌, true, false, refl, ap, ◌∙◌, arith}
use Rattle.std.specs.Ordering.{nat_cmp, is_lt, is_le, is_eq, ordering_reverse, ordering_then, MatchOrdering}
use Rattle.std.specs.declared.cmp.Ordering.{Ordering}
use Rattle.std.specs.declared.cmp.Ordering.TheVariants.{Less, Equal, Greater}
use Rattle.std.specs.Cmp.{IsTotalOrder, alike_right, ranks}

-- a comparison that is less is Less
pub lt_is : (o : Ordering) → is_lt o ≡ true → o ≡ Less
lt_is Less h = refl
lt_is Equal h = absurd (cc h)
lt_is Greater h = absurd (cc h)

-- a comparison that is equal is Equal
pub eq_is : (o : Ordering) → is_eq o ≡ true → o ≡ Equal
eq_is Less h = absurd (cc h)
eq_is Equal h = refl
eq_is Greater h = absurd (cc h)

module _ {T : Type 0} {cmp : T → T → Ordering} (o : IsTotalOrder cmp) where
  -- turned round
  pub greater : (x y : T) → is_lt (cmp x y) ≡ true → cmp y x ≡ Greater
  greater x y h = o.antisymm y x ∙ ap ordering_reverse (lt_is _ h)

  -- what ranks greater the one way ranks less the other
  pub less : (x y : T) → cmp x y ≡ Greater → is_lt (cmp y x) ≡ true
  less x y h = ap is_lt (o.antisymm y x ∙ ap ordering_reverse h)

  turned_eq : (r : Ordering) → is_eq (ordering_reverse r) ≡ is_eq r
  turned_eq Less = refl
  turned_eq Equal = refl
  turned_eq Greater = refl

  pub eq-turned : (x y : T) → is_eq (cmp x y) ≡ is_eq (cmp y x)
  eq-turned x y = ap is_eq (o.antisymm x y) ∙ turned_eq (cmp y x)

  -- what ranks below or above is not what ranks equal
  pub not_eq-below : (x y : T) → is_lt (cmp y x) ≡ true → is_eq (cmp x y) ≡ false
  not_eq-below x y h = ap is_eq (greater y x h)

  pub not_lt-below : (x y : T) → is_lt (cmp y x) ≡ true → is_lt (cmp x y) ≡ false
  not_lt-below x y h = ap is_lt (greater y x h)

  -- chains
  pub lt_lt : (x y z : T) → is_lt (cmp x y) ≡ true → is_lt (cmp y z) ≡ true → is_lt (cmp x z) ≡ true
  lt_lt x y z h k = ap is_lt (o.trans x y z (lt_is _ h) (lt_is _ k))

  pub eq_lt : (x y z : T) → cmp x y ≡ Equal → is_lt (cmp y z) ≡ true → is_lt (cmp x z) ≡ true
  eq_lt x y z h k = ap is_lt (o.congr x y z h) ∙ k

  -- below what ranks the same is below
  pub lt_eq : (x y z : T) → is_lt (cmp x y) ≡ true → cmp z y ≡ Equal → is_lt (cmp x z) ≡ true
  lt_eq x y z h k = ap is_lt (alike_right o z y x k) ∙ h

-- what ranks below is not of the same rank
pub not_eq-above : (r : Ordering) → is_lt r ≡ true → is_eq r ≡ false
not_eq-above r h = ap is_eq (lt_is r h)

-- what ranks below does not rank above
pub le-lt : (r : Ordering) → is_lt r ≡ true → is_le r ≡ true
le-lt r h = ap is_le (lt_is r h)

-- of two that rank by a number first, the one that does not rank above has no greater number
pub number-le : (a b : ℕ) (rest : Ordering) → is_le (ordering_then (nat_cmp a b) rest) ≡ true → a ≤ b
number-le a b rest h = by (nat_cmp a b) (ranks a b) h
  where
    by : (r : Ordering) → MatchOrdering r (a < b) (a ≡ b) (b < a) → is_le (ordering_then r rest) ≡ true → a ≤ b
    by Less lt h = omega arith
    by Equal is h = omega arith
    by Greater gt h = absurd (cc h)
