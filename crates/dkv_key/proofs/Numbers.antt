-- Integers compare by the number of their magnitude bytes, and then by these.
use Rattle.std.proofs.Common.{◌≡◌, inl, inr, ℕ, zero, suc, ◌+◌, ◌-◌, ◌*◌, ◌^◌, ◌<◌, ◌≤◌, List, [], ◌∷◌, length, refl, sym, ap, subst, ◌∙◌, arith}
use Rattle.std.specs.Prelude.{pos, negsuc, neg_ℤ}
use Rattle.std.specs.Ordering.{nat_cmp, int_cmp, ordering_then}
use Rattle.std.specs.declared.cmp.Ordering.TheVariants.{Less, Equal, Greater}
use Rattle.std.proofs.lemmas.Bool.{lt-ltb, le-ltb}
use Rattle.std.proofs.Math.Nat.{pow-succ', mul-le-mul_right}
use Rattle.dkv_base.specs.State.{key_cmp}
use Rattle.hex.specs.Hex.{IsBytes}
use Rattle.dkv_base.specs.Stamps.{number}
use Rattle.dkv_base.proofs.Orders.{nat_less, nat_equal, nat_greater, ranked}
use Rattle.dkv_base.proofs.Words.{number_below, number_order}
use Rattle.dkv_key.specs.Parts.{HasNoLeadingZero}

power_some : (n : ℕ) → 0 < 256 ^ n
power_some zero = omega arith
power_some (suc n) = omega (arith, power_some n, pow-succ' 256 n)

power_rises : (n k : ℕ) → 256 ^ n ≤ 256 ^ (n + k)
power_rises n zero = let e : n + 0 ≡ n = omega arith in let P : ℕ → Type 0 = λ m. 256 ^ n ≤ 256 ^ m in subst P (sym e) (omega arith)
power_rises n (suc k) =
    let e : n + suc k ≡ suc (n + k) = omega arith in
    let P : ℕ → Type 0 = λ m. 256 ^ n ≤ 256 ^ m in
    subst P (sym e) (omega (arith, power_rises n k, pow-succ' 256 (n + k)))

-- more bytes without a leading zero write a greater number
pub number_longer : (a b : List ℕ) → IsBytes a → HasNoLeadingZero b → length a < length b → number a < number b
number_longer a [] f z lt = absurd (omega (arith, lt))
number_longer a (y ∷ b) f z lt =
    let k = length b - length a in
    let sum : length a + k ≡ length b = omega (arith, lt) in
    let up : 256 ^ length a ≤ 256 ^ length b = let P : ℕ → Type 0 = λ m. 256 ^ length a ≤ 256 ^ m in subst P sum (power_rises (length a) k) in
    let product : 1 * 256 ^ length b ≤ y * 256 ^ length b = mul-le-mul_right (256 ^ length b) z in
    omega (arith, number_below a f, up, product)

pub number_some : (a : List ℕ) → HasNoLeadingZero a → 0 < length a → 0 < number a
number_some a z some = number_longer [] a (λ i. omega arith) z some

-- magnitudes compare by their sizes and then by their bytes
pub magnitude_order : (a b : List ℕ) → IsBytes a → IsBytes b → HasNoLeadingZero a → HasNoLeadingZero b
    → nat_cmp (number a) (number b) ≡ ordering_then (nat_cmp (length a) (length b)) (key_cmp a b)
magnitude_order a b f g y z =
    elim (ranked (length a) (length b)) [
      | inl lt ↦ nat_less _ _ (number_longer a b f z lt) ∙ ap (λ o. ordering_then o (key_cmp a b)) (sym (nat_less _ _ lt))
      | inr more ↦
          elim more [
            | inl e ↦ number_order a b f g e ∙ ap (λ o. ordering_then o (key_cmp a b)) (sym (nat_equal _ _ e))
            | inr gt ↦ nat_greater _ _ (number_longer b a g y gt) ∙ ap (λ o. ordering_then o (key_cmp a b)) (sym (nat_greater _ _ gt))
          ]
    ]

pub positive_order : (x y : ℕ) → int_cmp (pos x) (pos y) ≡ nat_cmp x y
positive_order x y =
    elim (ranked x y) [
      | inl lt ↦ less lt ∙ sym (nat_less x y lt)
      | inr more ↦ elim more [ inl e ↦ equal e ∙ sym (nat_equal x y e) | inr gt ↦ greater gt ∙ sym (nat_greater x y gt) ]
    ]
  where
    less : x < y → int_cmp (pos x) (pos y) ≡ Less
    less lt = rw (lt-ltb x y lt) refl

    equal : x ≡ y → int_cmp (pos x) (pos y) ≡ Equal
    equal e = rw (le-ltb x y (omega (arith, e)), le-ltb y x (omega (arith, e))) refl

    greater : y < x → int_cmp (pos x) (pos y) ≡ Greater
    greater gt = rw (le-ltb x y (omega (arith, gt)), lt-ltb y x gt) refl

pub negative_order : (x y : ℕ) → int_cmp (neg_ℤ (pos x)) (neg_ℤ (pos y)) ≡ nat_cmp y x
negative_order zero zero = refl
negative_order zero (suc y) = sym (nat_greater (suc y) 0 (omega arith))
negative_order (suc x) zero = sym (nat_less 0 (suc x) (omega arith))
negative_order (suc x) (suc y) =
    elim (ranked y x) [
      | inl lt ↦ less lt ∙ sym (nat_less (suc y) (suc x) (omega (arith, lt)))
      | inr more ↦ elim more [ inl e ↦ equal e ∙ sym (nat_equal (suc y) (suc x) (ap suc e)) | inr gt ↦ greater gt ∙ sym (nat_greater (suc y) (suc x) (omega (arith, gt))) ]
    ]
  where
    less : y < x → int_cmp (negsuc x) (negsuc y) ≡ Less
    less lt = rw (lt-ltb y x lt) refl

    equal : y ≡ x → int_cmp (negsuc x) (negsuc y) ≡ Equal
    equal e = rw (le-ltb y x (omega (arith, e)), le-ltb x y (omega (arith, e))) refl

    greater : x < y → int_cmp (negsuc x) (negsuc y) ≡ Greater
    greater gt = rw (le-ltb y x (omega (arith, gt)), lt-ltb x y gt) refl

pub negative_first : (x y : ℕ) → 0 < x → int_cmp (neg_ℤ (pos x)) (pos y) ≡ Less
negative_first zero y some = absurd (omega (arith, some))
negative_first (suc x) y some = refl

pub positive_last : (x y : ℕ) → 0 < y → int_cmp (pos x) (neg_ℤ (pos y)) ≡ Greater
positive_last x zero some = absurd (omega (arith, some))
positive_last x (suc y) some = refl
