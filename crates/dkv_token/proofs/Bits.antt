-- Two bytes differ exactly where their exclusive or is not 0, and a sum of such differences is 0 exactly where each is.
use Rattle.std.proofs.Common.{◌≡◌, ℕ, bit_or, sym, ap, ◌∙◌, arith}
use Rattle.std.specs.Prelude.{bit_xor, ◌↔◌}
use Rattle.std.specs.Int.Bits.{or_add_and, xor_assoc, xor_self, xor_zero_l, xor_zero_r}
use Rattle.std.proofs.lemmas.Nat.{and_le_l, and_le_r}

-- numbers without a difference are one
same_from_xor : (a b : ℕ) → bit_xor a b ≡ 0 → a ≡ b
same_from_xor a b none =
    sym (xor_zero_r a) ∙ ap (bit_xor a) (sym (xor_self b)) ∙ sym (xor_assoc a b b) ∙ ap (λ d. bit_xor d b) none ∙ xor_zero_l b

-- no difference so far and none here is no difference
pub no_difference : (d a b : ℕ) → (bit_or d (bit_xor a b) ≡ 0) ↔ ((d ≡ 0) × (a ≡ b))
no_difference d a b = (
  λ none.
      let sums = or_add_and d (bit_xor a b) in
      let here : bit_xor a b ≡ 0 = omega (arith, none, sums, and_le_l d (bit_xor a b)) in
      (omega (arith, none, sums, and_le_r d (bit_xor a b)), same_from_xor a b here),
  λ both. ap (λ n. bit_or n (bit_xor a b)) both.0 ∙ ap (λ n. bit_or 0 (bit_xor n b)) both.1 ∙ ap (bit_or 0) (xor_self b),
)
