-- Versionstamps compare as commit numbers, their digits are those of `hex`, and a suffix is a text.
use Rattle.std.proofs.Common.{◌≡◌, ◌≢◌, ℕ, zero, suc, ◌+◌, ◌/◌, ◌%◌, ◌^◌, ◌<◌, ◌==◌, ◌&&◌, Bool, true, false, cond, inl, inr, List, [], ◌∷◌, ◌++◌, refl, sym, ap, ◌∙◌, arith}
use Rattle.std.specs.Prelude.{nat_lt, slice_index}
use Rattle.std.specs.Int.{w64, to_be_bytes}
use Rattle.std.specs.Ordering.{nat_cmp, ordering_then}
use Rattle.std.specs.declared.cmp.Ordering.{Ordering}
use Rattle.std.specs.declared.cmp.Ordering.TheVariants.{Less, Equal, Greater}
use Rattle.std.proofs.lemmas.Nat.{from_be_bytes-to_be_bytes_8}
use Rattle.std.proofs.lemmas.Bool.{and_parts, cases_lt, eqb-true}
use Rattle.hex.specs.Hex.{IsBytes, encode_lower, encode_with, lower_digits}
use Rattle.dkv_base.specs.State.{key_cmp}
use Rattle.dkv_base.specs.Stamps.{stamp, hex_digit, hex_digits, suffix, number}
use Rattle.dkv_base.proofs.ByteLists.{below_tail, below_written}
use Rattle.dkv_base.proofs.Orders.{same_length}
use Rattle.dkv_base.proofs.Words.{number_of_8, number_order}
use Rattle.dkv_key.specs.declared.part.Part.TheVariants as part
use Rattle.dkv_key.specs.Parts.{escaped, spelling}
use Rattle.dkv_key.proofs.Escapes.{escaped_cons}

-- nothing behind decides
then_equal : (o : Ordering) → ordering_then o Equal ≡ o
then_equal Less = refl
then_equal Equal = refl
then_equal Greater = refl

-- the bytes of a number write it
number_is : (n : ℕ) → n < 2 ^ 64 → number (to_be_bytes w64 n) ≡ n
number_is n lt = number_of_8 _ _ _ _ _ _ _ _ ∙ from_be_bytes-to_be_bytes_8 n lt

-- stamps compare as the numbers of their commits
pub stamps_order : (n m : ℕ) → n < 2 ^ 64 → m < 2 ^ 64 → key_cmp (stamp n) (stamp m) ≡ nat_cmp n m
stamps_order n m f g =
    same_length (to_be_bytes w64 n) (to_be_bytes w64 m) (0 ∷ 0 ∷ []) (0 ∷ 0 ∷ []) refl
    ∙ then_equal (key_cmp (to_be_bytes w64 n) (to_be_bytes w64 m))
    ∙ sym (number_order (to_be_bytes w64 n) (to_be_bytes w64 m) (below_written 8 n) (below_written 8 m) refl)
    ∙ (λ i. nat_cmp (number_is n f i) (number_is m g i))

-- no digit is 0
digit_some : (d : ℕ) → hex_digit d ≢ 0
digit_some d = some (nat_lt d 10)
  where
    some : (b : Bool) → cond b (48 + d) (87 + d) ≢ 0
    some true e = omega (arith, e)
    some false e = omega (arith, e)

-- so digits are written as they are
escaped_digits : (bytes : List ℕ) → escaped (hex_digits bytes) ≡ hex_digits bytes
escaped_digits [] = refl
escaped_digits (b ∷ bytes) =
    escaped_cons (hex_digit (b / 16)) (hex_digit (b % 16) ∷ hex_digits bytes) (digit_some (b / 16))
    ∙ ap (λ (l : List ℕ). hex_digit (b / 16) ∷ l) (escaped_cons (hex_digit (b % 16)) (hex_digits bytes) (digit_some (b % 16)) ∙ ap (λ (l : List ℕ). hex_digit (b % 16) ∷ l) (escaped_digits bytes))

-- the first n digits of `hex` are those of the definition
abbrev agree : ℕ → Bool
agree zero = true
agree (suc n) = (slice_index lower_digits n == hex_digit n) && agree n

agree_at : (n d : ℕ) → agree n ≡ true → d < n → slice_index lower_digits d ≡ hex_digit d
agree_at zero d all lt = absurd (omega (arith, lt))
agree_at (suc n) d all lt =
    let both = and_parts (slice_index lower_digits n == hex_digit n) (agree n) all in
    elim (cases_lt d n) [
      | inl below ↦ agree_at n d both.1 below
      | inr last ↦
          let e : d ≡ n = omega (arith, last, lt) in
          rw e (eqb-true (slice_index lower_digits n) (hex_digit n) both.0)
    ]

digit_is : (d : ℕ) → d < 16 → slice_index lower_digits d ≡ hex_digit d
digit_is d lt = agree_at 16 d refl lt

-- the digits of `hex`
pub digits_are : (bytes : List ℕ) → IsBytes bytes → encode_lower bytes ≡ hex_digits bytes
unfolding encode_with
digits_are [] all = refl
digits_are (b ∷ bytes) all =
    let fits : b < 256 = all 0 in
    let high : b / 16 < 16 = omega (arith, fits) in
    let low : b % 16 < 16 = omega arith in
    (λ i. digit_is (b / 16) high i ∷ digit_is (b % 16) low i ∷ digits_are bytes (below_tail b bytes all) i)

-- the bytes of a stamp are bytes
pub stamp_bytes : (n : ℕ) → IsBytes (stamp n)
stamp_bytes n i = each_stamp (to_be_bytes w64 n) (below_written 8 n) i
  where
    each_stamp : (bytes : List ℕ) → IsBytes bytes → IsBytes (bytes ++ 0 ∷ 0 ∷ [])
    each_stamp [] all zero = omega arith
    each_stamp [] all (suc zero) = omega arith
    each_stamp [] all (suc (suc i)) = omega arith
    each_stamp (b ∷ bytes) all zero = all 0
    each_stamp (b ∷ bytes) all (suc i) = each_stamp bytes (below_tail b bytes all) i

-- a suffix is the spelling of a text
pub suffix_is : (n : ℕ) → suffix n ≡ spelling (part.Text (hex_digits (stamp n)))
unfolding suffix
suffix_is n = ap (λ (l : List ℕ). 2 ∷ l ++ 0 ∷ []) (sym (escaped_digits (stamp n)))
