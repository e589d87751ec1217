-- The stored pattern of a double, and its bytes.
use Rattle.std.proofs.Common.{◌≡◌, ℕ, ◌+◌, ◌-◌, ◌^◌, ◌<◌, ◌≤◌, List, length, inl, inr, refl, sym, ap, ◌∙◌, arith}
use Rattle.std.specs.Prelude.{slice_index}
use Rattle.std.specs.Int.{w64, to_be_bytes, from_be_bytes}
use Rattle.std.proofs.lemmas.Bool.{cases_lt, lt-ltb, le-ltb}
use Rattle.std.proofs.lemmas.Nat.{from_be_bytes-to_be_bytes_8, be_bytes_8}
use Rattle.dkv_key.specs.Parts.{stored_pattern, double_bytes}

stored_low : (n : ℕ) → n < 2 ^ 63 → stored_pattern n ≡ n + 2 ^ 63
unfolding stored_pattern
stored_low n lt = rw (lt-ltb n (2 ^ 63) lt) refl

stored_high : (n : ℕ) → 2 ^ 63 ≤ n → stored_pattern n ≡ 2 ^ 64 - 1 - n
unfolding stored_pattern
stored_high n le = rw (le-ltb n (2 ^ 63) le) refl

stored_fits : (n : ℕ) → n < 2 ^ 64 → stored_pattern n < 2 ^ 64
stored_fits n lt =
    elim (cases_lt n (2 ^ 63)) [
      | inl low ↦ omega (arith, stored_low n low, low)
      | inr high ↦ omega (arith, stored_high n high, high)
    ]

stored_same : (n m : ℕ) → n < 2 ^ 64 → m < 2 ^ 64 → stored_pattern n ≡ stored_pattern m → n ≡ m
stored_same n m f g e =
    elim (cases_lt n (2 ^ 63)) [
      | inl low ↦ elim (cases_lt m (2 ^ 63)) [
        | inl low' ↦ omega (arith, e, stored_low n low, stored_low m low')
        | inr high ↦ omega (arith, e, stored_low n low, stored_high m high, g)
      ]
      | inr high ↦ elim (cases_lt m (2 ^ 63)) [
        | inl low ↦ omega (arith, e, stored_high n high, stored_low m low, f)
        | inr high' ↦ omega (arith, e, stored_high n high, stored_high m high', f, g)
      ]
    ]

pub length-double_bytes : (n : ℕ) → length (double_bytes n) ≡ 8
unfolding double_bytes
length-double_bytes n = refl

pub same_double : (n m : ℕ) → n < 2 ^ 64 → m < 2 ^ 64 → double_bytes n ≡ double_bytes m → n ≡ m
unfolding double_bytes
same_double n m f g e =
    stored_same n m f g (sym (from_be_bytes-to_be_bytes_8 (stored_pattern n) (stored_fits n f)) ∙ ap (from_be_bytes w64) e ∙ from_be_bytes-to_be_bytes_8 (stored_pattern m) (stored_fits m g))

-- the bytes of a stored pattern below 2 ^ 63, and of one from there on
pub read_low : (front : List ℕ) (k : ℕ) → length front ≡ 8 → ((i : ℕ) → slice_index front i < 256) → k ≡ from_be_bytes w64 front → k < 2 ^ 63 → double_bytes (2 ^ 64 - 1 - k) ≡ front
unfolding double_bytes
read_low front k size each is lt =
    ap (to_be_bytes w64) (stored_high (2 ^ 64 - 1 - k) (omega (arith, lt)) ∙ (let e : 2 ^ 64 - 1 - (2 ^ 64 - 1 - k) ≡ k = omega (arith, lt) in e)) ∙ be_bytes_8 front k size each is

pub read_high : (front : List ℕ) (k : ℕ) → length front ≡ 8 → ((i : ℕ) → slice_index front i < 256) → k ≡ from_be_bytes w64 front → k < 2 ^ 64 → 2 ^ 63 ≤ k → double_bytes (k - 2 ^ 63) ≡ front
unfolding double_bytes
read_high front k size each is lt le =
    ap (to_be_bytes w64) (stored_low (k - 2 ^ 63) (omega (arith, lt, le)) ∙ (let e : k - 2 ^ 63 + 2 ^ 63 ≡ k = omega (arith, le) in e)) ∙ be_bytes_8 front k size each is
