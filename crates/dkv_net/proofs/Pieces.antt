-- Bytes that are written piece by piece.
use Rattle.std.proofs.Common.{◌≡◌, ℕ, ◌+◌, ◌-◌, ◌≤◌, List, ◌++◌, length, take, drop, Option, sym, ap, ◌∙◌, subst, arith, length-drop, take-add}
use Rattle.std.proofs.lemmas.List.{take_rest}
use Rattle.std.specs.Io.KnownBytes.{Appends}
use Rattle.std.proofs.KnownBytes.{Appends-trans}

-- what stands before `at`, and then the front of what stands from there on
pub appended_more : (a b c : Option (List ℕ)) (bytes : List ℕ) (at n : ℕ) → Appends a b (take at bytes) → Appends b c (take n (take (length bytes - at) (drop at bytes)))
    → Appends a c (take (at + n) bytes)
appended_more a b c bytes at n before piece =
    let here : take n (take (length bytes - at) (drop at bytes)) ≡ take n (drop at bytes) = ap (λ (l : List ℕ). take n l) (take_rest bytes at) in
    subst (Appends a c) (ap (λ (l : List ℕ). take at bytes ++ l) here ∙ sym (take-add at n bytes)) (Appends-trans a b c (take at bytes) _ before piece)

-- a piece of what stands from `at` on ends within the bytes
pub ends_within : (bytes : List ℕ) (at n : ℕ) → at ≤ length bytes → n ≤ length (take (length bytes - at) (drop at bytes)) → at + n ≤ length bytes
ends_within bytes at n early piece =
    let same : length (take (length bytes - at) (drop at bytes)) ≡ length bytes - at = ap (λ (l : List ℕ). length l) (take_rest bytes at) ∙ length-drop at bytes in
    omega arith
