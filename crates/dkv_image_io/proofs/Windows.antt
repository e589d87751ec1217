-- What a window has after it was filled.
use Rattle.std.proofs.Common.{◌≡◌, refl, sym, ◌∙◌, ap, ℕ, zero, suc, ◌+◌, ◌-◌, ◌^◌, ◌<◌, ◌≤◌, List, [], ◌∷◌, ◌++◌, ◌⊎◌, inl, inr, length, take, drop, arith, append_assoc, length-append, length-take, take-append-drop}
use Rattle.std.specs.Prelude.{min}
use Rattle.std.proofs.Math.Seq.{take-append-add}
use Rattle.std.proofs.lemmas.Bool.{cases_lt}
use Rattle.std.proofs.lemmas.List.{drop-drop, drop_all}

drop_same : (m : ℕ) (xs : List ℕ) → drop (length (take m xs)) xs ≡ drop m xs
drop_same zero xs = refl
drop_same (suc m) [] = refl
drop_same (suc m) (x ∷ xs) = drop_same m xs

-- the first m of so many
parted : (m left : ℕ) (xs : List ℕ) → m ≤ left → take m xs ++ take (left - length (take m xs)) (drop m xs) ≡ take left xs
parted m left xs le =
    let k = length (take m xs) in
    let all : k + (left - k) ≡ left = omega (arith, le, length-take m xs) in
    sym (take-append-add (take m xs) (drop m xs) (left - k)) ∙ ap (take (k + (left - k))) (take-append-drop m xs) ∙ ap (λ (n : ℕ). take n xs) all

nothing : (n : ℕ) (xs : List ℕ) → xs ≡ [] → take n xs ≡ []
nothing zero xs is = refl
nothing (suc n) [] is = refl
nothing (suc n) (x ∷ xs) is = absurd (cc is)

module _ (file held piece : List ℕ) (place left most next : ℕ) (short : length file < 2 ^ 63) (is : next ≡ min (place + length held) 18446744073709551615) (read : piece ≡ take most (drop next file)) where
  pub all_behind : List ℕ
  all_behind = drop (place + length held) file

  -- a place that is cut at the last one is past the file too
  pub same_place : drop next file ≡ drop (place + length held) file
  same_place = elim (cases_lt (place + length held) 18446744073709551615) [
    | inl lt ↦ let same : next ≡ place + length held = omega (arith, is, lt) in ap (λ (n : ℕ). drop n file) same
    | inr le ↦ drop_all next file (omega (arith, is, le, short)) ∙ sym (drop_all (place + length held) file (omega (arith, le, short)))
  ]

  pub piece_is : piece ≡ take most (drop (place + length held) file)
  piece_is = read ∙ ap (take most) same_place

  pub next_behind : drop (place + length (held ++ piece)) file ≡ drop most (drop (place + length held) file)
  next_behind =
      let further : place + length (held ++ piece) ≡ place + length held + length piece = omega (arith, length-append held piece) in
      ap (λ (n : ℕ). drop n file) further ∙ sym (drop-drop (length piece) (place + length held) file)
      ∙ ap (λ (l : List ℕ). drop (length l) (drop (place + length held) file)) piece_is ∙ drop_same most (drop (place + length held) file)

  pub filled_same : most ≤ left → (held ++ piece) ++ take (left - length piece) (drop (place + length (held ++ piece)) file) ≡ held ++ take left (drop (place + length held) file)
  filled_same le =
      let D = drop (place + length held) file in
      append_assoc held piece _
      ∙ ap (λ (l : List ℕ). held ++ (piece ++ take (left - length piece) l)) next_behind
      ∙ ap (λ (l : List ℕ). held ++ (l ++ take (left - length l) (drop most D))) piece_is
      ∙ ap (λ (l : List ℕ). held ++ l) (parted most left D le)

  -- enough is held, or all
  pub filled_full : most ≡ min left 131072 → (131072 ≤ length (held ++ piece)) ⊎ (take (left - length piece) (drop (place + length (held ++ piece)) file) ≡ [])
  filled_full least =
      let D = drop (place + length held) file in
      let size : length piece ≡ min most (length D) = ap length piece_is ∙ length-take most D in
      elim (cases_lt (length D) most) [
        | inl lt ↦ inr (nothing (left - length piece) (drop (place + length (held ++ piece)) file) (next_behind ∙ drop_all most D (omega (arith, lt))))
        | inr le ↦ elim (cases_lt left 131072) [
          | inl small ↦ let none : left - length piece ≡ 0 = omega (arith, size, le, least, small) in inr (ap (λ (n : ℕ). take n (drop (place + length (held ++ piece)) file)) none)
          | inr big ↦ inl (omega (arith, size, le, least, big, length-append held piece))
        ]
      ]
