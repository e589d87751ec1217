-- The two rows of an image and its end, read one after another.
use Rattle.std.proofs.Common.{◌≡◌, refl, ◌∙◌, ap, ℕ, ◌+◌, ◌-◌, ◌^◌, ◌<◌, ◌≤◌, List, [], ◌∷◌, ◌++◌, length, take, drop, Result, Ok, Err, arith, length-take, length-drop}
use Rattle.std.specs.Prelude.{slice_range}
use Rattle.dkv_base.specs.declared.types.Entry.{Entry}
use Rattle.dkv_base.specs.declared.types.Message.{Message}
use Rattle.dkv_image.specs.Image.{Bounds, counted_row, entry_at_front, message_at_front, may_follow_entry, may_follow_message, whole, image_left, image_of, from_front, ◌>>◌}
use Rattle.dkv_image_io.specs.Reading.{Sight, rest_in, end_in, IsRow, IsEnd, IsReadImage}
use Rattle.dkv_image_io.specs.declared.refusal.ImageRefusal.{ImageRefusal}
use Rattle.dkv_image_io.specs.declared.refusal.ImageRefusal.TheVariants as refusal

-- nothing is read yet
module _ (file : List ℕ) (at len : ℕ) (w : Sight) (held : w.held ≡ []) (place : w.place ≡ at) (left : w.left ≡ len) where
  pub over_is : rest_in file w ≡ slice_range file at (at + len)
  over_is =
      let here : at + 0 ≡ at = omega arith in
      let many : len ≡ at + len - at = omega arith in
      (λ i. held i ++ take (left i) (drop (place i + length (held i)) file))
      ∙ ap (λ (n : ℕ). take len (drop n file)) here ∙ ap (λ (n : ℕ). take n (drop at file)) many

  pub over_end : end_in file w ≡ at + length (slice_range file at (at + len))
  over_end = omega (arith, place, ap length over_is)

  pub over_short : at < 2 ^ 64 → length file < 2 ^ 63 → end_in file w < 2 ^ 64
  over_short fits short = omega (arith, over_end, fits, short, length-take (at + len - at) (drop at file), length-drop at file)

module _ (b : Bounds) (bytes : List ℕ) where
  pub first_falls : (left : ℕ) → counted_row entry_at_front (may_follow_entry b) bytes ≡ Err left → image_left b bytes ≡ Err left
  first_falls left is = ap (λ (r : Result (List Entry × List ℕ) ℕ). r >> λ es. counted_row message_at_front (may_follow_message b) es.1 >> λ ms. whole es.0 ms.0 ms.1) is

  pub first_stands : (es : List Entry) (rest : List ℕ) → counted_row entry_at_front (may_follow_entry b) bytes ≡ Ok (es, rest)
      → image_left b bytes ≡ (counted_row message_at_front (may_follow_message b) rest >> λ ms. whole es ms.0 ms.1)
  first_stands es rest is = ap (λ (r : Result (List Entry × List ℕ) ℕ). r >> λ es. counted_row message_at_front (may_follow_message b) es.1 >> λ ms. whole es.0 ms.0 ms.1) is

  module _ (es : List Entry) (rest : List ℕ) (first : counted_row entry_at_front (may_follow_entry b) bytes ≡ Ok (es, rest)) where
    pub second_falls : (left : ℕ) → counted_row message_at_front (may_follow_message b) rest ≡ Err left → image_left b bytes ≡ Err left
    second_falls left is = first_stands es rest first ∙ ap (λ (r : Result (List Message × List ℕ) ℕ). r >> λ ms. whole es ms.0 ms.1) is

    pub second_stands : (ms : List Message) (end : List ℕ) → counted_row message_at_front (may_follow_message b) rest ≡ Ok (ms, end) → image_left b bytes ≡ whole es ms end
    second_stands ms end is = first_stands es rest first ∙ ap (λ (r : Result (List Message × List ℕ) ℕ). r >> λ ms. whole es ms.0 ms.1) is

  damaged : (at place left : ℕ) → image_left b bytes ≡ Err left → place + left ≡ at + length bytes → at ≤ place → (within : ℕ) × (image_of b bytes ≡ Err within) × (place ≡ at + within)
  damaged at place left is ends le =
      (length bytes - left, ap (λ (r : Result (List Entry × List Message) ℕ). from_front (length bytes) r) is, omega (arith, ends, le))

  -- a row that was refused
  pub row_refused : {X : Type 0} (row : Result (List X × List ℕ) ℕ) (new : List ℕ) (start end at : ℕ) (r : ImageRefusal) → IsRow row new start end (Err r) → at ≤ start → end ≡ at + length bytes
      → ((left : ℕ) → row ≡ Err left → image_left b bytes ≡ Err left) → IsReadImage b at bytes (Err r)
  row_refused row new start end at refusal.DiskFault is le ends falls = tt
  row_refused row new start end at refusal.NoMemory is le ends falls = tt
  row_refused row new start end at (refusal.Damaged place) is le ends falls = damaged at place is.0 (falls is.0 is.1) (is.2 ∙ ends) (omega (arith, le, is.3))

  whole_ends : (es : List Entry) (ms : List Message) (end : List ℕ) → end ≡ [] → whole es ms end ≡ Ok (es, ms)
  whole_ends es ms [] is = refl
  whole_ends es ms (x ∷ xs) is = absurd (cc is)

  whole_falls : (es : List Entry) (ms : List Message) (end : List ℕ) → 0 < length end → whole es ms end ≡ Err (length end)
  whole_falls es ms [] lt = absurd (omega (arith, lt))
  whole_falls es ms (x ∷ xs) lt = refl

  pub image_stands : (es : List Entry) (ms : List Message) (end : List ℕ) → image_left b bytes ≡ whole es ms end → end ≡ [] → image_of b bytes ≡ Ok (es, ms)
  image_stands es ms end is none = ap (λ (r : Result (List Entry × List Message) ℕ). from_front (length bytes) r) (is ∙ whole_ends es ms end none)

  -- bytes behind the last message
  pub end_refused : (es : List Entry) (ms : List Message) (end : List ℕ) (at place : ℕ) (r : ImageRefusal) → IsEnd end place (Err r) → image_left b bytes ≡ whole es ms end → at ≤ place → place + length end ≡ at + length bytes
      → IsReadImage b at bytes (Err r)
  end_refused es ms end at place refusal.DiskFault is left le ends = tt
  end_refused es ms end at place refusal.NoMemory is left le ends = tt
  end_refused es ms end at place (refusal.Damaged q) is left le ends =
      damaged at q (length end) (left ∙ whole_falls es ms end is.0) (omega (arith, is.1, ends)) (omega (arith, is.1, le))
