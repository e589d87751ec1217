-- The sizes of spellings, and spellings one behind another.
use Rattle.std.proofs.Common.{◌≡◌, refl, ◌∙◌, ap, ℕ, ◌+◌, ◌*◌, List, [], ◌∷◌, ◌++◌, length, flat_map, arith, append_assoc, length-append}
use Rattle.std.specs.Int.{w32, w64, to_le_bytes}
use Rattle.dkv_base.specs.declared.types.Message.{Message}
use Rattle.dkv_image.specs.Image.{sized, message_bytes}

pub four_each : (xs : List ℕ) → length (flat_map (to_le_bytes w32) xs) ≡ 4 * length xs
four_each [] = refl
four_each (x ∷ xs) = omega (arith, four_each xs, length-append (to_le_bytes w32 x) (flat_map (to_le_bytes w32) xs))

nine_long : (a b c d e f g h i : List ℕ) → length (a ++ b ++ c ++ d ++ e ++ f ++ g ++ h ++ i) ≡ length a + length b + length c + length d + length e + length f + length g + length h + length i
nine_long a b c d e f g h i = omega (
  arith,
  length-append (a ++ b ++ c ++ d ++ e ++ f ++ g ++ h) i,
  length-append (a ++ b ++ c ++ d ++ e ++ f ++ g) h,
  length-append (a ++ b ++ c ++ d ++ e ++ f) g,
  length-append (a ++ b ++ c ++ d ++ e) f,
  length-append (a ++ b ++ c ++ d) e,
  length-append (a ++ b ++ c) d,
  length-append (a ++ b) c,
  length-append a b,
)

pub message_size : (m : Message) → length (message_bytes m) ≡ 36 + length m.payload + length (flat_map sized m.undelivered) + 4 * length m.backoff
message_size m =
    nine_long (to_le_bytes w64 m.id.commit) (to_le_bytes w32 m.id.index) (to_le_bytes w64 m.due) (to_le_bytes w32 m.fails) (sized m.payload)
    (to_le_bytes w32 (length m.undelivered)) (flat_map sized m.undelivered) (to_le_bytes w32 (length m.backoff)) (flat_map (to_le_bytes w32) m.backoff)
    ∙ sizes (length (sized m.payload)) (length (flat_map sized m.undelivered)) (length (flat_map (to_le_bytes w32) m.backoff)) (length-append (to_le_bytes w32 (length m.payload)) m.payload) (four_each m.backoff)
  where
    sizes : (p k b : ℕ) → p ≡ 4 + length m.payload → b ≡ 4 * length m.backoff → 8 + 4 + 8 + 4 + p + 4 + k + 4 + b ≡ 36 + length m.payload + k + 4 * length m.backoff
    sizes p k b is so = omega (arith, is, so)

-- parts that are added one after another are added as one
pub six_added : (o n e f g h i : List ℕ) → o ++ n ++ e ++ f ++ g ++ h ++ i ≡ o ++ (n ++ e ++ f ++ g ++ h ++ i)
six_added o n e f g h i =
    ap (λ (l : List ℕ). l ++ f ++ g ++ h ++ i) (append_assoc o n e)
    ∙ ap (λ (l : List ℕ). l ++ g ++ h ++ i) (append_assoc o (n ++ e) f)
    ∙ ap (λ (l : List ℕ). l ++ h ++ i) (append_assoc o (n ++ e ++ f) g)
    ∙ ap (λ (l : List ℕ). l ++ i) (append_assoc o (n ++ e ++ f ++ g) h)
    ∙ append_assoc o (n ++ e ++ f ++ g ++ h) i
