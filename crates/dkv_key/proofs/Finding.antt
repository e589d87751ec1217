-- What is read at the front of bytes, and where nothing is.
use Rattle.std.proofs.Common.{◌≡◌, ◌≢◌, ℕ, zero, suc, ◌-◌, ◌<◌, ◌≤◌, Bool, true, false, List, [], ◌∷◌, ◌++◌, length, map, take, drop, get_or, refl, sym, ap, subst, ◌∙◌, arith, append_assoc, length-append, length-take, eqb}
use Rattle.std.specs.Str.{IsUtf8}
use Rattle.std.proofs.lemmas.List.{length-map, take-append-drop}
use Rattle.std.proofs.lemmas.Bool.{eqb-true}
use Rattle.dkv_base.proofs.ByteLists.{below_tail, below_take}
use Rattle.dkv_key.specs.declared.part.Part.{Part}
use Rattle.dkv_key.specs.declared.part.Part.TheVariants as part
use Rattle.hex.specs.Hex.{IsBytes}
use Rattle.dkv_key.specs.Parts.{HasNoLeadingZero, escaped, magnitude_spelling, double_bytes, rank}
use Rattle.dkv_key.specs.Reading.{Begins, NoPart, HasText, NoText, HasMagnitude}
use Rattle.dkv_key.proofs.Escapes.{escaped-append, one_text, no_end}
use Rattle.dkv_key.proofs.Doubles.{length-double_bytes}
use Rattle.dkv_key.proofs.PartOrder.{bottom, head_of}

-- one written byte more
pub text_more : (bytes text rest behind : List ℕ) (b : ℕ) → bytes ≡ escaped text ++ rest → rest ≡ escaped (b ∷ []) ++ behind → bytes ≡ escaped (text ++ b ∷ []) ++ behind
text_more bytes text rest behind b is front =
    is ∙ ap (λ (l : List ℕ). escaped text ++ l) front ∙ sym (append_assoc (escaped text) (escaped (b ∷ [])) behind) ∙ ap (λ (l : List ℕ). l ++ behind) (sym (escaped-append text (b ∷ [])))

pub text_none : (bytes text rest : List ℕ) → bytes ≡ escaped text ++ rest → length rest < 1 → NoText bytes
text_none bytes text [] is short = no_end bytes text (is ∙ append_nil (escaped text))
  where
    append_nil : (l : List ℕ) → l ++ [] ≡ l
    append_nil [] = refl
    append_nil (x ∷ l) = ap (λ (m : List ℕ). x ∷ m) (append_nil l)
text_none bytes text (b ∷ rest) is short = absurd (omega (arith, short))

-- magnitude bytes
length-magnitude : (s : Bool) (xs : List ℕ) → length (magnitude_spelling s xs) ≡ length xs
length-magnitude false xs = refl
length-magnitude true xs = length-map xs (λ b. 255 - b)

complemented_bytes : (xs : List ℕ) → IsBytes (map (λ b. 255 - b) xs)
complemented_bytes [] i = omega arith
complemented_bytes (x ∷ xs) zero = omega arith
complemented_bytes (x ∷ xs) (suc i) = complemented_bytes xs i

magnitude_bytes : (s : Bool) (xs : List ℕ) → IsBytes xs → IsBytes (magnitude_spelling s xs)
magnitude_bytes false xs all = all
magnitude_bytes true xs all = complemented_bytes xs

magnitude_back : (s : Bool) (xs : List ℕ) → IsBytes xs → magnitude_spelling s (magnitude_spelling s xs) ≡ xs
magnitude_back false xs all = refl
magnitude_back true [] all = refl
magnitude_back true (x ∷ xs) all =
    let first : 255 - (255 - x) ≡ x = omega (arith, all 0) in
    (λ i. first i ∷ magnitude_back true xs (below_tail x xs all) i)

pub magnitude_found : (s : Bool) (count : ℕ) (bytes : List ℕ) → IsBytes bytes → count ≤ length bytes → HasNoLeadingZero (magnitude_spelling s (take count bytes))
    → HasMagnitude s count bytes (magnitude_spelling s (take count bytes)) (drop count bytes)
magnitude_found s count bytes all le first = record {
  size = length-magnitude s (take count bytes) ∙ (let e : length (take count bytes) ≡ count = omega (arith, length-take count bytes, le) in e);
  first = first;
  each = magnitude_bytes s (take count bytes) (below_take count bytes all);
  spelled = sym (take-append-drop count bytes) ∙ ap (λ (l : List ℕ). l ++ drop count bytes) (sym (magnitude_back s (take count bytes) (below_take count bytes all)));
}

-- the first byte of a part tells its rank
first_is : (t : ℕ) (body : List ℕ) (p : Part) (rest : List ℕ) → Begins (t ∷ body) p rest → (bottom (rank p) ≤ t) × (t < bottom (suc (rank p)))
first_is t body p rest b =
    let h = head_of p b.is_part.well_formed in
    let e : t ≡ h.first = ap (λ (l : List ℕ). get_or l 0 0) (b.spelled ∙ ap (λ (l : List ℕ). l ++ rest) h.is) in
    (omega (arith, e, h.low), omega (arith, e, h.high))

text_follows : (a body rest : List ℕ) → body ≡ (escaped a ++ 0 ∷ []) ++ rest → body ≡ escaped a ++ 0 ∷ rest
text_follows a body rest e = e ∙ append_assoc (escaped a) (0 ∷ []) rest

-- bytes that are escaped are bytes
text_bytes : (x rest : List ℕ) → IsBytes (escaped x ++ rest) → IsBytes x
text_bytes [] rest all i = omega arith
text_bytes (zero ∷ x) rest all zero = omega arith
text_bytes (zero ∷ x) rest all (suc i) = text_bytes x rest (λ j. all (suc (suc j))) i
text_bytes (suc b ∷ x) rest all zero = all 0
text_bytes (suc b ∷ x) rest all (suc i) = text_bytes x rest (λ j. all (suc j)) i

spelled_text : (x body rest : List ℕ) (t : ℕ) → HasText body x rest → t ∷ body ≡ t ∷ ((escaped x ++ 0 ∷ []) ++ rest)
spelled_text x body rest t h = ap (λ (l : List ℕ). t ∷ l) (h.spelled ∙ sym (append_assoc (escaped x) (0 ∷ []) rest))

pub bytes_begin : (x body rest : List ℕ) → IsBytes body → HasText body x rest → Begins (1 ∷ body) (part.Bytes x) rest
bytes_begin x body rest all h = record {
  is_part = record { well_formed = tt; fits = text_bytes x (0 ∷ rest) (subst IsBytes h.spelled all) };
  spelled = spelled_text x body rest 1 h;
  follows = h.follows;
}

pub text_begins : (x body rest : List ℕ) → IsBytes body → HasText body x rest → IsUtf8 x → Begins (2 ∷ body) (part.Text x) rest
text_begins x body rest all h is = record {
  is_part = record { well_formed = is; fits = text_bytes x (0 ∷ rest) (subst IsBytes h.spelled all) };
  spelled = spelled_text x body rest 2 h;
  follows = h.follows;
}

pub no_utf8 : (x body behind : List ℕ) → HasText body x behind → (IsUtf8 x → ⊥) → NoPart (2 ∷ body)
unfolding bottom
no_utf8 x body behind h not (part.Text a) rest b =
    let other : HasText body a rest = record { spelled = text_follows a body rest (ap (drop 1) b.spelled); follows = b.follows } in
    not (subst IsUtf8 (one_text body a rest x behind other h).0 b.is_part.well_formed)
no_utf8 x body behind h not p rest b = let f = first_is 2 body p rest b in omega (arith, f.0, f.1)

pub no_double : (body : List ℕ) → length body < 8 → NoPart (33 ∷ body)
unfolding bottom
no_double body short (part.Double n) rest b = omega (arith, short, ap length b.spelled, length-append (double_bytes n) rest, length-double_bytes n)
no_double body short p rest b = let f = first_is 33 body p rest b in omega (arith, f.0, f.1)

pub some_left : (rest : List ℕ) → eqb (length rest) 0 ≡ false → rest ≢ []
some_left [] e is = cc e
some_left (b ∷ rest) e is = omega (arith, ap length is)

pub none_left : (rest : List ℕ) → eqb (length rest) 0 ≡ true → rest ≡ []
none_left [] e = refl
none_left (b ∷ rest) e = absurd (omega (arith, eqb-true (suc (length rest)) 0 e))
