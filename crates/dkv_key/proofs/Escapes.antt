-- Bytes with each 00 written 00 FF, and a 00 behind them.
use Rattle.std.proofs.Common.{◌≡◌, ◌≢◌, ℕ, zero, suc, ◌+◌, ◌<◌, List, [], ◌∷◌, ◌++◌, length, get_or, take, refl, sym, ap, ◌∙◌, arith, append_assoc, length-append}
use Rattle.std.specs.Ordering.{nat_cmp, ordering_then}
use Rattle.std.specs.declared.cmp.Ordering.TheVariants.{Less, Greater}
use Rattle.std.proofs.lemmas.List.{take_more}
use Rattle.dkv_base.specs.State.{key_cmp}
use Rattle.dkv_key.specs.Parts.{escaped}
use Rattle.dkv_key.specs.Reading.{StartsBelowFF, HasText}
use Rattle.dkv_base.proofs.Orders.{then_assoc, then_first, then_second, same_keys, key_cmp-equal, first_less, first_greater}

pub escaped-append : (xs ys : List ℕ) → escaped (xs ++ ys) ≡ escaped xs ++ escaped ys
escaped-append [] ys = refl
escaped-append (zero ∷ xs) ys = ap (λ (l : List ℕ). 0 ∷ 255 ∷ l) (escaped-append xs ys)
escaped-append (suc b ∷ xs) ys = ap (λ (l : List ℕ). suc b ∷ l) (escaped-append xs ys)

escaped_plain : (b : ℕ) → b ≢ 0 → escaped (b ∷ []) ≡ b ∷ []
escaped_plain zero some = absurd (some refl)
escaped_plain (suc b) some = refl

escaped_zero : (b : ℕ) → b ≡ 0 → escaped (b ∷ []) ≡ b ∷ 255 ∷ []
escaped_zero zero e = refl
escaped_zero (suc b) e = absurd (omega (arith, e))

pub escaped_cons : (b : ℕ) (xs : List ℕ) → b ≢ 0 → escaped (b ∷ xs) ≡ b ∷ escaped xs
escaped_cons zero xs some = absurd (some refl)
escaped_cons (suc b) xs some = refl

-- one byte more is escaped
pub more_plain : (xs : List ℕ) (i : ℕ) → (i < length xs) → get_or xs i 0 ≢ 0 → escaped (take (i + 1) xs) ≡ escaped (take i xs) ++ get_or xs i 0 ∷ []
more_plain xs i lt some =
    ap escaped (take_more xs i 0 lt) ∙ escaped-append (take i xs) (get_or xs i 0 ∷ []) ∙ ap (λ (l : List ℕ). escaped (take i xs) ++ l) (escaped_plain (get_or xs i 0) some)

pub more_zero : (xs : List ℕ) (i : ℕ) → (i < length xs) → get_or xs i 0 ≡ 0 → escaped (take (i + 1) xs) ≡ (escaped (take i xs) ++ get_or xs i 0 ∷ []) ++ 255 ∷ []
more_zero xs i lt none =
    ap escaped (take_more xs i 0 lt) ∙ escaped-append (take i xs) (get_or xs i 0 ∷ []) ∙ ap (λ (l : List ℕ). escaped (take i xs) ++ l) (escaped_zero (get_or xs i 0) none)
    ∙ sym (append_assoc (escaped (take i xs)) (get_or xs i 0 ∷ []) (255 ∷ []))

-- one byte more is read
pub read_plain : (text behind : List ℕ) (b : ℕ) → b ≢ 0 → escaped text ++ b ∷ behind ≡ escaped (text ++ b ∷ []) ++ behind
read_plain text behind b some =
    sym (ap (λ (l : List ℕ). l ++ behind) (escaped-append text (b ∷ []) ∙ ap (λ (l : List ℕ). escaped text ++ l) (escaped_plain b some)) ∙ append_assoc (escaped text) (b ∷ []) behind)

pub read_zero : (text behind : List ℕ) → escaped text ++ 0 ∷ 255 ∷ behind ≡ escaped (text ++ 0 ∷ []) ++ behind
read_zero text behind =
    sym (ap (λ (l : List ℕ). l ++ behind) (escaped-append text (0 ∷ [])) ∙ append_assoc (escaped text) (0 ∷ 255 ∷ []) behind)

-- what begins below FF is below what begins with FF
below_ff : (s l : List ℕ) → StartsBelowFF s → key_cmp s (255 ∷ l) ≡ Less
below_ff [] l below = refl
below_ff (b ∷ s) l below = first_less b 255 s l below

above_ff : (t l : List ℕ) → StartsBelowFF t → key_cmp (255 ∷ l) t ≡ Greater
above_ff [] l below = refl
above_ff (b ∷ t) l below = first_greater 255 b l t below

-- the bytes decide, and else what is behind them
pub escaped_order : (a b s t : List ℕ) → StartsBelowFF s → StartsBelowFF t → key_cmp (escaped a ++ 0 ∷ s) (escaped b ++ 0 ∷ t) ≡ ordering_then (key_cmp a b) (key_cmp s t)
escaped_order [] [] s t f g = refl
escaped_order [] (zero ∷ b) s t f g = below_ff s (escaped b ++ 0 ∷ t) f
escaped_order [] (suc n ∷ b) s t f g = first_less 0 (suc n) s (escaped b ++ 0 ∷ t) (omega arith)
escaped_order (zero ∷ a) [] s t f g = above_ff t (escaped a ++ 0 ∷ s) g
escaped_order (suc m ∷ a) [] s t f g = first_greater (suc m) 0 (escaped a ++ 0 ∷ s) t (omega arith)
escaped_order (zero ∷ a) (zero ∷ b) s t f g = escaped_order a b s t f g
escaped_order (zero ∷ a) (suc n ∷ b) s t f g =
    let lt : 0 < suc n = omega arith in
    first_less 0 (suc n) (255 ∷ escaped a ++ 0 ∷ s) (escaped b ++ 0 ∷ t) lt ∙ ap (λ o. ordering_then o (key_cmp s t)) (sym (first_less 0 (suc n) a b lt))
escaped_order (suc m ∷ a) (zero ∷ b) s t f g =
    let lt : 0 < suc m = omega arith in
    first_greater (suc m) 0 (escaped a ++ 0 ∷ s) (255 ∷ escaped b ++ 0 ∷ t) lt ∙ ap (λ o. ordering_then o (key_cmp s t)) (sym (first_greater (suc m) 0 a b lt))
escaped_order (suc m ∷ a) (suc n ∷ b) s t f g =
    ap (ordering_then (nat_cmp (suc m) (suc n))) (escaped_order a b s t f g) ∙ sym (then_assoc (nat_cmp (suc m) (suc n)) (key_cmp a b) (key_cmp s t))

-- bytes that end have one text, and one rest
pub one_text : (bytes x r y s : List ℕ) → HasText bytes x r → HasText bytes y s → (x ≡ y) × (r ≡ s)
one_text bytes x r y s f g =
    let same = sym (escaped_order x y r s f.follows g.follows) ∙ key_cmp-equal _ _ (sym f.spelled ∙ g.spelled) in
    (same_keys x y (then_first (key_cmp x y) (key_cmp r s) same), same_keys r s (then_second (key_cmp x y) (key_cmp r s) same))

ends_below : (r : List ℕ) → StartsBelowFF r → StartsBelowFF (r ++ 0 ∷ [])
ends_below [] f = omega arith
ends_below (b ∷ r) f = f

-- bytes that are only escaped don't end
pub no_end : (bytes x : List ℕ) → bytes ≡ escaped x → (y r : List ℕ) → HasText bytes y r → ⊥
no_end bytes x is y r g =
    let whole : HasText (bytes ++ 0 ∷ []) x [] = record { spelled = ap (λ (l : List ℕ). l ++ 0 ∷ []) is; follows = tt } in
    let other : HasText (bytes ++ 0 ∷ []) y (r ++ 0 ∷ []) = record {
      spelled = ap (λ (l : List ℕ). l ++ 0 ∷ []) g.spelled ∙ append_assoc (escaped y) (0 ∷ r) (0 ∷ []);
      follows = ends_below r g.follows;
    } in
    let both = one_text (bytes ++ 0 ∷ []) x [] y (r ++ 0 ∷ []) whole other in
    omega (arith, ap length both.1, length-append r (0 ∷ []))
