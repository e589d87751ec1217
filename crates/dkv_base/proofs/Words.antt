-- Keys compare by their first eight bytes as one number, and then by the others.
use Rattle.std.proofs.Common.{◌≡◌, ◌≢◌, inl, inr, ℕ, suc, ◌+◌, ◌*◌, ◌^◌, ◌<◌, ◌≤◌, List, [], ◌∷◌, ◌++◌, length, take, drop, refl, sym, ap, ◌∙◌, arith}
use Rattle.std.specs.Int.{w64, from_be_bytes}
use Rattle.std.specs.Ordering.{nat_cmp, ordering_then}
use Rattle.std.specs.declared.cmp.Ordering.{Ordering}
use Rattle.std.proofs.Math.Nat.{pow-succ', mul-le-mul_right}
use Rattle.std.proofs.lemmas.List.{take-append-drop, length-take}
use Rattle.dkv_base.specs.State.{key_cmp}
use Rattle.dkv_base.proofs.ByteLists.{Below, below_take, below_tail}
use Rattle.dkv_base.specs.Stamps.{number}
use Rattle.dkv_base.proofs.Orders.{nat_less, nat_equal, nat_greater, ranked, ranked_alike, apart_alone, same_length}

-- so many bytes write numbers below this
pub number_below : (a : List ℕ) → Below a → number a < 256 ^ length a
number_below [] all = omega arith
number_below (b ∷ a) all =
    let low = number_below a (below_tail b a all) in
    let top : b ≤ 255 = omega (arith, all 0) in
    let product : b * 256 ^ length a ≤ 255 * 256 ^ length a = mul-le-mul_right (256 ^ length a) top in
    let power : 256 ^ suc (length a) ≡ 256 * 256 ^ length a = pow-succ' 256 (length a) in
    omega (arith, low, product, power)

step_up : (x y w n m : ℕ) → x < y → n < w → x * w + n < y * w + m
step_up x y w n m lt low =
    let product : suc x * w ≤ y * w = mul-le-mul_right w lt in
    let parts : suc x * w ≡ w + x * w = omega arith in
    omega (arith, product, parts, low)

-- numbers of as many bytes compare by these
pub number_order : (a b : List ℕ) → Below a → Below b → length a ≡ length b → nat_cmp (number a) (number b) ≡ key_cmp a b
number_order [] [] f g e = refl
number_order [] (y ∷ b) f g e = absurd (omega (arith, e))
number_order (x ∷ a) [] f g e = absurd (omega (arith, e))
number_order (x ∷ a) (y ∷ b) f g e =
    let sizes : length a ≡ length b = omega (arith, e) in
    let powers : 256 ^ length a ≡ 256 ^ length b = ap (λ (n : ℕ). 256 ^ n) sizes in
    let low = number_below a (below_tail x a f) in
    let high = number_below b (below_tail y b g) in
    let same : number (y ∷ b) ≡ y * 256 ^ length a + number b = ap (λ (n : ℕ). y * n + number b) (sym powers) in
    let rest = number_order a b (below_tail x a f) (below_tail y b g) sizes in
    ap (nat_cmp (number (x ∷ a))) same
    ∙ elim (ranked x y) [
      | inl lt ↦ nat_less _ _ (step_up x y (256 ^ length a) (number a) (number b) lt low) ∙ ap (λ o. ordering_then o (key_cmp a b)) (sym (nat_less x y lt))
      | inr more ↦
          elim more [
            | inl is ↦
                ap (λ (n : ℕ). nat_cmp (n * 256 ^ length a + number a) (y * 256 ^ length a + number b)) is
                ∙ ranked_alike (y * 256 ^ length a + number a) (y * 256 ^ length a + number b) (number a) (number b) (λ lt. omega (arith, lt)) (λ eq. omega (arith, eq)) (λ gt. omega (arith, gt))
                ∙ rest
                ∙ ap (λ o. ordering_then o (key_cmp a b)) (sym (nat_equal x y is))
            | inr gt ↦
                nat_greater _ _ (step_up y x (256 ^ length a) (number b) (number a) gt (omega (arith, high, powers)))
                ∙ ap (λ o. ordering_then o (key_cmp a b)) (sym (nat_greater x y gt))
          ]
    ]

-- eight bytes write one number, whichever definition reads them
pub number_of_8 : (a b c d e f g h : ℕ) → let bytes : List ℕ = a ∷ b ∷ c ∷ d ∷ e ∷ f ∷ g ∷ h ∷ [] in number bytes ≡ from_be_bytes w64 bytes
number_of_8 a b c d e f g h = omega arith

eight : (a : List ℕ) → length a ≡ 8 → number a ≡ from_be_bytes w64 a
eight [] e = absurd (omega (arith, e))
eight (a ∷ []) e = absurd (omega (arith, e))
eight (a ∷ b ∷ []) e = absurd (omega (arith, e))
eight (a ∷ b ∷ c ∷ []) e = absurd (omega (arith, e))
eight (a ∷ b ∷ c ∷ d ∷ []) e = absurd (omega (arith, e))
eight (a ∷ b ∷ c ∷ d ∷ f ∷ []) e = absurd (omega (arith, e))
eight (a ∷ b ∷ c ∷ d ∷ f ∷ g ∷ []) e = absurd (omega (arith, e))
eight (a ∷ b ∷ c ∷ d ∷ f ∷ g ∷ h ∷ []) e = absurd (omega (arith, e))
eight (a ∷ b ∷ c ∷ d ∷ f ∷ g ∷ h ∷ i ∷ []) e = number_of_8 a b c d f g h i
eight (a ∷ b ∷ c ∷ d ∷ f ∷ g ∷ h ∷ i ∷ j ∷ more) e = absurd (omega (arith, e))

word_order : (a b : List ℕ) → Below a → Below b → length a ≡ 8 → length b ≡ 8 → key_cmp a b ≡ nat_cmp (from_be_bytes w64 a) (from_be_bytes w64 b)
word_order a b f g d e =
    sym (number_order a b f g (d ∙ sym e))
    ∙ ap (λ (n : ℕ). nat_cmp n (number b)) (eight a d)
    ∙ ap (nat_cmp (from_be_bytes w64 a)) (eight b e)

by_words : (k o : List ℕ) → Below k → Below o → 8 ≤ length k → 8 ≤ length o
    → key_cmp k o ≡ ordering_then (nat_cmp (from_be_bytes w64 (take 8 k)) (from_be_bytes w64 (take 8 o))) (key_cmp (drop 8 k) (drop 8 o))
by_words k o f g long long' =
    let d : length (take 8 k) ≡ 8 = omega (arith, length-take 8 k, long) in
    let e : length (take 8 o) ≡ 8 = omega (arith, length-take 8 o, long') in
    ap (λ (l : List ℕ). key_cmp l o) (sym (take-append-drop 8 k))
    ∙ ap (key_cmp (take 8 k ++ drop 8 k)) (sym (take-append-drop 8 o))
    ∙ same_length (take 8 k) (take 8 o) (drop 8 k) (drop 8 o) (d ∙ sym e)
    ∙ ap (λ (r : Ordering). ordering_then r (key_cmp (drop 8 k) (drop 8 o))) (word_order (take 8 k) (take 8 o) (below_take 8 k f) (below_take 8 o g) d e)

-- equal words leave the others to decide
pub words_equal : (k o : List ℕ) → Below k → Below o → 8 ≤ length k → 8 ≤ length o
    → from_be_bytes w64 (take 8 k) ≡ from_be_bytes w64 (take 8 o) → key_cmp k o ≡ key_cmp (drop 8 k) (drop 8 o)
words_equal k o f g long long' e =
    by_words k o f g long long'
    ∙ ap (λ (r : Ordering). ordering_then r (key_cmp (drop 8 k) (drop 8 o))) (nat_equal _ _ e)

-- other words decide
pub words_apart : (k o : List ℕ) → Below k → Below o → 8 ≤ length k → 8 ≤ length o
    → from_be_bytes w64 (take 8 k) ≢ from_be_bytes w64 (take 8 o) → key_cmp k o ≡ nat_cmp (from_be_bytes w64 (take 8 k)) (from_be_bytes w64 (take 8 o))
words_apart k o f g long long' ne = by_words k o f g long long' ∙ apart_alone _ _ _ ne
