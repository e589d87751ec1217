-- Spellings of parts compare as the parts do, and one part begins some bytes.
use Rattle.std.proofs.Common.{◌≡◌, ◌≢◌, inl, inr, ℕ, zero, suc, ◌+◌, ◌-◌, ◌<◌, ◌≤◌, Bool, true, false, List, [], ◌∷◌, ◌++◌, length, map, refl, sym, ap, subst, ◌∙◌, arith, append_assoc}
use Rattle.std.proofs.lemmas.List.{length-map}
use Rattle.std.specs.Ordering.{nat_cmp, int_cmp, ordering_then}
use Rattle.std.specs.declared.cmp.Ordering.{Ordering}
use Rattle.std.specs.declared.cmp.Ordering.TheVariants.{Equal}
use Rattle.std.proofs.lemmas.Bool.{cases_lt, le-leb, lt-leb}
use Rattle.dkv_base.specs.State.{key_cmp}
use Rattle.dkv_base.proofs.ByteLists.{below_tail}
use Rattle.dkv_key.specs.declared.codes.TheConstants.{ZERO, LONG_POSITIVE, LONG_NEGATIVE, MAX_SHORT_BYTES}
use Rattle.dkv_key.specs.declared.part.Part.{Part}
use Rattle.dkv_key.specs.declared.part.Part.TheVariants as part
use Rattle.hex.specs.Hex.{IsBytes}
use Rattle.dkv_base.specs.Stamps.{number}
use Rattle.dkv_key.specs.Parts.{IsInteger, IsWellFormed, IsPart, escaped, count_spelling, magnitude_spelling, double_bytes, spelling, integer, rank, part_cmp}
use Rattle.dkv_key.specs.Reading.{MayFollow, Begins}
use Rattle.dkv_base.proofs.Orders.{then_first, then_second, nat_less, nat_equal, nat_greater, ranked, ranked_alike, apart_alone, same_keys, key_cmp-equal, first_less, first_greater, same_length}
use Rattle.dkv_key.proofs.Escapes.{escaped_order}
use Rattle.dkv_key.proofs.Numbers.{number_some, magnitude_order, positive_order, negative_order, negative_first, positive_last}
use Rattle.dkv_key.proofs.Doubles.{same_double, length-double_bytes}

-- where two numbers differ, nothing behind them counts
apart_then : (x y : ℕ) (o p : Ordering) → x ≢ y → ordering_then (nat_cmp x y) o ≡ ordering_then (nat_cmp x y) p
apart_then x y o p ne =
    elim (ranked x y) [
      | inl lt ↦ rw (nat_less x y lt) refl
      | inr more ↦ elim more [ inl e ↦ absurd (ne e) | inr gt ↦ rw (nat_greater x y gt) refl ]
    ]

pub short_up : (n : ℕ) → n ≤ MAX_SHORT_BYTES → count_spelling false n ≡ (ZERO + n) ∷ []
short_up n le = rw (le-leb n MAX_SHORT_BYTES le) refl

pub long_up : (n : ℕ) → MAX_SHORT_BYTES < n → count_spelling false n ≡ LONG_POSITIVE ∷ n ∷ []
long_up n lt = rw (lt-leb n MAX_SHORT_BYTES lt) refl

pub short_down : (n : ℕ) → n ≤ MAX_SHORT_BYTES → count_spelling true n ≡ (ZERO - n) ∷ []
short_down n le = rw (le-leb n MAX_SHORT_BYTES le) refl

pub long_down : (n : ℕ) → MAX_SHORT_BYTES < n → count_spelling true n ≡ LONG_NEGATIVE ∷ (255 - n) ∷ []
long_down n lt = rw (lt-leb n MAX_SHORT_BYTES lt) refl

-- more magnitude bytes of a positive number come later, and of a negative one earlier
pub count_up : (n m : ℕ) (x y : List ℕ) → key_cmp (count_spelling false n ++ x) (count_spelling false m ++ y) ≡ ordering_then (nat_cmp n m) (key_cmp x y)
count_up n m x y =
    elim (cases_lt 8 n) [
      | inl long ↦ elim (cases_lt 8 m) [
        | inl long' ↦ (λ i. key_cmp (long_up n long i ++ x) (long_up m long' i ++ y))
        | inr short' ↦
            (λ i. key_cmp (long_up n long i ++ x) (short_up m short' i ++ y)) ∙ first_greater 29 (20 + m) (n ∷ x) y (omega (arith, short'))
            ∙ ap (λ o. ordering_then o (key_cmp x y)) (sym (nat_greater n m (omega (arith, long, short'))))
      ]
      | inr short ↦ elim (cases_lt 8 m) [
        | inl long' ↦
            (λ i. key_cmp (short_up n short i ++ x) (long_up m long' i ++ y)) ∙ first_less (20 + n) 29 x (m ∷ y) (omega (arith, short))
            ∙ ap (λ o. ordering_then o (key_cmp x y)) (sym (nat_less n m (omega (arith, short, long'))))
        | inr short' ↦
            (λ i. key_cmp (short_up n short i ++ x) (short_up m short' i ++ y))
            ∙ ap (λ o. ordering_then o (key_cmp x y)) (ranked_alike (20 + n) (20 + m) n m (λ lt. omega (arith, lt)) (λ e. omega (arith, e)) (λ gt. omega (arith, gt)))
      ]
    ]

pub count_down : (n m : ℕ) (x y : List ℕ) → n ≤ 255 → m ≤ 255 → key_cmp (count_spelling true n ++ x) (count_spelling true m ++ y) ≡ ordering_then (nat_cmp m n) (key_cmp x y)
count_down n m x y f g =
    elim (cases_lt 8 n) [
      | inl long ↦ elim (cases_lt 8 m) [
        | inl long' ↦
            (λ i. key_cmp (long_down n long i ++ x) (long_down m long' i ++ y))
            ∙ ap (λ o. ordering_then o (key_cmp x y)) (ranked_alike (255 - n) (255 - m) m n (λ lt. omega (arith, lt)) (λ e. omega (arith, e, f, g)) (λ gt. omega (arith, gt)))
        | inr short' ↦
            (λ i. key_cmp (long_down n long i ++ x) (short_down m short' i ++ y)) ∙ first_less 11 (20 - m) ((255 - n) ∷ x) y (omega (arith, short'))
            ∙ ap (λ o. ordering_then o (key_cmp x y)) (sym (nat_less m n (omega (arith, long, short'))))
      ]
      | inr short ↦ elim (cases_lt 8 m) [
        | inl long' ↦
            (λ i. key_cmp (short_down n short i ++ x) (long_down m long' i ++ y)) ∙ first_greater (20 - n) 11 x ((255 - m) ∷ y) (omega (arith, short))
            ∙ ap (λ o. ordering_then o (key_cmp x y)) (sym (nat_greater m n (omega (arith, short, long'))))
        | inr short' ↦
            (λ i. key_cmp (short_down n short i ++ x) (short_down m short' i ++ y))
            ∙ ap (λ o. ordering_then o (key_cmp x y)) (ranked_alike (20 - n) (20 - m) m n (λ lt. omega (arith, lt)) (λ e. omega (arith, e, short, short')) (λ gt. omega (arith, gt)))
      ]
    ]

-- complemented bytes compare the other way round
complement_order : (a b : List ℕ) → IsBytes a → IsBytes b → length a ≡ length b → key_cmp (map (λ c. 255 - c) a) (map (λ c. 255 - c) b) ≡ key_cmp b a
complement_order [] [] f g e = refl
complement_order [] (y ∷ b) f g e = absurd (omega (arith, e))
complement_order (x ∷ a) [] f g e = absurd (omega (arith, e))
complement_order (x ∷ a) (y ∷ b) f g e =
    let first : nat_cmp (255 - x) (255 - y) ≡ nat_cmp y x = ranked_alike (255 - x) (255 - y) y x (λ lt. omega (arith, lt)) (λ is. omega (arith, is, f 0, g 0)) (λ gt. omega (arith, gt)) in
    let rest = complement_order a b (below_tail x a f) (below_tail y b g) (omega (arith, e)) in
    (λ i. ordering_then (first i) (rest i))

-- sizes decide, then the bytes of these sizes, and then what is behind them
sized : (n m : ℕ) (o p : Ordering) (q : Ordering) → (n ≡ m → p ≡ ordering_then o q) → ordering_then (nat_cmp n m) p ≡ ordering_then (ordering_then (nat_cmp n m) o) q
sized n m o p q same =
    elim (ranked n m) [
      | inl lt ↦ rw (nat_less n m lt) refl
      | inr more ↦ elim more [ inl e ↦ rw (nat_equal n m e) (same e) | inr gt ↦ rw (nat_greater n m gt) refl ]
    ]

-- the first byte of an integer
pub record CountHead (negative : Bool) (n : ℕ) : Type 0 where
  pub first : ℕ
  pub rest : List ℕ
  pub is : count_spelling negative n ≡ first ∷ rest
  pub low : 11 ≤ first
  pub high : first < 30

pub up_head : (n : ℕ) → (h : CountHead false n) × (20 ≤ h.first)
up_head n =
    elim (cases_lt 8 n) [
      | inl long ↦ (record { first = 29; rest = n ∷ []; is = long_up n long; low = omega arith; high = omega arith }, omega arith)
      | inr short ↦ (record { first = 20 + n; rest = []; is = short_up n short; low = omega arith; high = omega (arith, short) }, omega arith)
    ]

pub down_head : (n : ℕ) → 0 < n → (h : CountHead true n) × (h.first < 20)
down_head n some =
    elim (cases_lt 8 n) [
      | inl long ↦ (record { first = 11; rest = (255 - n) ∷ []; is = long_down n long; low = omega arith; high = omega arith }, omega arith)
      | inr short ↦ (record { first = 20 - n; rest = []; is = short_down n short; low = omega (arith, short); high = omega arith }, omega (arith, some))
    ]

pub count_head : (s : Bool) (n : ℕ) → (s ≡ true → 0 < n) → CountHead s n
count_head false n some = (up_head n).0
count_head true n some = (down_head n (some refl)).0

integer_order : (s t : Bool) (a b u v : List ℕ) → IsInteger s a → IsInteger t b → IsBytes a → IsBytes b
    → key_cmp ((count_spelling s (length a) ++ magnitude_spelling s a) ++ u) ((count_spelling t (length b) ++ magnitude_spelling t b) ++ v) ≡ ordering_then (int_cmp (integer s a) (integer t b)) (key_cmp u v)
integer_order false false a b u v f g x y =
    (λ i. key_cmp (append_assoc (count_spelling false (length a)) a u i) (append_assoc (count_spelling false (length b)) b v i))
    ∙ count_up (length a) (length b) (a ++ u) (b ++ v)
    ∙ sized (length a) (length b) (key_cmp a b) (key_cmp (a ++ u) (b ++ v)) (key_cmp u v) (same_length a b u v)
    ∙ ap (λ o. ordering_then o (key_cmp u v)) (sym (positive_order (number a) (number b) ∙ magnitude_order a b x y f.first g.first))
integer_order true true a b u v f g x y =
    let c = map (λ n. 255 - n) a in
    let d = map (λ n. 255 - n) b in
    (λ i. key_cmp (append_assoc (count_spelling true (length a)) c u i) (append_assoc (count_spelling true (length b)) d v i))
    ∙ count_down (length a) (length b) (c ++ u) (d ++ v) f.count g.count
    ∙ sized (length b) (length a) (key_cmp b a) (key_cmp (c ++ u) (d ++ v)) (key_cmp u v) (λ e.
    same_length c d u v (length-map a (λ n. 255 - n) ∙ sym e ∙ sym (length-map b (λ n. 255 - n)))
    ∙ ap (λ o. ordering_then o (key_cmp u v)) (complement_order a b x y (sym e)))
    ∙ ap (λ o. ordering_then o (key_cmp u v)) (sym (negative_order (number a) (number b) ∙ magnitude_order b a y x g.first f.first))
integer_order true false a b u v f g x y =
    let h = down_head (length a) (f.sign refl) in
    let k = up_head (length b) in
    (λ i. key_cmp ((h.0.is i ++ magnitude_spelling true a) ++ u) ((k.0.is i ++ b) ++ v))
    ∙ first_less h.0.first k.0.first ((h.0.rest ++ magnitude_spelling true a) ++ u) ((k.0.rest ++ b) ++ v) (omega (arith, h.1, k.1))
    ∙ ap (λ o. ordering_then o (key_cmp u v)) (sym (negative_first (number a) (number b) (number_some a f.first (f.sign refl))))
integer_order false true a b u v f g x y =
    let h = up_head (length a) in
    let k = down_head (length b) (g.sign refl) in
    (λ i. key_cmp ((h.0.is i ++ a) ++ u) ((k.0.is i ++ magnitude_spelling true b) ++ v))
    ∙ first_greater h.0.first k.0.first ((h.0.rest ++ a) ++ u) ((k.0.rest ++ magnitude_spelling true b) ++ v) (omega (arith, h.1, k.1))
    ∙ ap (λ o. ordering_then o (key_cmp u v)) (sym (positive_last (number a) (number b) (number_some b g.first (g.sign refl))))

-- the first bytes of a rank begin here, and end before those of the next rank
unfoldable pub bottom : ℕ → ℕ
bottom zero = 1
bottom (suc zero) = 2
bottom (suc (suc zero)) = 11
bottom (suc (suc (suc zero))) = 33
bottom (suc (suc (suc (suc zero)))) = 38
bottom (suc (suc (suc (suc (suc n))))) = 40

bottom_rises : (n : ℕ) → bottom n ≤ bottom (suc n)
unfolding bottom
bottom_rises zero = omega arith
bottom_rises (suc zero) = omega arith
bottom_rises (suc (suc zero)) = omega arith
bottom_rises (suc (suc (suc zero))) = omega arith
bottom_rises (suc (suc (suc (suc zero)))) = omega arith
bottom_rises (suc (suc (suc (suc (suc n))))) = omega arith

bottom_up : (n k : ℕ) → bottom n ≤ bottom (n + k)
bottom_up n zero = let e : n ≡ n + 0 = omega arith in let P : ℕ → Type 0 = λ m. bottom n ≤ bottom m in subst P e (omega arith)
bottom_up n (suc k) =
    let e : suc (n + k) ≡ n + suc k = omega arith in
    let P : ℕ → Type 0 = λ m. bottom n ≤ bottom m in
    subst P e (omega (arith, bottom_up n k, bottom_rises (n + k)))

bottom_apart : (n m : ℕ) → n < m → bottom (suc n) ≤ bottom m
bottom_apart n m lt = let e : suc n + (m - suc n) ≡ m = omega (arith, lt) in let P : ℕ → Type 0 = λ k. bottom (suc n) ≤ bottom k in subst P e (bottom_up (suc n) (m - suc n))

-- the first byte of a part
pub record Head (p : Part) : Type 0 where
  pub first : ℕ
  pub rest : List ℕ
  pub is : spelling p ≡ first ∷ rest
  pub low : bottom (rank p) ≤ first
  pub high : first < bottom (suc (rank p))
  pub some : 0 < first
  pub below : first < 40

pub head_of : (p : Part) → IsWellFormed p → Head p
unfolding bottom
head_of (part.Bytes a) f = record { first = 1; rest = escaped a ++ 0 ∷ []; is = refl; low = omega arith; high = omega arith; some = omega arith; below = omega arith }
head_of (part.Text a) f = record { first = 2; rest = escaped a ++ 0 ∷ []; is = refl; low = omega arith; high = omega arith; some = omega arith; below = omega arith }
head_of (part.Int s a) f =
    let h = count_head s (length a) f.sign in
    record { first = h.first; rest = h.rest ++ magnitude_spelling s a; is = ap (λ (l : List ℕ). l ++ magnitude_spelling s a) h.is; low = h.low; high = omega (arith, h.high); some = omega (arith, h.low); below = omega (arith, h.high) }
head_of (part.Double n) f = record { first = 33; rest = double_bytes n; is = refl; low = omega arith; high = omega arith; some = omega arith; below = omega arith }
head_of (part.Bool false) f = record { first = 38; rest = []; is = refl; low = omega arith; high = omega arith; some = omega arith; below = omega arith }
head_of (part.Bool true) f = record { first = 39; rest = []; is = refl; low = omega arith; high = omega arith; some = omega arith; below = omega arith }

rank_order : (p q : Part) → IsWellFormed p → IsWellFormed q → rank p ≢ rank q → (s t : List ℕ) → key_cmp (spelling p ++ s) (spelling q ++ t) ≡ ordering_then (nat_cmp (rank p) (rank q)) (key_cmp s t)
rank_order p q f g ne s t =
    let h = head_of p f in
    let k = head_of q g in
    (λ i. key_cmp (h.is i ++ s) (k.is i ++ t))
    ∙ elim (ranked (rank p) (rank q)) [
      | inl lt ↦ first_less h.first k.first (h.rest ++ s) (k.rest ++ t) (omega (arith, h.high, k.low, bottom_apart (rank p) (rank q) lt)) ∙ sym (nat_less (rank p) (rank q) lt)
      | inr more ↦
          elim more [
            | inl e ↦ absurd (ne e)
            | inr gt ↦ first_greater h.first k.first (h.rest ++ s) (k.rest ++ t) (omega (arith, k.high, h.low, bottom_apart (rank q) (rank p) gt)) ∙ sym (nat_greater (rank p) (rank q) gt)
          ]
    ]
    ∙ sym (apart_alone (rank p) (rank q) (key_cmp s t) ne)

ended : (a s : List ℕ) → (escaped a ++ 0 ∷ []) ++ s ≡ escaped a ++ 0 ∷ s
ended a s = append_assoc (escaped a) (0 ∷ []) s

-- spellings compare as their parts, and then as what is behind them
pub part_order : (p q : Part) → IsPart p → IsPart q → (s t : List ℕ) → MayFollow p s → MayFollow q t → key_cmp (spelling p ++ s) (spelling q ++ t) ≡ ordering_then (part_cmp p q) (key_cmp s t)
part_order (part.Bytes a) (part.Bytes b) f g s t x y = (λ i. key_cmp (1 ∷ ended a s i) (1 ∷ ended b t i)) ∙ escaped_order a b s t x y
part_order (part.Text a) (part.Text b) f g s t x y = (λ i. key_cmp (2 ∷ ended a s i) (2 ∷ ended b t i)) ∙ escaped_order a b s t x y
part_order (part.Int m a) (part.Int n b) f g s t x y = integer_order m n a b s t f.well_formed g.well_formed f.fits g.fits
part_order (part.Double a) (part.Double b) f g s t x y = same_length (double_bytes a) (double_bytes b) s t (length-double_bytes a ∙ sym (length-double_bytes b))
part_order (part.Bool false) (part.Bool false) f g s t x y = refl
part_order (part.Bool false) (part.Bool true) f g s t x y = refl
part_order (part.Bool true) (part.Bool false) f g s t x y = refl
part_order (part.Bool true) (part.Bool true) f g s t x y = refl
part_order p q f g s t x y = rank_order p q f.well_formed g.well_formed (λ e. omega (arith, e)) s t

-- parts that compare equal are equal
same_integer : (s t : Bool) (a b : List ℕ) → IsInteger s a → IsInteger t b → IsBytes a → IsBytes b → int_cmp (integer s a) (integer t b) ≡ Equal → part.Int s a ≡ part.Int t b
same_integer false false a b f g x y e =
    ap (part.Int false) (same_keys a b (then_second (nat_cmp (length a) (length b)) (key_cmp a b) (sym (positive_order (number a) (number b) ∙ magnitude_order a b x y f.first g.first) ∙ e)))
same_integer true true a b f g x y e =
    ap (part.Int true) (sym (same_keys b a (then_second (nat_cmp (length b) (length a)) (key_cmp b a) (sym (negative_order (number a) (number b) ∙ magnitude_order b a y x g.first f.first) ∙ e))))
same_integer true false a b f g x y e = absurd (cc (negative_first (number a) (number b) (number_some a f.first (f.sign refl)), e))
same_integer false true a b f g x y e = absurd (cc (positive_last (number a) (number b) (number_some b g.first (g.sign refl)), e))

pub same_part : (p q : Part) → IsPart p → IsPart q → part_cmp p q ≡ Equal → p ≡ q
same_part (part.Bytes a) (part.Bytes b) f g e = ap part.Bytes (same_keys a b e)
same_part (part.Text a) (part.Text b) f g e = ap part.Text (same_keys a b e)
same_part (part.Int m a) (part.Int n b) f g e = same_integer m n a b f.well_formed g.well_formed f.fits g.fits e
same_part (part.Double a) (part.Double b) f g e = ap part.Double (same_double a b f.fits g.fits (same_keys (double_bytes a) (double_bytes b) e))
same_part (part.Bool false) (part.Bool false) f g e = refl
same_part (part.Bool false) (part.Bool true) f g e = absurd (cc e)
same_part (part.Bool true) (part.Bool false) f g e = absurd (cc e)
same_part (part.Bool true) (part.Bool true) f g e = refl
same_part p q f g e = absurd (cc e)

-- one part begins some bytes
pub one_part : (bytes : List ℕ) (p q : Part) (r s : List ℕ) → Begins bytes p r → Begins bytes q s → (p ≡ q) × (r ≡ s)
one_part bytes p q r s f g =
    let same = sym (part_order p q f.is_part g.is_part r s f.follows g.follows) ∙ key_cmp-equal _ _ (sym f.spelled ∙ g.spelled) in
    (same_part p q f.is_part g.is_part (then_first (part_cmp p q) (key_cmp r s) same), same_keys r s (then_second (part_cmp p q) (key_cmp r s) same))
