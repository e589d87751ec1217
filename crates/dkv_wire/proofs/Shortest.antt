-- A varint is no shorter than its number's shortest one, and a field no shorter than the spelling of what it holds.
--     size_rises, size_step, size_sum      how the length of a shortest varint goes with its number
--     sized      the fields of bytes: each as long at least as what it holds is spelled, and all of them as long as the bytes
--     packed_short      packed numbers are no shorter than their shortest varints
use Rattle.std.proofs.Common.{◌≡◌, ℕ, zero, suc, ◌+◌, ◌-◌, ◌*◌, ◌/◌, ◌<◌, ◌≤◌, List, [], ◌∷◌, ◌++◌, length, Option, Some, None, refl, sym, ap, subst, ◌∙◌, inl, inr, arith, length-append}
use Rattle.std.specs.List.{flat_map, AllByRecursion}
use Rattle.std.proofs.lemmas.Bool.{lt-ltb, le-ltb, cases_lt}
use Rattle.dkv_base.proofs.ByteLists.{Below, below_tail}
use Rattle.dkv_base.specs.Protobuf.{groups, varint, delimited}
use Rattle.dkv_wire.specs.Wire.{Item, Content, AVarint, AFixed64, ALen, AFixed32, last_bits, IsVarintIn, IsVarint, IsField}
use Rattle.dkv_wire.specs.Reading.{limit, varint_at, field_at}
use Rattle.dkv_wire.specs.FieldLists.{fields, bad, varints}
use Rattle.dkv_wire.proofs.Fronts.{varint_found, field_found}
use Rattle.dkv_wire.proofs.Steps.{fields_found, fields_end, bad_found, bad_none, varints_found, varints_none, varints_end, varint_shorter, field_shorter}

-- ---- the length of a shortest varint

abbrev size : ℕ → ℕ → ℕ
size k n = length (groups k n)

none : (n : ℕ) → size zero n ≡ 0
unfolding groups
none n = refl

few : (k n : ℕ) → n < 128 → size (suc k) n ≡ 1
unfolding groups
few k n lt = rw (lt-ltb n 128 lt) refl

many : (k n : ℕ) → 128 ≤ n → size (suc k) n ≡ suc (size k (n / 128))
unfolding groups
many k n le = rw (le-ltb n 128 le) refl

some : (k n : ℕ) → 1 ≤ size (suc k) n
some k n = elim (cases_lt n 128) [ inl lt ↦ omega (arith, few k n lt) | inr le ↦ omega (arith, many k n le) ]

one_at_most : (k n : ℕ) → n < 128 → size k n ≤ 1
one_at_most zero n lt = omega (arith, none n)
one_at_most (suc k) n lt = omega (arith, few k n lt)

rises : (k m n : ℕ) → m ≤ n → size k m ≤ size k n
rises zero m n le = omega (arith, none m)
rises (suc k) m n le =
    elim (cases_lt m 128) [
      | inl lt ↦ omega (arith, few k m lt, some k n)
      | inr big ↦ omega (arith, many k m big, many k n (omega (arith, le, big)), rises k (m / 128) (n / 128) (omega (arith, le)))
    ]

step : (k n d : ℕ) → d ≤ 127 → size k (n + d) ≤ size k n + 1
step zero n d small = omega (arith, none (n + d))
step (suc k) n d small =
    elim (cases_lt (n + d) 128) [
      | inl lt ↦ omega (arith, few k (n + d) lt)
      | inr big ↦ elim (cases_lt n 128) [
        | inl lt ↦ omega (arith, many k (n + d) big, few k n lt, one_at_most k ((n + d) / 128) (omega (arith, lt, small)))
        | inr big' ↦
            let e = (n + d) / 128 - n / 128 in
            let is : n / 128 + e ≡ (n + d) / 128 = omega arith in
            omega (arith, many k (n + d) big, many k n big', step k (n / 128) e (omega (arith, small)), ap (size k) is)
      ]
    ]

sums : (k a b : ℕ) → size k (a + b) ≤ size k a + size k b
sums zero a b = omega (arith, none (a + b))
sums (suc k) a b =
    elim (cases_lt a 128) [
      | inl lt ↦
          let is : b + a ≡ a + b = omega arith in
          omega (arith, step (suc k) b a (omega (arith, lt)), ap (size (suc k)) is, some k a)
      | inr big ↦ elim (cases_lt b 128) [
        | inl lt ↦ omega (arith, step (suc k) a b (omega (arith, lt)), some k b)
        | inr big' ↦
            let e = (a + b) / 128 - (a / 128 + b / 128) in
            let is : a / 128 + b / 128 + e ≡ (a + b) / 128 = omega arith in
            let small : e ≤ 127 = omega arith in
            omega (arith, many k (a + b) (omega (arith, big)), many k a big, many k b big', step k (a / 128 + b / 128) e small, sums k (a / 128) (b / 128), ap (size k) is)
      ]
    ]

-- a greater number has no shorter varint
pub size_rises : (m n : ℕ) → m ≤ n → length (varint m) ≤ length (varint n)
unfolding varint
size_rises m n le = rises 10 m n le

-- a number that is a little greater has a varint of one byte more at most
pub size_step : (n d : ℕ) → d ≤ 127 → length (varint (n + d)) ≤ length (varint n) + 1
unfolding varint
size_step n d small = step 10 n d small

-- the varint of a sum is no longer than those of its terms
pub size_sum : (a b : ℕ) → length (varint (a + b)) ≤ length (varint a) + length (varint b)
unfolding varint
size_sum a b = sums 10 a b

-- a varint has a byte
pub size_some : (n : ℕ) → 1 ≤ length (varint n)
unfolding varint
size_some n = some 9 n

-- the varint of a number below 128 is one byte
pub size_one : (n : ℕ) → n < 128 → length (varint n) ≡ 1
unfolding varint
size_one n lt = few 9 n lt

-- ---- bytes that are a varint

below_left : (a b : List ℕ) → Below (a ++ b) → Below a
below_left [] b all i = omega arith
below_left (x ∷ a) b all zero = all 0
below_left (x ∷ a) b all (suc i) = below_left a b (below_tail x (a ++ b) all) i

below_right : (a b : List ℕ) → Below (a ++ b) → Below b
below_right [] b all = all
below_right (x ∷ a) b all = below_right a b (below_tail x (a ++ b) all)

last_small : (more b : ℕ) → b < 128 → last_bits more b < 128
last_small zero b lt = omega (arith, lt)
last_small (suc more) b lt = lt

shortest_in : (more : ℕ) (bytes : List ℕ) (n : ℕ) → Below bytes → IsVarintIn more bytes n → size more n ≤ length bytes
unfolding IsVarintIn
shortest_in zero bytes n all is = absurd is
shortest_in (suc more) [] n all is = absurd is
shortest_in (suc more) (b ∷ []) n all is = omega (arith, few more n (omega (arith, is.1, last_small more b is.0)))
shortest_in (suc more) (b ∷ c ∷ bytes) n all is =
    let byte : b < 256 = all 0 in
    let high : n / 128 ≡ is.1 = omega (arith, is.0, is.2, byte) in
    elim (cases_lt n 128) [
      | inl lt ↦ omega (arith, few more n lt)
      | inr big ↦ omega (arith, many more n big, ap (size more) high, shortest_in more (c ∷ bytes) is.1 (below_tail b (c ∷ bytes) all) is.3)
    ]

-- a varint is no shorter than the shortest of its number
pub shortest : (bytes : List ℕ) (n : ℕ) → Below bytes → IsVarint bytes n → length (varint n) ≤ length bytes
unfolding IsVarint varint
shortest bytes n all is = shortest_in 10 bytes n all is

least : (more : ℕ) → 1 ≤ limit (suc more)
unfolding limit
least zero = omega arith
least (suc more) = omega (arith, least more)

in_limit : (more : ℕ) (bytes : List ℕ) (n : ℕ) → Below bytes → IsVarintIn more bytes n → n < limit more
unfolding IsVarintIn limit
in_limit zero bytes n all is = absurd is
in_limit (suc more) [] n all is = absurd is
in_limit (suc zero) (b ∷ []) n all is = omega (arith, is.1)
in_limit (suc (suc more)) (b ∷ []) n all is = omega (arith, is.0, is.1, least more)
in_limit (suc zero) (b ∷ c ∷ bytes) n all is = absurd is.3
in_limit (suc (suc more)) (b ∷ c ∷ bytes) n all is =
    let byte : b < 256 = all 0 in
    omega (arith, is.0, is.2, byte, in_limit (suc more) (c ∷ bytes) is.1 (below_tail b (c ∷ bytes) all) is.3)

-- a varint of bytes is a number below 2^64
pub below_64 : (bytes : List ℕ) (n : ℕ) → Below bytes → IsVarint bytes n → n < 18446744073709551616
unfolding IsVarint limit
below_64 bytes n all is = in_limit 10 bytes n all is

-- ---- fields

-- a field of this number is as long at least as what it holds is spelled
abbrev pub IsSized : ℕ → ℕ → Content → Type 0
IsSized k long (AVarint n) = (length (varint (k * 8)) + length (varint n) ≤ long) × (n < 18446744073709551616)
IsSized k long (AFixed64 n) = Unit {0}
IsSized k long (ALen text) = (length (delimited k text) ≤ long) × Below text
IsSized k long (AFixed32 n) = Unit {0}

-- the bytes of all fields
abbrev pub span : List Item → ℕ
span [] = 0
span (f ∷ fs) = (f.end - f.at) + span fs

-- each field is as long at least as what it holds is spelled, and all have so many bytes
pub record Sized (fs : List Item) (long : ℕ) : Type 0 where
  pub each : AllByRecursion (λ f. IsSized f.number (f.end - f.at) f.content) fs
  pub total : span fs ≡ long

field_sized : (head : List ℕ) (k : ℕ) (held : Content) → Below head → IsField head k held → IsSized k (length head) held
field_sized head k (AVarint n) all is =
    let below = subst Below is.split all in
    let wire : k * 8 + is.wire ≡ k * 8 = omega (arith, is.is_body.0) in
    let tag = shortest is.tag (k * 8 + is.wire) (below_left is.tag is.body below) is.is_tag in
    let body = shortest is.body n (below_right is.tag is.body below) is.is_body.1 in
    (omega (arith, tag, body, ap length is.split, length-append is.tag is.body, ap (λ (t : ℕ). length (varint t)) wire), below_64 is.body n (below_right is.tag is.body below) is.is_body.1)
field_sized head k (AFixed64 n) all is = tt
field_sized head k (ALen text) all is =
    let below = subst Below is.split all in
    let b = is.is_body in
    let wire : k * 8 + is.wire ≡ k * 8 + 2 = omega (arith, b.0) in
    let below_body = subst Below b.3 (below_right is.tag is.body below) in
    let tag = shortest is.tag (k * 8 + is.wire) (below_left is.tag is.body below) is.is_tag in
    let long = shortest b.1 (length text) (below_left b.1 text below_body) b.2 in
    let t = varint (k * 8 + 2) in
    let l = varint (length text) in
    (omega (arith, tag, long, ap length is.split, length-append is.tag is.body, ap length b.3, length-append b.1 text, ap (λ (t : ℕ). length (varint t)) wire, length-append (t ++ l) text, length-append t l), below_right b.1 text below_body)
field_sized head k (AFixed32 n) all is = tt

abbrev Again : ℕ → Type 0
Again more = (p q : ℕ) (bytes : List ℕ) → length bytes ≤ more → Below bytes → bad p bytes ≡ None → Sized (fields q bytes) (length bytes)

first_sized : (more p q : ℕ) (b : ℕ) (bs : List ℕ) (r : Option (ℕ × Content × List ℕ)) → Again more → field_at (b ∷ bs) ≡ r → length (b ∷ bs) ≤ suc more → Below (b ∷ bs) → bad p (b ∷ bs) ≡ None → Sized (fields q (b ∷ bs)) (length (b ∷ bs))
first_sized more p q b bs None again e le all good = absurd (cc (bad_none p (b ∷ bs) (omega arith) e, good))
first_sized more p q b bs (Some x) again e le all good =
    let front = field_found (b ∷ bs) x.0 x.1 x.2 e in
    let below = subst Below front.split all in
    let d = length (b ∷ bs) - length x.2 in
    let is_d : d ≡ length front.head = omega (arith, ap length front.split, length-append front.head x.2) in
    let is_item : q + d - q ≡ length front.head = omega (arith, is_d) in
    let first = subst (λ (n : ℕ). IsSized x.0 n x.1) (sym is_item) (field_sized front.head x.0 x.1 (below_left front.head x.2 below) front.is) in
    let others = again (p + d) (q + d) x.2 (omega (arith, le, field_shorter (b ∷ bs) x e)) (below_right front.head x.2 below) (sym (bad_found p (b ∷ bs) x.0 x.1 x.2 e) ∙ good) in
    subst (λ (fs : List Item). Sized fs (length (b ∷ bs))) (sym (fields_found q (b ∷ bs) x.0 x.1 x.2 e)) (record { each = (first, others.each); total = omega (arith, is_d, others.total, ap length front.split, length-append front.head x.2) })

sized_in : (more : ℕ) → Again more
sized_in more p q [] le all good = subst (λ (fs : List Item). Sized fs 0) (sym (fields_end q)) (record { each = tt; total = refl })
sized_in zero p q (b ∷ bs) le all good = absurd (omega (arith, le))
sized_in (suc more) p q (b ∷ bs) le all good = first_sized more p q b bs (field_at (b ∷ bs)) (sized_in more) refl le all good

-- where the bytes begin plays no part
pub sized : (p q : ℕ) (bytes : List ℕ) → Below bytes → bad p bytes ≡ None → Sized (fields q bytes) (length bytes)
sized p q bytes all good = sized_in (length bytes) p q bytes (omega arith) all good

-- ---- packed numbers

abbrev Packs : ℕ → Type 0
Packs more = (text : List ℕ) → length text ≤ more → Below text → length (flat_map varint (varints text)) ≤ length text

first_packed : (more : ℕ) (text : List ℕ) (r : Option (ℕ × List ℕ)) → Packs more → varint_at text ≡ r → length text ≤ suc more → Below text → length (flat_map varint (varints text)) ≤ length text
first_packed more text None again e le all = omega (arith, ap (λ (ns : List ℕ). length (flat_map varint ns)) (varints_none text e))
first_packed more text (Some x) again e le all =
    let front = varint_found text x.0 x.1 e in
    let below = subst Below front.1 all in
    let head = shortest front.0 x.0 (below_left front.0 x.1 below) front.2 in
    let others = again x.1 (omega (arith, le, varint_shorter text x e)) (below_right front.0 x.1 below) in
    omega (arith, ap (λ (ns : List ℕ). length (flat_map varint ns)) (varints_found text x.0 x.1 e), length-append (varint x.0) (flat_map varint (varints x.1)), head, others, ap length front.1, length-append front.0 x.1)

packed_in : (more : ℕ) → Packs more
packed_in zero [] le all = omega (arith, ap (λ (ns : List ℕ). length (flat_map varint ns)) varints_end)
packed_in zero (b ∷ bs) le all = absurd (omega (arith, le))
packed_in (suc more) text le all = first_packed more text (varint_at text) (packed_in more) refl le all

-- packed numbers are no shorter than their shortest varints
pub packed_short : (text : List ℕ) → Below text → length (flat_map varint (varints text)) ≤ length text
packed_short text all = packed_in (length text) text (omega arith) all
