-- What is read of bytes has a short spelling: that of the fields of a number is no longer than those fields, or little longer.
use Rattle.std.proofs.Common.{◌≡◌, ℕ, zero, suc, ◌+◌, ◌-◌, ◌*◌, ◌^◌, ◌%◌, ◌<◌, ◌≤◌, min, Bool, true, false, cond, eqb, List, [], ◌∷◌, ◌++◌, length, map, Option, Some, None, refl, sym, ap, ◌∙◌, inl, inr, arith, length-append}
use Rattle.std.specs.Prelude.{ℤ, pos, negsuc}
use Rattle.std.specs.List.{flat_map, AllByRecursion}
use Rattle.std.specs.Int.{w32, w64, cast_unsigned}
use Rattle.std.proofs.lemmas.Bool.{eqb-true, cases_lt}
use Rattle.std.proofs.lemmas.Int.{to_z_pos, of_z-to_z}
use Rattle.dkv_base.specs.Protobuf.{groups, varint, delimited, number_field, bytes_field, numbers_field, unsigned}
use Rattle.dkv_wire.specs.Wire.{Item, Content, AVarint, AFixed64, ALen, AFixed32}
use Rattle.dkv_wire.specs.FieldLists.{fields, varints}
use Rattle.dkv_wire.specs.Reading.{field_at}
use Rattle.dkv_wire.proofs.Steps.{field_shorter, fields_found, fields_none}
use Rattle.dkv_wire.proofs.Sizes.{varint_size}
use Rattle.dkv_wire.proofs.Shortest.{size_rises, size_some, size_one, IsSized, packed_short}
use Rattle.dkv_msgs.specs.ByField.{number_in, bytes_in, numbers_in, held_by, payloads, last_or, last_number, last_bytes, numbers, int32, int64, uint32}
use Rattle.dkv_msgs.proofs.Shown.{contents, held, held_contents}

-- the bytes of the fields of number k
abbrev pub weight : ℕ → List Item → ℕ
weight k [] = 0
weight k (f ∷ fs) = cond (eqb f.number k) (f.end - f.at) 0 + weight k fs

abbrev pub AreSized : List Item → Type 0
AreSized fs = AllByRecursion (λ f. IsSized f.number (f.end - f.at) f.content) fs

-- ---- lengths of fields

pub delimited_length : (k : ℕ) (bytes : List ℕ) → length (delimited k bytes) ≡ length (varint (k * 8 + 2)) + length (varint (length bytes)) + length bytes
delimited_length k bytes = omega (arith, length-append (varint (k * 8 + 2) ++ varint (length bytes)) bytes, length-append (varint (k * 8 + 2)) (varint (length bytes)))

bytes_at_most : (k : ℕ) (bytes : List ℕ) → length (bytes_field k bytes) ≤ length (delimited k bytes)
bytes_at_most k [] = omega arith
bytes_at_most k (b ∷ bs) = omega arith

number_if : (b : Bool) (k n : ℕ) → eqb n 0 ≡ b → 1 ≤ n → length (cond b [] (varint (k * 8) ++ varint n)) ≡ length (varint (k * 8)) + length (varint n)
number_if true k n e le = absurd (omega (arith, eqb-true n 0 e, le))
number_if false k n e le = length-append (varint (k * 8)) (varint n)

number_length : (k n : ℕ) → 1 ≤ n → length (number_field k n) ≡ length (varint (k * 8)) + length (varint n)
number_length k n le = number_if (eqb n 0) k n refl le

no_number : (k n : ℕ) → n < 1 → length (number_field k n) ≡ 0
no_number k n lt = let e : n ≡ 0 = omega (arith, lt) in ap (λ (m : ℕ). length (number_field k m)) e

number_at_most : (k n : ℕ) → length (number_field k n) ≤ length (varint (k * 8)) + length (varint n)
number_at_most k n = elim (cases_lt n 1) [ inl lt ↦ omega (arith, no_number k n lt) | inr le ↦ omega (arith, number_length k n le) ]

number_rises : (k m n : ℕ) → m ≤ n → length (number_field k m) ≤ length (number_field k n)
number_rises k m n le =
    elim (cases_lt m 1) [
      | inl lt ↦ omega (arith, no_number k m lt)
      | inr some ↦ omega (arith, number_length k m some, number_length k n (omega (arith, some, le)), size_rises m n le)
    ]

-- ---- signed numbers

size_31 : length (varint 2147483648) ≡ 5
unfolding varint groups
size_31 = refl

-- a negative number is spelled in ten bytes, and was read of five at least
pub int32_short : (k n : ℕ) → length (number_field k (unsigned (int32 n))) ≤ length (number_field k n) + 5
int32_short k n =
    elim (cases_lt (n % 2 ^ 32) (2 ^ 31)) [
      | inl lt ↦
          let is : unsigned (int32 n) ≡ n % 2 ^ 32 = ap unsigned (to_z_pos w32 (n % 2 ^ 32) lt) in
          omega (arith, number_rises k (n % 2 ^ 32) n (omega arith), ap (λ (m : ℕ). length (number_field k m)) is)
      | inr big ↦
          let large : 2147483648 ≤ n = omega (arith, big) in
          omega (arith, number_at_most k (unsigned (int32 n)), varint_size (unsigned (int32 n)), number_length k n (omega (arith, large)), size_rises 2147483648 n large, size_31)
    ]

pub int32_known : (k n z : ℕ) → int32 n ≡ pos z → length (number_field k (unsigned (int32 n))) ≤ length (number_field k n)
int32_known k n z is =
    let same : z ≡ n % 2 ^ 32 = ap (cast_unsigned w32) (sym is) ∙ of_z-to_z w32 (n % 2 ^ 32) (omega arith) in
    let le : z ≤ n = omega (arith, same) in
    omega (arith, number_rises k z n le, ap (λ (y : ℤ). length (number_field k (unsigned y))) is)

unsigned_is : (z : ℤ) → unsigned z ≡ cast_unsigned w64 z
unsigned_is (pos n) = refl
unsigned_is (negsuc n) = omega arith

pub int64_same : (n : ℕ) → n < 18446744073709551616 → unsigned (int64 n) ≡ n
int64_same n lt = unsigned_is (int64 n) ∙ of_z-to_z w64 n lt

-- ---- singular fields

bytes_step : (b : Bool) (k : ℕ) (x : List ℕ) (f : Item) (c : Content) (fs : List Item) → eqb f.number k ≡ b → IsSized f.number (f.end - f.at) c
    → ((y : List ℕ) → length (bytes_field k (last_or y (payloads k fs))) ≤ length (bytes_field k y) + weight k fs)
    → length (bytes_field k (last_or x (cond b (bytes_in c) [] ++ payloads k fs))) ≤ length (bytes_field k x) + (cond b (f.end - f.at) 0 + weight k fs)
bytes_step true k x f (AVarint n) fs e is again = omega (arith, again x)
bytes_step true k x f (AFixed64 n) fs e is again = omega (arith, again x)
bytes_step true k x f (ALen text) fs e is again = omega (arith, again text, bytes_at_most k text, is.0, ap (λ (j : ℕ). length (delimited j text)) (eqb-true f.number k e))
bytes_step true k x f (AFixed32 n) fs e is again = omega (arith, again x)
bytes_step false k x f c fs e is again = omega (arith, again x)

last_bytes_from : (k : ℕ) (x : List ℕ) (fs : List Item) → AreSized fs → length (bytes_field k (last_or x (payloads k fs))) ≤ length (bytes_field k x) + weight k fs
last_bytes_from k x [] are = omega arith
last_bytes_from k x (f ∷ fs) are = bytes_step (eqb f.number k) k x f f.content fs refl are.0 (λ y. last_bytes_from k y fs are.1)

pub bytes_short : (k : ℕ) (fs : List Item) → AreSized fs → length (bytes_field k (last_bytes k fs)) ≤ weight k fs
bytes_short k fs are = omega (arith, last_bytes_from k [] fs are)

number_step : (b : Bool) (k x : ℕ) (f : Item) (c : Content) (fs : List Item) → eqb f.number k ≡ b → IsSized f.number (f.end - f.at) c
    → ((y : ℕ) → length (number_field k (last_or y (held_by number_in k fs))) ≤ length (number_field k y) + weight k fs)
    → length (number_field k (last_or x (cond b (number_in c) [] ++ held_by number_in k fs))) ≤ length (number_field k x) + (cond b (f.end - f.at) 0 + weight k fs)
number_step true k x f (AVarint n) fs e is again = omega (arith, again n, number_at_most k n, is.0, ap (λ (j : ℕ). length (varint (j * 8))) (eqb-true f.number k e))
number_step true k x f (AFixed64 n) fs e is again = omega (arith, again x)
number_step true k x f (ALen text) fs e is again = omega (arith, again x)
number_step true k x f (AFixed32 n) fs e is again = omega (arith, again x)
number_step false k x f c fs e is again = omega (arith, again x)

last_number_from : (k x : ℕ) (fs : List Item) → AreSized fs → length (number_field k (last_or x (held_by number_in k fs))) ≤ length (number_field k x) + weight k fs
last_number_from k x [] are = omega arith
last_number_from k x (f ∷ fs) are = number_step (eqb f.number k) k x f f.content fs refl are.0 (λ y. last_number_from k y fs are.1)

pub number_short : (k : ℕ) (fs : List Item) → AreSized fs → length (number_field k (last_number k fs)) ≤ weight k fs
number_short k fs are = omega (arith, last_number_from k 0 fs are)

fits_step : (b : Bool) (k x : ℕ) (long : ℕ) (c : Content) (fs : List Item) (j : ℕ) → IsSized j long c → x < 18446744073709551616 → ((y : ℕ) → y < 18446744073709551616 → last_or y (held_by number_in k fs) < 18446744073709551616)
    → last_or x (cond b (number_in c) [] ++ held_by number_in k fs) < 18446744073709551616
fits_step true k x long (AVarint n) fs j is lt again = again n is.1
fits_step true k x long (AFixed64 n) fs j is lt again = again x lt
fits_step true k x long (ALen text) fs j is lt again = again x lt
fits_step true k x long (AFixed32 n) fs j is lt again = again x lt
fits_step false k x long c fs j is lt again = again x lt

last_fits : (k x : ℕ) (fs : List Item) → x < 18446744073709551616 → AreSized fs → last_or x (held_by number_in k fs) < 18446744073709551616
last_fits k x [] lt are = lt
last_fits k x (f ∷ fs) lt are = fits_step (eqb f.number k) k x (f.end - f.at) f.content fs f.number are.0 lt (λ y small. last_fits k y fs small are.1)

pub int64_short : (k : ℕ) (fs : List Item) → AreSized fs → length (number_field k (unsigned (int64 (last_number k fs)))) ≤ weight k fs
int64_short k fs are = omega (arith, number_short k fs are, ap (λ (m : ℕ). length (number_field k m)) (int64_same (last_number k fs) (last_fits k 0 fs (omega arith) are)))

-- ---- repeated fields

texts_step : (b : Bool) (k : ℕ) (f : Item) (c : Content) (fs : List Item) → eqb f.number k ≡ b → IsSized f.number (f.end - f.at) c → length (flat_map (delimited k) (payloads k fs)) ≤ weight k fs
    → length (flat_map (delimited k) (cond b (bytes_in c) [] ++ payloads k fs)) ≤ cond b (f.end - f.at) 0 + weight k fs
texts_step true k f (AVarint n) fs e is again = omega (arith, again)
texts_step true k f (AFixed64 n) fs e is again = omega (arith, again)
texts_step true k f (ALen text) fs e is again = omega (arith, again, is.0, ap (λ (j : ℕ). length (delimited j text)) (eqb-true f.number k e), length-append (delimited k text) (flat_map (delimited k) (payloads k fs)))
texts_step true k f (AFixed32 n) fs e is again = omega (arith, again)
texts_step false k f c fs e is again = omega (arith, again)

pub texts_short : (k : ℕ) (fs : List Item) → AreSized fs → length (flat_map (delimited k) (payloads k fs)) ≤ weight k fs
texts_short k [] are = omega arith
texts_short k (f ∷ fs) are = texts_step (eqb f.number k) k f f.content fs refl are.0 (texts_short k fs are.1)

-- the bytes of packed numbers
abbrev packed : List ℕ → ℕ
packed ns = length (flat_map varint (map uint32 ns))

packed-append : (ms ns : List ℕ) → packed (ms ++ ns) ≡ packed ms + packed ns
packed-append [] ns = omega arith
packed-append (m ∷ ms) ns = omega (arith, packed-append ms ns, length-append (varint (uint32 m)) (flat_map varint (map uint32 (ms ++ ns))), length-append (varint (uint32 m)) (flat_map varint (map uint32 ms)))

uint32_small : (ns : List ℕ) → packed ns ≤ length (flat_map varint ns)
uint32_small [] = omega arith
uint32_small (n ∷ ns) = omega (arith, uint32_small ns, size_rises (n % 2 ^ 32) n (omega arith), length-append (varint (uint32 n)) (flat_map varint (map uint32 ns)), length-append (varint n) (flat_map varint ns))

numbers_step : (b : Bool) (k : ℕ) (f : Item) (c : Content) (fs : List Item) → eqb f.number k ≡ b → IsSized f.number (f.end - f.at) c → packed (numbers k fs) + min 1 (length (map uint32 (numbers k fs))) ≤ weight k fs
    → packed (cond b (numbers_in c) [] ++ numbers k fs) + min 1 (length (map uint32 (cond b (numbers_in c) [] ++ numbers k fs))) ≤ cond b (f.end - f.at) 0 + weight k fs
numbers_step true k f (AVarint n) fs e is again = omega (arith, again, is.0, size_some (f.number * 8), size_rises (n % 2 ^ 32) n (omega arith), length-append (varint (uint32 n)) (flat_map varint (map uint32 (numbers k fs))))
numbers_step true k f (AFixed64 n) fs e is again = omega (arith, again)
numbers_step true k f (ALen text) fs e is again = omega (arith, again, is.0, delimited_length f.number text, size_some (f.number * 8 + 2), size_some (length text), packed-append (varints text) (numbers k fs), uint32_small (varints text), packed_short text is.1)
numbers_step true k f (AFixed32 n) fs e is again = omega (arith, again)
numbers_step false k f c fs e is again = omega (arith, again)

packed_weight : (k : ℕ) (fs : List Item) → AreSized fs → packed (numbers k fs) + min 1 (length (map uint32 (numbers k fs))) ≤ weight k fs
packed_weight k [] are = omega arith
packed_weight k (f ∷ fs) are = numbers_step (eqb f.number k) k f f.content fs refl are.0 (packed_weight k fs are.1)

ten_each : (ns : List ℕ) → length (flat_map varint ns) ≤ 10 * length ns
ten_each [] = omega arith
ten_each (n ∷ ns) = omega (arith, ten_each ns, varint_size n, length-append (varint n) (flat_map varint ns))

numbers_length : (ns : List ℕ) → length ns ≤ 10 → length (numbers_field 4 ns) ≤ length (flat_map varint ns) + min 1 (length ns) + 1
numbers_length [] le = omega arith
numbers_length (n ∷ ns) le =
    let b = flat_map varint (n ∷ ns) in
    let few : length b < 128 = omega (arith, le, ten_each (n ∷ ns)) in
    omega (arith, bytes_at_most 4 b, delimited_length 4 b, size_one 34 (omega arith), size_one (length b) few)

-- numbers that stood by themselves get one length before them
pub numbers_short : (fs : List Item) → AreSized fs → length (map uint32 (numbers 4 fs)) ≤ 10 → length (numbers_field 4 (map uint32 (numbers 4 fs))) ≤ weight 4 fs + 1
numbers_short fs are le = omega (arith, numbers_length (map uint32 (numbers 4 fs)) le, packed_weight 4 fs are)

-- ---- where bytes begin plays no part in what they hold

first_same : (p q : ℕ) (bytes : List ℕ) (r : Option (ℕ × Content × List ℕ)) → field_at bytes ≡ r → ((p q : ℕ) (rest : List ℕ) → length rest < length bytes → contents (fields p rest) ≡ contents (fields q rest)) → contents (fields p bytes) ≡ contents (fields q bytes)
first_same p q bytes None e again = ap contents (fields_none p bytes e) ∙ sym (ap contents (fields_none q bytes e))
first_same p q bytes (Some x) e again =
    let d = length bytes - length x.2 in
    ap contents (fields_found p bytes x.0 x.1 x.2 e)
    ∙ ap (λ (l : List (ℕ × Content)). (x.0, x.1) ∷ l) (again (p + d) (q + d) x.2 (field_shorter bytes x e))
    ∙ sym (ap contents (fields_found q bytes x.0 x.1 x.2 e))

same_in : (more p q : ℕ) (bytes : List ℕ) → length bytes ≤ more → contents (fields p bytes) ≡ contents (fields q bytes)
same_in zero p q bytes le = first_same p q bytes (field_at bytes) refl (λ p q rest lt. absurd (omega (arith, le, lt)))
same_in (suc more) p q bytes le = first_same p q bytes (field_at bytes) refl (λ p q rest lt. same_in more p q rest (omega (arith, le, lt)))

pub same_payloads : (k p q : ℕ) (bytes : List ℕ) → payloads k (fields p bytes) ≡ payloads k (fields q bytes)
same_payloads k p q bytes = held_contents bytes_in k (fields p bytes) ∙ ap (held bytes_in k) (same_in (length bytes) p q bytes (omega arith)) ∙ sym (held_contents bytes_in k (fields q bytes))
