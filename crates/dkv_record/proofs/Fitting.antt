-- What the messages' crate reads as a write fits, and is read again from its spelling.
use Rattle.std.proofs.Common.{◌≡◌, ℕ, zero, suc, ◌+◌, ◌-◌, ◌*◌, ◌^◌, ◌%◌, ◌<◌, ◌≤◌, Bool, true, false, cond, eqb, List, [], ◌∷◌, ◌++◌, length, map, Option, Some, None, Ok, refl, sym, ap, subst, arith, length-append}
use Rattle.std.specs.Prelude.{◌+ℤ◌, FitsSigned, IfSome}
use Rattle.std.specs.List.{flat_map, AllByRecursion}
use Rattle.std.specs.Option.{option_map_or}
use Rattle.std.specs.Int.{w32, w64, cast_signed}
use Rattle.std.proofs.lemmas.Int.{SFits-int_wrap, wrapping_add-bits}
use Rattle.std.proofs.lemmas.List.{length-map}
use Rattle.dkv_base.proofs.ByteLists.{Below, below_tail}
use Rattle.dkv_base.specs.declared.types.AtomicWrite.{AtomicWrite}
use Rattle.dkv_base.specs.Protobuf.{varint, delimited}
use Rattle.dkv_base.specs.Fits.{AreBytes, AreHeld, FitsCheck, FitsValue, FitsMutation, FitsEnqueue, FitsWrite}
use Rattle.dkv_wire.specs.Wire.{Item, Content, AVarint, AFixed64, ALen, AFixed32}
use Rattle.dkv_wire.specs.FieldLists.{fields, bad, varints, varints_in}
use Rattle.dkv_wire.specs.Reading.{varint_at}
use Rattle.dkv_wire.proofs.Listed.{is_listed, stops}
use Rattle.dkv_wire.proofs.Shortest.{size_some, IsSized, span, sized}
use Rattle.dkv_msgs.specs.ByField.{number_in, bytes_in, numbers_in, held_by, payloads, last_or, last_number, last_bytes, numbers, joined, int32, int64, uint32}
use Rattle.dkv_msgs.specs.Messages.{if_given, check, kv_value, mutation, enqueue, atomic_write}
use Rattle.dkv_msgs.specs.Places.{bad_atomic_write}
use Rattle.dkv_msgs.specs.Readings.{unless_bad, reads_atomic_write}
use Rattle.dkv_msgs.proofs.BackMessages.{write_again, numbers_fit}
use Rattle.dkv_record.specs.Laws.{ReadsWrites}

-- ---- numbers

signed_fits : (n : ℕ) → n < 2 ^ 32 → FitsSigned w32 (cast_signed w32 n)
signed_fits n lt =
    let is : (n + 0) % 2 ^ 32 ≡ n = omega (arith, lt) in
    subst (λ (m : ℕ). FitsSigned w32 (cast_signed w32 m)) is (subst (FitsSigned w32) (sym (wrapping_add-bits w32 n 0 lt (omega arith))) (SFits-int_wrap w32 (cast_signed w32 n +ℤ cast_signed w32 0)))

long_fits : (n : ℕ) → n < 2 ^ 64 → FitsSigned w64 (cast_signed w64 n)
long_fits n lt =
    let is : (n + 0) % 2 ^ 64 ≡ n = omega (arith, lt) in
    subst (λ (m : ℕ). FitsSigned w64 (cast_signed w64 m)) is (subst (FitsSigned w64) (sym (wrapping_add-bits w64 n 0 lt (omega arith))) (SFits-int_wrap w64 (cast_signed w64 n +ℤ cast_signed w64 0)))

-- ---- fields that are as long as what they hold

abbrev AreSized : List Item → Type 0
AreSized fs = AllByRecursion (λ f. IsSized f.number (f.end - f.at) f.content) fs

part_length : (k : ℕ) (bytes : List ℕ) → length (delimited k bytes) ≡ length (varint (k * 8 + 2)) + length (varint (length bytes)) + length bytes
part_length k bytes = omega (arith, length-append (varint (k * 8 + 2) ++ varint (length bytes)) bytes, length-append (varint (k * 8 + 2)) (varint (length bytes)))

record Whole (fs : List Item) : Type 0 where
  each : AreSized fs
  few : span fs < 9223372036854775808

below_left : (a b : List ℕ) → Below (a ++ b) → Below a
below_left [] b all i = omega arith
below_left (x ∷ a) b all zero = all 0
below_left (x ∷ a) b all (suc i) = below_left a b (below_tail x (a ++ b) all) i

-- the fields that any bytes begin with
listed : (bytes : List ℕ) (place : Option ℕ) → bad 0 bytes ≡ place → Below bytes → AreSized (fields 0 bytes) × (span (fields 0 bytes) ≤ length bytes)
listed bytes None e all = let s = sized 0 0 bytes all e in (s.each, omega (arith, s.total))
listed bytes (Some place) e all =
    let s = stops (length bytes) 0 bytes place (omega arith) e in
    let are = is_listed 0 s.front (fields 0 bytes) s.are in
    let front = sized 0 0 s.front (below_left s.front s.rest (subst Below s.split all)) are.0 in
    (subst AreSized are.1 front.each, omega (arith, front.total, ap span are.1, ap length s.split, length-append s.front s.rest))

whole : (bytes : List ℕ) → AreBytes bytes → Whole (fields 0 bytes)
whole bytes are = let l = listed bytes (bad 0 bytes) refl are.each in record { each = l.0; few = omega (arith, l.1, are.count) }

nothing : AreBytes []
nothing = record { count = omega arith; each = λ i. omega arith }

-- ---- bytes in fields

text_step : (b : Bool) (c : Content) (k long n : ℕ) (texts : List (List ℕ)) → IsSized k long c → long + n < 9223372036854775808 → AllByRecursion AreBytes texts → length texts ≤ n
    → AllByRecursion AreBytes (cond b (bytes_in c) [] ++ texts) × (length (cond b (bytes_in c) [] ++ texts) ≤ long + n)
text_step true (AVarint m) k long n texts is few all le = (all, omega (arith, le))
text_step true (AFixed64 m) k long n texts is few all le = (all, omega (arith, le))
text_step true (ALen text) k long n texts is few all le =
    ((record { count = omega (arith, few, is.0, part_length k text); each = is.1 }, all), omega (arith, le, is.0, part_length k text, size_some (length text)))
text_step true (AFixed32 m) k long n texts is few all le = (all, omega (arith, le))
text_step false c k long n texts is few all le = (all, omega (arith, le))

texts_in : (k : ℕ) (fs : List Item) → AreSized fs → span fs < 9223372036854775808 → AllByRecursion AreBytes (payloads k fs) × (length (payloads k fs) ≤ span fs)
texts_in k [] are few = (tt, omega arith)
texts_in k (f ∷ fs) are few =
    let others = texts_in k fs are.1 (omega (arith, few)) in
    text_step (eqb f.number k) f.content f.number (f.end - f.at) (span fs) (payloads k fs) are.0 few others.0 others.1

texts_held : (k : ℕ) (fs : List Item) → Whole fs → AreHeld AreBytes (payloads k fs)
texts_held k fs w = let t = texts_in k fs w.each w.few in record { count = omega (arith, t.1, w.few); each = t.0 }

last_of : (x : List ℕ) (xs : List (List ℕ)) → AreBytes x → AllByRecursion AreBytes xs → AreBytes (last_or x xs)
last_of x [] is all = is
last_of x (y ∷ ys) is all = last_of y ys all.0 all.1

bytes_fit : (k : ℕ) (fs : List Item) → Whole fs → AreBytes (last_bytes k fs)
bytes_fit k fs w = last_of [] (payloads k fs) nothing (texts_held k fs w).each

-- ---- numbers in fields

fits_step : (b : Bool) (k x long : ℕ) (c : Content) (fs : List Item) (j : ℕ) → IsSized j long c → x < 18446744073709551616 → ((y : ℕ) → y < 18446744073709551616 → last_or y (held_by number_in k fs) < 18446744073709551616)
    → last_or x (cond b (number_in c) [] ++ held_by number_in k fs) < 18446744073709551616
fits_step true k x long (AVarint n) fs j is lt again = again n is.1
fits_step true k x long (AFixed64 n) fs j is lt again = again x lt
fits_step true k x long (ALen text) fs j is lt again = again x lt
fits_step true k x long (AFixed32 n) fs j is lt again = again x lt
fits_step false k x long c fs j is lt again = again x lt

last_fits : (k x : ℕ) (fs : List Item) → x < 18446744073709551616 → AreSized fs → last_or x (held_by number_in k fs) < 18446744073709551616
last_fits k x [] lt are = lt
last_fits k x (f ∷ fs) lt are = fits_step (eqb f.number k) k x (f.end - f.at) f.content fs f.number are.0 lt (λ y small. last_fits k y fs small are.1)

int32_fits : (n : ℕ) → FitsSigned w32 (int32 n)
int32_fits n = signed_fits (n % 2 ^ 32) (omega arith)

int64_fits : (k : ℕ) (fs : List Item) → Whole fs → FitsSigned w64 (int64 (last_number k fs))
int64_fits k fs w = long_fits (last_number k fs) (omega (arith, last_fits k 0 fs (omega arith) w.each))

one_number : (more : ℕ) (found : Option (ℕ × List ℕ)) → ((rest : List ℕ) → length (varints_in more rest) ≤ more) → length (option_map_or (λ (x : ℕ × List ℕ). x.0 ∷ varints_in more x.1) found []) ≤ suc more
one_number more None again = omega arith
one_number more (Some x) again = omega (arith, again x.1)

few_numbers : (more : ℕ) (bytes : List ℕ) → length (varints_in more bytes) ≤ more
unfolding varints_in
few_numbers zero bytes = omega arith
few_numbers (suc more) bytes = one_number more (varint_at bytes) (few_numbers more)

count_step : (b : Bool) (c : Content) (k long n : ℕ) (ns : List ℕ) → IsSized k long c → length ns ≤ n → length (cond b (numbers_in c) [] ++ ns) ≤ long + n
count_step true (AVarint m) k long n ns is le = omega (arith, le, is.0, size_some m)
count_step true (AFixed64 m) k long n ns is le = omega (arith, le)
count_step true (ALen text) k long n ns is le = omega (arith, le, is.0, part_length k text, few_numbers (length text) text, length-append (varints text) ns)
count_step true (AFixed32 m) k long n ns is le = omega (arith, le)
count_step false c k long n ns is le = omega (arith, le)

numbers_count : (k : ℕ) (fs : List Item) → AreSized fs → length (numbers k fs) ≤ span fs
numbers_count k [] are = omega arith
numbers_count k (f ∷ fs) are = count_step (eqb f.number k) f.content f.number (f.end - f.at) (span fs) (numbers k fs) are.0 (numbers_count k fs are.1)

all_32 : (ns : List ℕ) → AllByRecursion (λ n. n < 2 ^ 32) (map uint32 ns)
all_32 [] = tt
all_32 (n ∷ ns) = (omega arith, all_32 ns)

numbers_held : (k : ℕ) (fs : List Item) → Whole fs → AreHeld (λ n. n < 2 ^ 32) (map uint32 (numbers k fs))
numbers_held k fs w = record { count = omega (arith, numbers_count k fs w.each, w.few, length-map (numbers k fs) uint32); each = all_32 (numbers k fs) }

-- ---- a message in pieces

span-append : (fs gs : List Item) → span (fs ++ gs) ≡ span fs + span gs
span-append [] gs = omega arith
span-append (f ∷ fs) gs = omega (arith, span-append fs gs)

sized-append : (fs gs : List Item) → AreSized fs → AreSized gs → AreSized (fs ++ gs)
sized-append [] gs x y = y
sized-append (f ∷ fs) gs x y = (x.0, sized-append fs gs x.1 y)

-- the bytes of all pieces
abbrev long : List (List ℕ) → ℕ
long [] = 0
long (t ∷ ts) = length t + long ts

long_step : (b : Bool) (c : Content) (k size n : ℕ) (texts : List (List ℕ)) → IsSized k size c → long texts ≤ n → long (cond b (bytes_in c) [] ++ texts) ≤ size + n
long_step true (AVarint m) k size n texts is le = omega (arith, le)
long_step true (AFixed64 m) k size n texts is le = omega (arith, le)
long_step true (ALen text) k size n texts is le = omega (arith, le, is.0, part_length k text)
long_step true (AFixed32 m) k size n texts is le = omega (arith, le)
long_step false c k size n texts is le = omega (arith, le)

long_at_most : (k : ℕ) (fs : List Item) → AreSized fs → long (payloads k fs) ≤ span fs
long_at_most k [] are = omega arith
long_at_most k (f ∷ fs) are = long_step (eqb f.number k) f.content f.number (f.end - f.at) (span fs) (payloads k fs) are.0 (long_at_most k fs are.1)

pieces : (texts : List (List ℕ)) → AllByRecursion AreBytes texts → AreSized (flat_map (λ text. fields 0 text) texts) × (span (flat_map (λ text. fields 0 text) texts) ≤ long texts)
pieces [] all = (tt, omega arith)
pieces (t ∷ ts) all =
    let first = listed t (bad 0 t) refl all.0.each in
    let others = pieces ts all.1 in
    let gs = flat_map (λ text. fields 0 text) ts in
    (sized-append (fields 0 t) gs first.0 others.0, omega (arith, first.1, others.1, span-append (fields 0 t) gs))

joined_whole : (k : ℕ) (fs : List Item) → Whole fs → Whole (joined k fs)
joined_whole k fs w =
    let p = pieces (payloads k fs) (texts_held k fs w).each in
    record { each = p.0; few = omega (arith, p.1, long_at_most k fs w.each, w.few) }

-- ---- messages

check_fits : (text : List ℕ) → AreBytes text → FitsCheck (check (fields 0 text))
check_fits text are =
    let w = whole text are in
    record { key = bytes_fit 1 (fields 0 text) w; versionstamp = bytes_fit 2 (fields 0 text) w }

value_fits : (fs : List Item) → Whole fs → FitsValue (kv_value fs)
value_fits fs w = record { bytes = bytes_fit 1 fs w; encoding = int32_fits (last_number 2 fs) }

if_value : (texts : List (List ℕ)) (fs : List Item) → Whole fs → IfSome (if_given texts (kv_value fs)) FitsValue
if_value [] fs w = tt
if_value (t ∷ ts) fs w = value_fits fs w

mutation_fits : (text : List ℕ) → AreBytes text → FitsMutation (mutation (fields 0 text))
mutation_fits text are =
    let fs = fields 0 text in
    let w = whole text are in
    record {
      key = bytes_fit 1 fs w;
      value = if_value (payloads 2 fs) (joined 2 fs) (joined_whole 2 fs w);
      kind = int32_fits (last_number 3 fs);
      expire_at_ms = int64_fits 4 fs w;
    }

enqueue_fits : (text : List ℕ) → AreBytes text → FitsEnqueue (enqueue (fields 0 text))
enqueue_fits text are =
    let fs = fields 0 text in
    let w = whole text are in
    record { payload = bytes_fit 1 fs w; deadline_ms = int64_fits 2 fs w; undelivered = texts_held 3 fs w; backoff = numbers_held 4 fs w }

each_fits : {X : Type 0} (P : X → Type 0) (read : List ℕ → X) (texts : List (List ℕ)) → ((text : List ℕ) → AreBytes text → P (read text)) → AllByRecursion AreBytes texts → AllByRecursion P (map read texts)
each_fits P read [] fits all = tt
each_fits P read (t ∷ ts) fits all = (fits t all.0, each_fits P read ts fits all.1)

held_fits : {X : Type 0} (P : X → Type 0) (read : List ℕ → X) (texts : List (List ℕ)) → ((text : List ℕ) → AreBytes text → P (read text)) → AreHeld AreBytes texts → AreHeld P (map read texts)
held_fits P read texts fits held = record { count = omega (arith, held.count, length-map texts read); each = each_fits P read texts fits held.each }

write_fits : (body : List ℕ) → AreBytes body → FitsWrite (atomic_write (fields 0 body))
write_fits body are =
    let fs = fields 0 body in
    let w = whole body are in
    record {
      checks = held_fits FitsCheck (λ text. check (fields 0 text)) (payloads 1 fs) check_fits (texts_held 1 fs w);
      mutations = held_fits FitsMutation (λ text. mutation (fields 0 text)) (payloads 2 fs) mutation_fits (texts_held 2 fs w);
      enqueues = held_fits FitsEnqueue (λ text. enqueue (fields 0 text)) (payloads 3 fs) enqueue_fits (texts_held 3 fs w);
    }

read_is : (place : Option ℕ) (w v : AtomicWrite) → unless_bad place w ≡ Ok v → w ≡ v
read_is None w v e = cc
read_is (Some p) w v e = absurd cc

pub reads_writes : ReadsWrites reads_atomic_write
reads_writes = record {
  fits = λ body w are read. subst FitsWrite (read_is (bad_atomic_write 0 body) (atomic_write (fields 0 body)) w read) (write_fits body are);
  again = λ w fits held. write_again w (numbers_fit w fits) (omega (arith, held));
}
