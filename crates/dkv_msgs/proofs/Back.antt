-- A field that was written is read back.
use Rattle.std.proofs.Common.{◌≡◌, ℕ, suc, ◌-◌, ◌^◌, ◌%◌, ◌<◌, Bool, true, false, cond, eqb, List, [], ◌∷◌, ◌++◌, length, map, Option, Some, None, refl, sym, ap, subst, ◌∙◌, arith}
use Rattle.std.specs.Prelude.{ℤ, pos, negsuc, FitsSigned}
use Rattle.std.specs.List.{flat_map, AllByRecursion}
use Rattle.std.specs.Option.{option_map_or}
use Rattle.std.specs.Int.{w32, w64, cast_signed}
use Rattle.std.proofs.lemmas.Bool.{eqb-true}
use Rattle.std.proofs.lemmas.Int.{ints, to_z-of_z}
use Rattle.std.proofs.lemmas.List.{append-nil}
use Rattle.dkv_base.specs.Protobuf.{varint, delimited, unsigned, flag}
use Rattle.dkv_wire.specs.Wire.{Item, Content, AVarint, AFixed64, ALen, AFixed32, IsFieldNumber}
use Rattle.dkv_wire.specs.FieldLists.{fields, varints, are_varints, are_varints_in}
use Rattle.dkv_wire.proofs.Written.{varints_again, are_varints_again}
use Rattle.dkv_wire.proofs.Steps.{varints_end}
use Rattle.dkv_msgs.specs.ByField.{number_in, bytes_in, numbers_in, payloads, last_or, last_number, last_bytes, numbers, int32, int64, uint32, truth}
use Rattle.dkv_msgs.specs.Messages.{each_of, if_given, one_of}
use Rattle.dkv_msgs.specs.Places.{earlier, look_in, in_fields, embedded, packed}
use Rattle.dkv_msgs.proofs.Shown.{Shows, Shown, nothing_shown, bytes_content, number_content, delimited_shown, picked, held_by_shown}

-- ---- numbers

pub int32_back : (z : ℤ) → FitsSigned w32 z → int32 (unsigned z) ≡ z
int32_back (pos n) fits = omega (arith, ints, fits)
int32_back (negsuc n) fits =
    let e : (2 ^ 64 - 1 - n) % 2 ^ 32 ≡ 2 ^ 32 - suc n = omega (arith, fits.sfits) in
    ap (cast_signed w32) e ∙ to_z-of_z w32 (negsuc n) fits

pub int64_back : (z : ℤ) → FitsSigned w64 z → int64 (unsigned z) ≡ z
int64_back (pos n) fits = omega (arith, ints, fits)
int64_back (negsuc n) fits =
    let e : 2 ^ 64 - 1 - n ≡ 2 ^ 64 - suc n = omega (arith, fits.sfits) in
    ap (cast_signed w64) e ∙ to_z-of_z w64 (negsuc n) fits

pub unsigned32 : (z : ℤ) → FitsSigned w32 z → unsigned z < 18446744073709551616
unsigned32 (pos n) fits = omega (arith, ints, fits)
unsigned32 (negsuc n) fits = omega arith

pub unsigned64 : (z : ℤ) → FitsSigned w64 z → unsigned z < 18446744073709551616
unsigned64 (pos n) fits = omega (arith, ints, fits)
unsigned64 (negsuc n) fits = omega arith

pub flag_small : (b : Bool) → flag b < 18446744073709551616
flag_small true = omega arith
flag_small false = omega arith

pub truth_back : (b : Bool) → truth (flag b) ≡ b
truth_back true = refl
truth_back false = refl

pub uint32_back : (ns : List ℕ) → AllByRecursion (λ n. n < 2 ^ 32) ns → map uint32 ns ≡ ns
uint32_back [] fits = refl
uint32_back (n ∷ ns) fits =
    let e : n % 2 ^ 32 ≡ n = omega (arith, fits.0) in
    ap (λ (m : ℕ). m ∷ map uint32 ns) e ∙ ap (λ (l : List ℕ). n ∷ l) (uint32_back ns fits.1)

-- ---- singular fields

bytes_last : (b : List ℕ) → last_or [] (flat_map bytes_in (bytes_content b) ++ []) ≡ b
bytes_last [] = refl
bytes_last (b ∷ bs) = refl

pub bytes_back : (k at : ℕ) (bytes : List ℕ) (gs : List (ℕ × List Content)) (b : List ℕ) → Shows bytes gs → picked bytes_in k gs ≡ flat_map bytes_in (bytes_content b) ++ [] → last_bytes k (fields at bytes) ≡ b
bytes_back k at bytes gs b x is = ap (last_or []) (held_by_shown bytes_in k at bytes gs x ∙ is) ∙ bytes_last b

number_last : (b : Bool) (n : ℕ) → eqb n 0 ≡ b → last_or 0 (flat_map number_in (cond b [] (AVarint n ∷ [])) ++ []) ≡ n
number_last true n is = sym (eqb-true n 0 is)
number_last false n is = refl

pub number_back : (k at : ℕ) (bytes : List ℕ) (gs : List (ℕ × List Content)) (n : ℕ) → Shows bytes gs → picked number_in k gs ≡ flat_map number_in (number_content n) ++ [] → last_number k (fields at bytes) ≡ n
number_back k at bytes gs n x is = ap (last_or 0) (held_by_shown number_in k at bytes gs x ∙ is) ∙ number_last (eqb n 0) n refl

-- ---- packed numbers

are_varints_end : are_varints [] ≡ true
unfolding are_varints_in
are_varints_end = refl

pub varints_back : (ns : List ℕ) → AllByRecursion (λ n. n < 2 ^ 32) ns → varints (flat_map varint ns) ≡ ns
varints_back [] fits = varints_end
varints_back (n ∷ ns) fits = varints_again n (flat_map varint ns) (omega (arith, fits.0)) ∙ ap (λ (l : List ℕ). n ∷ l) (varints_back ns fits.1)

pub are_varints_back : (ns : List ℕ) → AllByRecursion (λ n. n < 2 ^ 32) ns → are_varints (flat_map varint ns) ≡ true
are_varints_back [] fits = are_varints_end
are_varints_back (n ∷ ns) fits = are_varints_again n (flat_map varint ns) (omega (arith, fits.0)) ∙ are_varints_back ns fits.1

packed_last : (b : List ℕ) → flat_map numbers_in (bytes_content b) ++ [] ≡ varints b
packed_last [] = sym varints_end
packed_last (b ∷ bs) = append-nil (varints (b ∷ bs) ++ []) ∙ append-nil (varints (b ∷ bs))

pub numbers_back : (k at : ℕ) (bytes : List ℕ) (gs : List (ℕ × List Content)) (ns : List ℕ) → Shows bytes gs → picked numbers_in k gs ≡ flat_map numbers_in (bytes_content (flat_map varint ns)) ++ []
    → AllByRecursion (λ n. n < 2 ^ 32) ns → map uint32 (numbers k (fields at bytes)) ≡ ns
numbers_back k at bytes gs ns x is fits = ap (map uint32) (held_by_shown numbers_in k at bytes gs x ∙ is ∙ packed_last (flat_map varint ns) ∙ varints_back ns fits) ∙ uint32_back ns fits

-- ---- payloads

-- at every place
abbrev pub Good : (ℕ → ℕ → List ℕ → Option ℕ) → List ℕ → Type 0
Good look text = (at place : ℕ) → look at place text ≡ None

first_good : (b : Bool) (look : ℕ → ℕ → List ℕ → Option ℕ) (f : Item) (c : Content) (texts : List (List ℕ)) → AllByRecursion (Good look) (cond b (bytes_in c) [] ++ texts)
    → (cond b (look_in look f c) None ≡ None) × AllByRecursion (Good look) texts
first_good true look f (AVarint n) texts all = (refl, all)
first_good true look f (AFixed64 n) texts all = (refl, all)
first_good true look f (ALen text) texts all = (all.0 f.at (f.end - length text), all.1)
first_good true look f (AFixed32 n) texts all = (refl, all)
first_good false look f c texts all = (refl, all)

in_fields_good : (k : ℕ) (look : ℕ → ℕ → List ℕ → Option ℕ) (fs : List Item) → AllByRecursion (Good look) (payloads k fs) → in_fields k look fs ≡ None
in_fields_good k look [] all = refl
in_fields_good k look (f ∷ fs) all =
    let first = first_good (eqb f.number k) look f f.content (payloads k fs) all in
    ap (λ (a : Option ℕ). earlier a (in_fields k look fs)) first.0 ∙ ap (earlier None) (in_fields_good k look fs first.1)

pub good_back : (k at : ℕ) (look : ℕ → ℕ → List ℕ → Option ℕ) (bytes : List ℕ) (gs : List (ℕ × List Content)) → Shows bytes gs → AllByRecursion (Good look) (picked bytes_in k gs) → in_fields k look (fields at bytes) ≡ None
good_back k at look bytes gs x all = in_fields_good k look (fields at bytes) (subst (AllByRecursion (Good look)) (sym (held_by_shown bytes_in k at bytes gs x)) all)

packed_good : (b : List ℕ) → are_varints b ≡ true → AllByRecursion (Good packed) (flat_map bytes_in (bytes_content b) ++ [])
packed_good [] are = tt
packed_good (b ∷ bs) are = (λ at place. ap (λ (t : Bool). cond t None (Some at)) are, tt)

pub packed_back : (k at : ℕ) (bytes : List ℕ) (gs : List (ℕ × List Content)) (ns : List ℕ) → Shows bytes gs → picked bytes_in k gs ≡ flat_map bytes_in (bytes_content (flat_map varint ns)) ++ []
    → AllByRecursion (λ n. n < 2 ^ 32) ns → in_fields k packed (fields at bytes) ≡ None
packed_back k at bytes gs ns x is fits = good_back k at packed bytes gs x (subst (AllByRecursion (Good packed)) (sym is) (packed_good (flat_map varint ns) (are_varints_back ns fits)))

texts_back : {X : Type 0} (f : X → List ℕ) (xs : List X) → flat_map bytes_in (map (λ x. ALen (f x)) xs) ++ [] ≡ map f xs
texts_back f [] = refl
texts_back f (x ∷ xs) = ap (λ (l : List (List ℕ)). f x ∷ l) (texts_back f xs)

pub payloads_back : (k at : ℕ) (bytes : List ℕ) (gs : List (ℕ × List Content)) (texts : List (List ℕ)) → Shows bytes gs → picked bytes_in k gs ≡ flat_map bytes_in (map (λ text. ALen text) texts) ++ [] → payloads k (fields at bytes) ≡ texts
payloads_back k at bytes gs texts x is = held_by_shown bytes_in k at bytes gs x ∙ is ∙ texts_back (λ text. text) texts ∙ map_same texts
  where
    map_same : (ts : List (List ℕ)) → map (λ text. text) ts ≡ ts
    map_same [] = refl
    map_same (t ∷ ts) = ap (λ (l : List (List ℕ)). t ∷ l) (map_same ts)

-- ---- embedded messages

-- a message is read from its spelling, wherever that stands
pub record Back {M : Type 0} (spell : M → List ℕ) (read : List Item → M) (bad_message : ℕ → List ℕ → Option ℕ) (m : M) : Type 0 where
  pub message : (at : ℕ) → read (fields at (spell m)) ≡ m
  pub whole : (at : ℕ) → bad_message at (spell m) ≡ None

each_same : {M : Type 0} (spell : M → List ℕ) (read : List Item → M) (bad_message : ℕ → List ℕ → Option ℕ) (ms : List M) → AllByRecursion (Back spell read bad_message) ms → map (λ text. read (fields 0 text)) (map spell ms) ≡ ms
each_same spell read bad_message [] back = refl
each_same spell read bad_message (m ∷ ms) back =
    ap (λ x. x ∷ map (λ text. read (fields 0 text)) (map spell ms)) (back.0.message 0) ∙ ap (λ l. m ∷ l) (each_same spell read bad_message ms back.1)

each_good : {M : Type 0} (spell : M → List ℕ) (read : List Item → M) (bad_message : ℕ → List ℕ → Option ℕ) (ms : List M) → AllByRecursion (Back spell read bad_message) ms → AllByRecursion (Good (embedded bad_message)) (map spell ms)
each_good spell read bad_message [] back = tt
each_good spell read bad_message (m ∷ ms) back = (λ at place. back.0.whole place, each_good spell read bad_message ms back.1)

-- repeated messages
pub record ManyBack {M : Type 0} (read : List Item → M) (bad_message : ℕ → List ℕ → Option ℕ) (k : ℕ) (ms : List M) (fs : List Item) : Type 0 where
  pub messages : each_of read k fs ≡ ms
  pub whole : in_fields k (embedded bad_message) fs ≡ None

pub many_back : {M : Type 0} (spell : M → List ℕ) (read : List Item → M) (bad_message : ℕ → List ℕ → Option ℕ) (k at : ℕ) (bytes : List ℕ) (gs : List (ℕ × List Content)) (ms : List M) → Shows bytes gs
    → picked bytes_in k gs ≡ flat_map bytes_in (map (λ m. ALen (spell m)) ms) ++ [] → AllByRecursion (Back spell read bad_message) ms → ManyBack read bad_message k ms (fields at bytes)
many_back spell read bad_message k at bytes gs ms x is back =
    let texts : picked bytes_in k gs ≡ map spell ms = is ∙ texts_back spell ms in
    record {
      messages = ap (map (λ text. read (fields 0 text))) (held_by_shown bytes_in k at bytes gs x ∙ texts) ∙ each_same spell read bad_message ms back;
      whole = good_back k at (embedded bad_message) bytes gs x (subst (AllByRecursion (Good (embedded bad_message))) (sym texts) (each_good spell read bad_message ms back));
    }

-- a message that may be missing
abbrev pub option_content : {M : Type 0} → (M → List ℕ) → Option M → List Content
option_content spell None = []
option_content spell (Some m) = ALen (spell m) ∷ []

abbrev pub OptionBack : {M : Type 0} → (M → List ℕ) → (List Item → M) → (ℕ → List ℕ → Option ℕ) → Option M → Type 0
OptionBack spell read bad_message None = Unit {0}
OptionBack spell read bad_message (Some m) = Back spell read bad_message m

pub option_shown : {M : Type 0} (spell : M → List ℕ) (k : ℕ) (o : Option M) → IsFieldNumber k → Shown (option_map_or (λ m. delimited k (spell m)) o []) ((k, option_content spell o) ∷ [])
option_shown spell k None is lt = nothing_shown k
option_shown spell k (Some m) is lt = delimited_shown k (spell m) is lt

pub record OneBack {M : Type 0} (read : List Item → M) (bad_message : ℕ → List ℕ → Option ℕ) (k : ℕ) (o : Option M) (fs : List Item) : Type 0 where
  pub message : one_of read k fs ≡ o
  pub whole : in_fields k (embedded bad_message) fs ≡ None

one_same : {M : Type 0} (spell : M → List ℕ) (read : List Item → M) (bad_message : ℕ → List ℕ → Option ℕ) (o : Option M) (texts : List (List ℕ)) → texts ≡ flat_map bytes_in (option_content spell o) ++ []
    → OptionBack spell read bad_message o → if_given texts (read (flat_map (λ text. fields 0 text) texts)) ≡ o
one_same spell read bad_message None texts is back = ap (λ (ts : List (List ℕ)). if_given ts (read (flat_map (λ text. fields 0 text) ts))) is
one_same spell read bad_message (Some m) texts is back =
    ap (λ (ts : List (List ℕ)). if_given ts (read (flat_map (λ text. fields 0 text) ts))) is
    ∙ ap (λ (fs : List Item). Some (read fs)) (append-nil (fields 0 (spell m)))
    ∙ ap (λ m. Some m) (back.message 0)

one_good : {M : Type 0} (spell : M → List ℕ) (read : List Item → M) (bad_message : ℕ → List ℕ → Option ℕ) (o : Option M) → OptionBack spell read bad_message o → AllByRecursion (Good (embedded bad_message)) (flat_map bytes_in (option_content spell o) ++ [])
one_good spell read bad_message None back = tt
one_good spell read bad_message (Some m) back = (λ at place. back.whole place, tt)

pub one_back : {M : Type 0} (spell : M → List ℕ) (read : List Item → M) (bad_message : ℕ → List ℕ → Option ℕ) (k at : ℕ) (bytes : List ℕ) (gs : List (ℕ × List Content)) (o : Option M) → Shows bytes gs
    → picked bytes_in k gs ≡ flat_map bytes_in (option_content spell o) ++ [] → OptionBack spell read bad_message o → OneBack read bad_message k o (fields at bytes)
one_back spell read bad_message k at bytes gs o x is back = record {
  message = one_same spell read bad_message o (payloads k (fields at bytes)) (held_by_shown bytes_in k at bytes gs x ∙ is) back;
  whole = good_back k at (embedded bad_message) bytes gs x (subst (AllByRecursion (Good (embedded bad_message))) (sym is) (one_good spell read bad_message o back));
}
