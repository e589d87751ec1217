-- What is written is read again: a field of bytes or of a number before other bytes, and numbers packed in a row.
use Rattle.std.proofs.Common.{◌≡◌, ℕ, ◌+◌, ◌*◌, ◌<◌, ◌≤◌, ◌-◌, List, [], ◌∷◌, ◌++◌, length, All, true, refl, sym, ap, subst, ◌∙◌, arith, length-append}
use Rattle.std.specs.Prelude.{flat_map}
use Rattle.std.proofs.lemmas.Bool.{ne_eqb}
use Rattle.std.proofs.lemmas.List.Elements.{All-tail}
use Rattle.dkv_base.specs.Protobuf.{varint, delimited, number_field}
pub use Rattle.dkv_wire.specs.Laws.{Before}
use Rattle.dkv_wire.specs.Wire.{Content, ALen, AVarint, IsFieldNumber, IsField}
use Rattle.dkv_wire.specs.FieldLists.{item_of, fields, bad, varints, are_varints}
use Rattle.dkv_wire.proofs.Fronts.{field_again, varint_again}
use Rattle.dkv_wire.proofs.Again.{spelled, bytes_again, number_again}
use Rattle.dkv_wire.proofs.Steps.{fields_found, bad_found, varints_found, varints_end, are_varints_found, are_varints_end}

span : (head rest : List ℕ) → length (head ++ rest) - length rest ≡ length head
span head rest = omega (arith, length-append head rest)

before : (at number : ℕ) (held : Content) (head rest : List ℕ) → IsField head number held → Before at number held head rest
before at number held head rest is =
    let found = field_again head rest number held is in
    record {
      fields = fields_found at (head ++ rest) number held rest found ∙ ap (λ (k : ℕ). item_of at (at + k) (number, held, rest) ∷ fields (at + k) rest) (span head rest);
      bad = bad_found at (head ++ rest) number held rest found ∙ ap (λ (k : ℕ). bad (at + k) rest) (span head rest);
    }

-- a payload that is written before other bytes is read again
pub before_delimited : (at number : ℕ) (bytes rest : List ℕ) → IsFieldNumber number → length bytes < 18446744073709551616 → Before at number (ALen bytes) (delimited number bytes) rest
before_delimited at number bytes rest is long = before at number (ALen bytes) (delimited number bytes) rest (bytes_again number bytes is long)

-- a number that is written before other bytes is read again
pub before_number : (at number n : ℕ) (rest : List ℕ) → IsFieldNumber number → n < 18446744073709551616 → Before at number (AVarint n) (varint (number * 8) ++ varint n) rest
before_number at number n rest is lt = before at number (AVarint n) (varint (number * 8) ++ varint n) rest (number_again number n is lt)

some_number : (number n : ℕ) → 1 ≤ n → number_field number n ≡ varint (number * 8) ++ varint n
some_number number n some = rw (ne_eqb n 0 (λ e. omega (arith, e, some))) refl

-- the same of a field of a number that is not 0
pub before_number_field : (at number n : ℕ) (rest : List ℕ) → IsFieldNumber number → 1 ≤ n → n < 18446744073709551616 → Before at number (AVarint n) (number_field number n) rest
before_number_field at number n rest is some lt = subst (λ (l : List ℕ). Before at number (AVarint n) l rest) (sym (some_number number n some)) (before_number at number n rest is lt)

-- ---- packed numbers

-- a packed number before others is read again
pub varints_again : (n : ℕ) (rest : List ℕ) → n < 18446744073709551616 → varints (varint n ++ rest) ≡ n ∷ varints rest
varints_again n rest lt = varints_found (varint n ++ rest) n rest (varint_again (varint n) rest n (spelled n lt))

-- a packed number before others is whole
pub are_varints_again : (n : ℕ) (rest : List ℕ) → n < 18446744073709551616 → are_varints (varint n ++ rest) ≡ are_varints rest
are_varints_again n rest lt = are_varints_found (varint n ++ rest) n rest (varint_again (varint n) rest n (spelled n lt))

-- numbers in a row are read again, all of the bytes
pub all_varints : (ns : List ℕ) → All (λ n. n < 18446744073709551616) ns → (varints (flat_map varint ns) ≡ ns) × (are_varints (flat_map varint ns) ≡ true)
all_varints [] fit = (varints_end, are_varints_end)
all_varints (n ∷ ns) fit =
    let rest = all_varints ns (All-tail (λ k. k < 18446744073709551616) n ns fit) in
    let first : n < 18446744073709551616 = fit 0 n (omega arith) in
    (varints_again n (flat_map varint ns) first ∙ ap (λ (l : List ℕ). n ∷ l) rest.0, are_varints_again n (flat_map varint ns) first ∙ rest.1)
