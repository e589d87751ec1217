-- The field list, one field after another.
use Rattle.std.proofs.Common.{◌≡◌, ℕ, zero, suc, ◌+◌, ◌*◌, ◌-◌, ◌<◌, ◌≤◌, List, [], ◌∷◌, length, true, false, eqb, Option, Some, None, refl, sym, ap, ◌∙◌, arith, length-append}
use Rattle.std.specs.Option.{option_map_or}
use Rattle.std.proofs.lemmas.Bool.{ne_eqb}
use Rattle.dkv_wire.specs.Wire.{Item, Content, ALen, IsField, Walk, Begins, IsVarint, IsVarintIn}
use Rattle.dkv_wire.specs.Reading.{varint_at, field_at, varint_in}
use Rattle.dkv_wire.specs.Steps.{to_come, bad_of, BeginsNumber, NoNumber}
use Rattle.dkv_wire.specs.FieldLists.{item_of, fields_in, fields, bad_in, bad, varints_in, varints, are_varints_in, are_varints}
use Rattle.dkv_wire.proofs.Fronts.{field_found, varint_found, varint_again}

-- two functions that agree on what is there
agree : {X Y : Type 0} (r : Option X) (f g : X → Y) (y : Y) → ((x : X) → r ≡ Some x → f x ≡ g x) → option_map_or f r y ≡ option_map_or g r y
agree None f g y same = refl
agree (Some x) f g y same = same x refl

none_is : {A : Type 0} (x : A) → (let r : Option A = None in r ≡ Some x) → ⊥
none_is x e = absurd cc

-- what stands behind a field is shorter
pub field_shorter : (bytes : List ℕ) (found : ℕ × Content × List ℕ) → field_at bytes ≡ Some found → length found.2 < length bytes
field_shorter bytes found e =
    let front = field_found bytes found.0 found.1 found.2 e in
    omega (arith, ap length front.split, length-append front.head found.2, front.some)

one_byte : (head : List ℕ) (n : ℕ) → IsVarint head n → 1 ≤ length head
unfolding IsVarint IsVarintIn
one_byte [] n is = absurd is
one_byte (b ∷ head) n is = omega arith

-- what stands behind a number is shorter
pub varint_shorter : (bytes : List ℕ) (found : ℕ × List ℕ) → varint_at bytes ≡ Some found → length found.1 < length bytes
varint_shorter bytes found e =
    let front = varint_found bytes found.0 found.1 e in
    omega (arith, ap length front.1, length-append front.0 found.1, one_byte front.0 found.0 front.2)

no_field_here : field_at [] ≡ None
unfolding field_at varint_at varint_in
no_field_here = refl

no_varint_here : varint_at [] ≡ None
unfolding varint_at varint_in
no_varint_here = refl

-- ---- any number of fields from the bytes' length on gives the same

no_fields_in : (more at : ℕ) (bytes : List ℕ) → length bytes ≤ 0 → fields_in more at bytes ≡ []
unfolding fields_in
no_fields_in zero at bytes le = refl
no_fields_in (suc more) at [] le = rw no_field_here refl
no_fields_in (suc more) at (b ∷ bytes) le = absurd (omega (arith, le))

pub same_fields : (more other at : ℕ) (bytes : List ℕ) → length bytes ≤ more → length bytes ≤ other → fields_in more at bytes ≡ fields_in other at bytes
unfolding fields_in
same_fields zero other at bytes le le' = sym (no_fields_in other at bytes le)
same_fields (suc more) zero at bytes le le' = no_fields_in (suc more) at bytes le'
same_fields (suc more) (suc other) at bytes le le' =
    agree (field_at bytes) (λ found. item_of at (at + (length bytes - length found.2)) found ∷ fields_in more (at + (length bytes - length found.2)) found.2) (λ found. item_of at (at + (length bytes - length found.2)) found ∷ fields_in other (at + (length bytes - length found.2)) found.2) []
    (λ found e. ap (λ (fs : List Item). item_of at (at + (length bytes - length found.2)) found ∷ fs) (same_fields more other (at + (length bytes - length found.2)) found.2 (omega (arith, field_shorter bytes found e, le)) (omega (arith, field_shorter bytes found e, le'))))

pub same_bad : (more other at : ℕ) (bytes : List ℕ) → length bytes ≤ more → length bytes ≤ other → bad_in more at bytes ≡ bad_in other at bytes
unfolding bad_in
same_bad zero zero at bytes le le' = refl
same_bad zero (suc other) at [] le le' = refl
same_bad zero (suc other) at (b ∷ bytes) le le' = absurd (omega (arith, le))
same_bad (suc more) zero at [] le le' = refl
same_bad (suc more) zero at (b ∷ bytes) le le' = absurd (omega (arith, le'))
same_bad (suc more) (suc other) at [] le le' = refl
same_bad (suc more) (suc other) at (b ∷ bytes) le le' =
    agree (field_at (b ∷ bytes)) (λ found. bad_in more (at + (length (b ∷ bytes) - length found.2)) found.2) (λ found. bad_in other (at + (length (b ∷ bytes) - length found.2)) found.2) (Some at)
    (λ found e. same_bad more other (at + (length (b ∷ bytes) - length found.2)) found.2 (omega (arith, field_shorter (b ∷ bytes) found e, le)) (omega (arith, field_shorter (b ∷ bytes) found e, le')))

no_varints_in : (more : ℕ) (bytes : List ℕ) → length bytes ≤ 0 → varints_in more bytes ≡ []
unfolding varints_in
no_varints_in zero bytes le = refl
no_varints_in (suc more) [] le = rw no_varint_here refl
no_varints_in (suc more) (b ∷ bytes) le = absurd (omega (arith, le))

pub same_varints : (more other : ℕ) (bytes : List ℕ) → length bytes ≤ more → length bytes ≤ other → varints_in more bytes ≡ varints_in other bytes
unfolding varints_in
same_varints zero other bytes le le' = sym (no_varints_in other bytes le)
same_varints (suc more) zero bytes le le' = no_varints_in (suc more) bytes le'
same_varints (suc more) (suc other) bytes le le' =
    agree (varint_at bytes) (λ found. found.0 ∷ varints_in more found.1) (λ found. found.0 ∷ varints_in other found.1) []
    (λ found e. ap (λ (ns : List ℕ). found.0 ∷ ns) (same_varints more other found.1 (omega (arith, varint_shorter bytes found e, le)) (omega (arith, varint_shorter bytes found e, le'))))

pub same_are_varints : (more other : ℕ) (bytes : List ℕ) → length bytes ≤ more → length bytes ≤ other → are_varints_in more bytes ≡ are_varints_in other bytes
unfolding are_varints_in
same_are_varints zero zero bytes le le' = refl
same_are_varints zero (suc other) [] le le' = refl
same_are_varints zero (suc other) (b ∷ bytes) le le' = absurd (omega (arith, le))
same_are_varints (suc more) zero [] le le' = refl
same_are_varints (suc more) zero (b ∷ bytes) le le' = absurd (omega (arith, le'))
same_are_varints (suc more) (suc other) [] le le' = refl
same_are_varints (suc more) (suc other) (b ∷ bytes) le le' =
    agree (varint_at (b ∷ bytes)) (λ found. are_varints_in more found.1) (λ found. are_varints_in other found.1) false
    (λ found e. same_are_varints more other found.1 (omega (arith, varint_shorter (b ∷ bytes) found e, le)) (omega (arith, varint_shorter (b ∷ bytes) found e, le')))

-- ---- the first field and those behind it

-- a field that is found at the front is the first of the list, and the others stand behind it
pub fields_found : (at : ℕ) (bytes : List ℕ) (number : ℕ) (held : Content) (rest : List ℕ) → field_at bytes ≡ Some (number, held, rest)
    → fields at bytes ≡ item_of at (at + (length bytes - length rest)) (number, held, rest) ∷ fields (at + (length bytes - length rest)) rest
unfolding fields_in
fields_found at bytes number held rest e =
    let shorter = field_shorter bytes (number, held, rest) e in
    same_fields (length bytes) (suc (length bytes)) at bytes (omega arith) (omega arith)
    ∙ rw e (ap (λ (fs : List Item). item_of at (at + (length bytes - length rest)) (number, held, rest) ∷ fs) (same_fields (length bytes) (length rest) (at + (length bytes - length rest)) rest (omega (arith, shorter)) (omega arith)))

-- where none is found the list is empty
pub fields_none : (at : ℕ) (bytes : List ℕ) → field_at bytes ≡ None → fields at bytes ≡ []
unfolding fields_in
fields_none at bytes e = same_fields (length bytes) (suc (length bytes)) at bytes (omega arith) (omega arith) ∙ rw e refl

-- a field at the front plays no part in where the bytes are bad
pub bad_found : (at : ℕ) (bytes : List ℕ) (number : ℕ) (held : Content) (rest : List ℕ) → field_at bytes ≡ Some (number, held, rest) → bad at bytes ≡ bad (at + (length bytes - length rest)) rest
unfolding bad_in
bad_found at [] number held rest e = absurd (omega (arith, field_shorter [] (number, held, rest) e))
bad_found at (b ∷ bytes) number held rest e =
    let shorter = field_shorter (b ∷ bytes) (number, held, rest) e in
    let n = length (b ∷ bytes) in
    same_bad n (suc n) at (b ∷ bytes) (omega arith) (omega arith)
    ∙ rw e (same_bad n (length rest) (at + (n - length rest)) rest (omega (arith, shorter)) (omega arith))

-- where none is found before the end the bytes are bad at once
pub bad_none : (at : ℕ) (bytes : List ℕ) → 1 ≤ length bytes → field_at bytes ≡ None → bad at bytes ≡ Some at
unfolding bad_in
bad_none at [] some e = absurd (omega (arith, some))
bad_none at (b ∷ bytes) some e =
    let n = length (b ∷ bytes) in
    same_bad n (suc n) at (b ∷ bytes) (omega arith) (omega arith) ∙ rw e refl

-- no bytes are bad nowhere
pub bad_end : (at : ℕ) → bad at [] ≡ None
unfolding bad_in
bad_end at = refl

-- no bytes have no fields
pub fields_end : (at : ℕ) → fields at [] ≡ []
fields_end at = fields_none at [] no_field_here

-- a number that is found at the front is the first of the packed ones, and the others stand behind it
pub varints_found : (bytes : List ℕ) (n : ℕ) (rest : List ℕ) → varint_at bytes ≡ Some (n, rest) → varints bytes ≡ n ∷ varints rest
unfolding varints_in
varints_found bytes n rest e =
    let shorter = varint_shorter bytes (n, rest) e in
    same_varints (length bytes) (suc (length bytes)) bytes (omega arith) (omega arith) ∙ rw e (ap (λ (ns : List ℕ). n ∷ ns) (same_varints (length bytes) (length rest) rest (omega (arith, shorter)) (omega arith)))

-- where none is found there are no packed numbers
pub varints_none : (bytes : List ℕ) → varint_at bytes ≡ None → varints bytes ≡ []
unfolding varints_in
varints_none bytes e = same_varints (length bytes) (suc (length bytes)) bytes (omega arith) (omega arith) ∙ rw e refl

-- no bytes have no packed numbers
pub varints_end : varints [] ≡ []
varints_end = varints_none [] no_varint_here

-- no bytes are whole numbers
pub are_varints_end : are_varints [] ≡ true
unfolding are_varints_in
are_varints_end = refl

-- a number at the front plays no part in whether the bytes are whole numbers
pub are_varints_found : (bytes : List ℕ) (n : ℕ) (rest : List ℕ) → varint_at bytes ≡ Some (n, rest) → are_varints bytes ≡ are_varints rest
unfolding are_varints_in
are_varints_found [] n rest e = absurd (omega (arith, varint_shorter [] (n, rest) e))
are_varints_found (b ∷ bytes) n rest e =
    let shorter = varint_shorter (b ∷ bytes) (n, rest) e in
    let m = length (b ∷ bytes) in
    same_are_varints m (suc m) (b ∷ bytes) (omega arith) (omega arith) ∙ rw e (same_are_varints m (length rest) rest (omega (arith, shorter)) (omega arith))

-- where none is found before the end the bytes are not whole numbers
pub are_varints_none : (bytes : List ℕ) → 1 ≤ length bytes → varint_at bytes ≡ None → are_varints bytes ≡ false
unfolding are_varints_in
are_varints_none [] some e = absurd (omega (arith, some))
are_varints_none (b ∷ bytes) some e =
    let m = length (b ∷ bytes) in
    same_are_varints m (suc m) (b ∷ bytes) (omega arith) (omega arith) ∙ rw e refl

-- ---- what one step of the code finds

-- a field that is found at the front begins the bytes
pub begins : (place : ℕ) (bytes : List ℕ) (number : ℕ) (held : Content) (rest : List ℕ) → field_at bytes ≡ Some (number, held, rest)
    → Begins (record { bytes = bytes; place = place }) (record { bytes = rest; place = place + (length bytes - length rest) }) number held
begins place bytes number held rest e =
    let front = field_found bytes number held rest e in
    record {
      head = front.head;
      split = front.split;
      is = front.is;
      behind = omega (arith, ap length front.split, length-append front.head rest);
    }

-- at the end no field comes, and no place is bad
pub steps_end : (w : Walk) → length w.bytes ≡ 0 → (to_come w ≡ []) × (bad_of w ≡ None)
steps_end w none = at_end w.place w.bytes none
  where
    at_end : (place : ℕ) (bytes : List ℕ) → length bytes ≡ 0 → (fields place bytes ≡ []) × (bad place bytes ≡ None)
    at_end place [] none = (fields_end place, bad_end place)
    at_end place (b ∷ bytes) none = absurd (omega (arith, none))

-- where none is found before the end no field comes, and this place is bad
pub steps_none : (w : Walk) → 1 ≤ length w.bytes → field_at w.bytes ≡ None → (to_come w ≡ []) × (bad_of w ≡ Some w.place)
steps_none w some e = (fields_none w.place w.bytes e, bad_none w.place w.bytes some e)

-- a number that is found at the front begins the bytes
pub begins_number : (bytes : List ℕ) (n : ℕ) (rest : List ℕ) → varint_at bytes ≡ Some (n, rest) → BeginsNumber bytes rest n
begins_number bytes n rest e =
    let front = varint_found bytes n rest e in
    record { head = front.0; split = front.1; is = front.2; numbers = varints_found bytes n rest e; whole = are_varints_found bytes n rest e; fewer = varint_shorter bytes (n, rest) e }

whole_if_none : (bytes : List ℕ) → varint_at bytes ≡ None → are_varints bytes ≡ eqb (length bytes) 0
unfolding are_varints_in
whole_if_none [] e = refl
whole_if_none (b ∷ bytes) e = are_varints_none (b ∷ bytes) (omega arith) e ∙ sym (ne_eqb (length (b ∷ bytes)) 0 (λ e. omega (arith, e)))

-- where none is found no number begins the bytes
pub no_number : (bytes : List ℕ) → varint_at bytes ≡ None → NoNumber bytes bytes
no_number bytes e = record {
  stays = refl;
  none = λ head rest n split is. none_is (n, rest) (sym e ∙ ap varint_at split ∙ varint_again head rest n is);
  numbers = varints_none bytes e;
  whole = whole_if_none bytes e;
}

-- ---- what a field at the front says of lengths and places

-- the place behind all of the bytes stays the same
pub whole_stays : (old new : Walk) (number : ℕ) (held : Content) → Begins old new number held → new.place + length new.bytes ≡ old.place + length old.bytes
whole_stays old new number held b = omega (arith, ap length b.split, length-append b.head new.bytes, b.behind)

payload_in : (head : List ℕ) (number : ℕ) (text : List ℕ) → IsField head number (ALen text) → length text < length head
payload_in head number text is =
    let body = is.is_body in
    omega (arith, ap length is.split, length-append is.tag is.body, one_byte is.tag (number * 8 + is.wire) is.is_tag, ap length body.3, length-append body.1 text)

-- a payload ends before the next field begins
pub payload_inside : (old new : Walk) (number : ℕ) (text : List ℕ) → Begins old new number (ALen text) → old.place + length text < new.place
payload_inside old new number text b = omega (arith, payload_in b.head number text b.is, b.behind)
