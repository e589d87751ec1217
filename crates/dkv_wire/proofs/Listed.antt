-- The field list as a function is the relation's.
use Rattle.std.proofs.Common.{◌≡◌, ℕ, zero, suc, ◌+◌, ◌-◌, ◌≤◌, List, [], ◌∷◌, ◌++◌, length, Option, Some, None, refl, sym, ap, subst, ◌∙◌, arith, append_assoc, length-append}
use Rattle.dkv_wire.specs.Wire.{Item, Content, AreFields}
use Rattle.dkv_wire.specs.Reading.{field_at}
use Rattle.dkv_wire.specs.FieldLists.{item_of, fields, bad}
use Rattle.dkv_wire.specs.Laws.{StopsAt}
use Rattle.dkv_wire.proofs.Fronts.{Front, field_found, field_again, no_field}
use Rattle.dkv_wire.proofs.OneList.{one_list}
use Rattle.dkv_wire.proofs.Steps.{field_shorter, fields_found, fields_none, fields_end, bad_found, bad_none, bad_end}

none_is : {A : Type 0} (x : A) → (let r : Option A = None in r ≡ Some x) → ⊥
none_is x e = absurd cc

some_is : (a b : ℕ) → (let r : Option ℕ = Some a in r ≡ Some b) → a ≡ b
some_is a b e = cc

-- one field more before fields
one_more : (at : ℕ) (bytes : List ℕ) (number : ℕ) (held : Content) (rest : List ℕ) (items : List Item) → Front bytes number held rest → AreFields (at + (length bytes - length rest)) rest items
    → AreFields at bytes (item_of at (at + (length bytes - length rest)) (number, held, rest) ∷ items)
one_more at bytes number held rest items front are =
    let span : at + (length bytes - length rest) ≡ at + length front.head = omega (arith, ap length front.split, length-append front.head rest) in
    (front.head, rest, front.split, refl, span, front.is, subst (λ (k : ℕ). AreFields k rest items) span are)

pub are_listed : (more at : ℕ) (bytes : List ℕ) → length bytes ≤ more → bad at bytes ≡ None → AreFields at bytes (fields at bytes)
are_listed more at [] le whole = subst (λ (fs : List Item). AreFields at [] fs) (sym (fields_end at)) refl
are_listed zero at (b ∷ bytes) le whole = absurd (omega (arith, le))
are_listed (suc more) at (b ∷ bytes) le whole =
    let all = b ∷ bytes in
    elim (field_at all) as (λ r. field_at all ≡ r → AreFields at all (fields at all)) [
      | None ↦ λ e. absurd (none_is at (sym whole ∙ bad_none at all (omega arith) e))
      | Some found ↦ λ e.
          let end = at + (length all - length found.2) in
          let others = are_listed more end found.2 (omega (arith, field_shorter all found e, le)) (sym (bad_found at all found.0 found.1 found.2 e) ∙ whole) in
          subst (λ (fs : List Item). AreFields at all fs) (sym (fields_found at all found.0 found.1 found.2 e)) (one_more at all found.0 found.1 found.2 (fields end found.2) (field_found all found.0 found.1 found.2 e) others)
    ] refl

-- bytes that are fields have no bad place
none_bad : (at : ℕ) (bytes : List ℕ) (items : List Item) → AreFields at bytes items → bad at bytes ≡ None
none_bad at bytes [] are = ap (bad at) are ∙ bad_end at
none_bad at bytes (i ∷ items) are =
    let found = field_again are.0 are.1 i.number i.content are.5 in
    let span : at + (length (are.0 ++ are.1) - length are.1) ≡ at + length are.0 = omega (arith, length-append are.0 are.1) in
    ap (bad at) are.2 ∙ bad_found at (are.0 ++ are.1) i.number i.content are.1 found ∙ ap (λ (k : ℕ). bad k are.1) span ∙ none_bad (at + length are.0) are.1 items are.6

-- bytes that are these fields have no bad place, and this list
pub is_listed : (at : ℕ) (bytes : List ℕ) (items : List Item) → AreFields at bytes items → (bad at bytes ≡ None) × (fields at bytes ≡ items)
is_listed at bytes items are =
    let none = none_bad at bytes items are in
    (none, one_list at bytes (fields at bytes) items (are_listed (length bytes) at bytes (omega arith) none) are)

-- bytes with a bad place are fields up to it
pub stops : (more at : ℕ) (bytes : List ℕ) (place : ℕ) → length bytes ≤ more → bad at bytes ≡ Some place → StopsAt at bytes place (fields at bytes)
stops more at [] place le is = absurd (none_is place (sym (bad_end at) ∙ is))
stops zero at (b ∷ bytes) place le is = absurd (omega (arith, le))
stops (suc more) at (b ∷ bytes) place le is =
    let all = b ∷ bytes in
    elim (field_at all) as (λ r. field_at all ≡ r → StopsAt at all place (fields at all)) [
      | None ↦ λ e. record {
        front = [];
        rest = all;
        split = refl;
        are = subst (λ (fs : List Item). AreFields at [] fs) (sym (fields_none at all e)) refl;
        counted = omega (arith, some_is at place (sym (bad_none at all (omega arith) e) ∙ is));
        some = omega arith;
        none = no_field all e;
      }
      | Some found ↦ λ e.
          let end = at + (length all - length found.2) in
          let front = field_found all found.0 found.1 found.2 e in
          let later = stops more end found.2 place (omega (arith, field_shorter all found e, le)) (sym (bad_found at all found.0 found.1 found.2 e) ∙ is) in
          let split : all ≡ (front.head ++ later.front) ++ later.rest = front.split ∙ ap (λ (l : List ℕ). front.head ++ l) later.split ∙ sym (append_assoc front.head later.front later.rest) in
          let behind : end ≡ at + length front.head = omega (arith, ap length front.split, length-append front.head found.2) in
          let first : AreFields at (front.head ++ later.front) (item_of at end found ∷ fields end found.2) =
          (front.head, later.front, refl, refl, behind, front.is, subst (λ (k : ℕ). AreFields k later.front (fields end found.2)) behind later.are) in
          record {
            front = front.head ++ later.front;
            rest = later.rest;
            split = split;
            are = subst (λ (fs : List Item). AreFields at (front.head ++ later.front) fs) (sym (fields_found at all found.0 found.1 found.2 e)) first;
            counted = omega (arith, later.counted, behind, length-append front.head later.front);
            some = later.some;
            none = later.none;
          }
    ] refl
