-- The last of the fields of several payloads in a row.
use Rattle.std.proofs.Common.{◌≡◌, ℕ, ◌≤◌, Some, length, List, [], ◌∷◌, ◌++◌, refl, sym, ap, ◌∙◌, arith}
use Rattle.std.specs.Prelude.{flat_map}
use Rattle.std.proofs.lemmas.Grind.{flat_map-append}
use Rattle.dkv_wire.specs.Wire.{Item, Content}
use Rattle.dkv_wire.specs.FieldLists.{fields}
use Rattle.dkv_base.specs.declared.types.Value.{Value}
use Rattle.dkv_msgs.specs.declared.types.KvEntry.{KvEntry}
use Rattle.dkv_msgs.specs.ByField.{last_or, held_by, bytes_in, number_in, payloads, joined, int32}
use Rattle.dkv_msgs.specs.Messages.{if_given, kv_value, kv_entry}
use Rattle.dkv_msgs.specs.Parts.{ArePartsAfter, AreParts, value_of, entry_of}
use Rattle.dkv_msgs.specs.declared.read_parts.Parts.{Parts}

last_or-append : {X : Type 0} (x : X) (xs ys : List X) → last_or x (xs ++ ys) ≡ last_or (last_or x xs) ys
last_or-append x [] ys = refl
last_or-append x (y ∷ xs) ys = last_or-append y xs ys

-- the fields of these payloads in a row
abbrev pub in_a_row : List (List ℕ) → List Item
in_a_row texts = flat_map (λ t. fields 0 t) texts

-- the last of one payload and then of the others
last_of_next : {X : Type 0} (what : Content → List X) (k : ℕ) (x y z : X) (text : List ℕ) (texts rest : List (List ℕ))
    → rest ≡ text ∷ texts → y ≡ last_or x (held_by what k (fields 0 text)) → last_or x (held_by what k (in_a_row rest)) ≡ z → last_or y (held_by what k (in_a_row texts)) ≡ z
last_of_next what k x y z text texts rest split is goes =
    ap (λ v. last_or v (held_by what k (in_a_row texts))) is
    ∙ sym (last_or-append x (held_by what k (fields 0 text)) (held_by what k (in_a_row texts)))
    ∙ ap (last_or x) (sym (flat_map-append _ (fields 0 text) (in_a_row texts)))
    ∙ ap (λ ts. last_or x (held_by what k (in_a_row ts))) (sym split)
    ∙ goes

-- behind these payloads, what was gathered is that of all
abbrev pub Gathers : Parts → List (List ℕ) → List Item → Type 0
Gathers parts texts all = record {
  bytes1 : last_or parts.bytes1.now (held_by bytes_in 1 (in_a_row texts)) ≡ last_or [] (held_by bytes_in 1 all);
  bytes2 : last_or parts.bytes2.now (held_by bytes_in 2 (in_a_row texts)) ≡ last_or [] (held_by bytes_in 2 all);
  bytes4 : last_or parts.bytes4.now (held_by bytes_in 4 (in_a_row texts)) ≡ last_or [] (held_by bytes_in 4 all);
  number1 : last_or parts.number1 (held_by number_in 1 (in_a_row texts)) ≡ last_or 0 (held_by number_in 1 all);
  number2 : last_or parts.number2 (held_by number_in 2 (in_a_row texts)) ≡ last_or 0 (held_by number_in 2 all);
  number3 : last_or parts.number3 (held_by number_in 3 (in_a_row texts)) ≡ last_or 0 (held_by number_in 3 all);
  number4 : last_or parts.number4 (held_by number_in 4 (in_a_row texts)) ≡ last_or 0 (held_by number_in 4 all);
}

-- one more payload
pub gathers_next : (old new : Parts) (text : List ℕ) (texts rest : List (List ℕ)) (all : List Item)
    → rest ≡ text ∷ texts → ArePartsAfter old new (fields 0 text) → Gathers old rest all → Gathers new texts all
gathers_next old new text texts rest all split is goes = record {
  bytes1 = last_of_next bytes_in 1 _ _ _ text texts rest split is.bytes1 goes.bytes1;
  bytes2 = last_of_next bytes_in 2 _ _ _ text texts rest split is.bytes2 goes.bytes2;
  bytes4 = last_of_next bytes_in 4 _ _ _ text texts rest split is.bytes4 goes.bytes4;
  number1 = last_of_next number_in 1 _ _ _ text texts rest split is.number1 goes.number1;
  number2 = last_of_next number_in 2 _ _ _ text texts rest split is.number2 goes.number2;
  number3 = last_of_next number_in 3 _ _ _ text texts rest split is.number3 goes.number3;
  number4 = last_of_next number_in 4 _ _ _ text texts rest split is.number4 goes.number4;
}

-- the first payload
pub gathers_first : (parts : Parts) (k : ℕ) (fs : List Item) (text : List ℕ) (texts : List (List ℕ))
    → payloads k fs ≡ text ∷ texts → AreParts parts (fields 0 text) → Gathers parts texts (joined k fs)
gathers_first parts k fs text texts split is = record {
  bytes1 = last_of_next bytes_in 1 [] _ _ text texts (payloads k fs) split is.bytes1 refl;
  bytes2 = last_of_next bytes_in 2 [] _ _ text texts (payloads k fs) split is.bytes2 refl;
  bytes4 = last_of_next bytes_in 4 [] _ _ text texts (payloads k fs) split is.bytes4 refl;
  number1 = last_of_next number_in 1 0 _ _ text texts (payloads k fs) split is.number1 refl;
  number2 = last_of_next number_in 2 0 _ _ text texts (payloads k fs) split is.number2 refl;
  number3 = last_of_next number_in 3 0 _ _ text texts (payloads k fs) split is.number3 refl;
  number4 = last_of_next number_in 4 0 _ _ text texts (payloads k fs) split is.number4 refl;
}

given : {X : Type 0} (texts : List (List ℕ)) (x y : X) → 1 ≤ length texts → x ≡ y → Some x ≡ if_given texts y
given [] x y some is = absurd (omega (arith, some))
given (text ∷ texts) x y some is = λ i. Some (is i)

-- a value that is given
pub value_given : (parts : Parts) (texts : List (List ℕ)) (fs : List Item) (v : Value) → 1 ≤ length texts → AreParts parts fs → v ≡ value_of parts → Some v ≡ if_given texts (kv_value fs)
value_given parts texts fs v some are is = given texts v (kv_value fs) some (is ∙ (λ i. record { bytes = are.bytes1 i; encoding = int32 (are.number2 i) }))

-- an entry that is given
pub entry_given : (parts : Parts) (texts : List (List ℕ)) (fs : List Item) (e : KvEntry) → 1 ≤ length texts → AreParts parts fs → e ≡ entry_of parts → Some e ≡ if_given texts (kv_entry fs)
entry_given parts texts fs e some are is =
    given texts e (kv_entry fs) some
    (is ∙ (λ i. record { key = are.bytes1 i; value = are.bytes2 i; encoding = int32 (are.number3 i); versionstamp = are.bytes4 i }))
