-- What one step along the fields, or along packed numbers, finds of the whole list.
use Rattle.std.specs.Prelude.{◌≡◌, ◌<◌, ℕ, List, [], ◌∷◌, ◌++◌, ◌==◌, Option, Some, None, Result, Ok, Err, length}
use Rattle.dkv_wire.specs.Wire.{Walk, Item, IsVarint}
use Rattle.dkv_wire.specs.Reading.{content}
use Rattle.dkv_wire.specs.FieldLists.{fields, bad, varints, are_varints}
use Rattle.dkv_wire.specs.declared.fields.Field.{Field}
use Rattle.dkv_wire.specs.declared.fields.Malformed.{Malformed}

-- the fields that are still to come
abbrev pub to_come : Walk → List Item
to_come w = fields w.place w.bytes

-- the first place from here on where no field begins
abbrev pub bad_of : Walk → Option ℕ
bad_of w = bad w.place w.bytes

-- a field as an item of the list, with the place behind it
abbrev pub item : Field → ℕ → Item
item f end = record { number = f.number; content = content f.payload; at = f.at; end = end }

-- a field comes first, and the others are left
pub record FirstField (old new : Walk) (f : Field) : Type 0 where
  pub fields : to_come old ≡ item f new.place ∷ to_come new
  pub bad : bad_of old ≡ bad_of new
  pub fewer : length new.bytes < length old.bytes

-- a field comes first, or there are none
abbrev pub Steps : Result (Option Field) Malformed → Walk → Walk → Type 0
Steps (Ok (Some f)) old new = FirstField old new f
Steps (Ok None) old new = (to_come old ≡ []) × (bad_of old ≡ None)
Steps (Err m) old new = (to_come old ≡ []) × (bad_of old ≡ Some m.at)

-- the bytes begin with a number, and the others are left
pub record BeginsNumber (old new : List ℕ) (n : ℕ) : Type 0 where
  pub head : List ℕ
  pub split : old ≡ head ++ new
  pub is : IsVarint head n
  pub numbers : varints old ≡ n ∷ varints new
  pub whole : are_varints old ≡ are_varints new
  pub fewer : length new < length old

-- no number begins the bytes, which are whole numbers only if there are none left
pub record NoNumber (old new : List ℕ) : Type 0 where
  pub stays : new ≡ old
  pub none : (head rest : List ℕ) (n : ℕ) → old ≡ head ++ rest → IsVarint head n → ⊥
  pub numbers : varints old ≡ []
  pub whole : are_varints old ≡ (length old == 0)

-- a number comes first, or none does
abbrev pub VarintSteps : Option ℕ → List ℕ → List ℕ → Type 0
VarintSteps (Some n) old new = BeginsNumber old new n
VarintSteps None old new = NoNumber old new
