-- What the laws of fields say of the bytes before and behind a place.
use Rattle.std.specs.Prelude.{◌≡◌, ℕ, ◌+◌, ◌≤◌, List, ◌∷◌, ◌++◌, length}
use Rattle.dkv_wire.specs.Wire.{Item, Content, AreFields, NoField}
use Rattle.dkv_wire.specs.FieldLists.{item_of, fields, bad}

-- the bytes before this place are these fields, and no field begins there before the end
pub record StopsAt (at : ℕ) (bytes : List ℕ) (place : ℕ) (items : List Item) : Type 0 where
  pub front : List ℕ
  pub rest : List ℕ
  pub split : bytes ≡ front ++ rest
  pub are : AreFields at front items
  pub counted : place ≡ at + length front
  pub some : 1 ≤ length rest
  pub none : NoField rest

-- these bytes, before any others, are one field more
pub record Before (at number : ℕ) (held : Content) (head rest : List ℕ) : Type 0 where
  pub fields :
      fields at (head ++ rest) ≡ item_of at (at + length head) (number, held, rest) ∷ fields (at + length head) rest
  pub bad : bad at (head ++ rest) ≡ bad (at + length head) rest
