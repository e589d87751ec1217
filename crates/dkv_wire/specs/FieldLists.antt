-- The fields of some bytes, as a function (proto3 encoding guide).
--     fields at bytes      the fields that they begin with, one behind the other; the bytes begin at place `at`
--     bad at bytes      the first place where no field begins, unless the fields end with the bytes
--     varints bytes, are_varints bytes      the numbers that the bytes begin with; whether they are all of them
use Rattle.std.specs.Prelude.{ℕ, zero, suc, ◌+◌, ◌-◌, Bool, true, false, List, [], ◌∷◌, length, Option, Some, None}
use Rattle.std.specs.Option.{option_map_or}
use Rattle.dkv_wire.specs.Wire.{Item, Content}
use Rattle.dkv_wire.specs.Reading.{varint_at, field_at}

-- the field that was found at the front, between two places
abbrev pub item_of : ℕ → ℕ → ℕ × Content × List ℕ → Item
item_of at end found = record { number = found.0; content = found.1; at = at; end = end }

-- at most so many fields, one behind the other ("Message Structure")
unfoldable pub fields_in : ℕ → ℕ → List ℕ → List Item
fields_in zero at bytes = []
fields_in (suc more) at bytes =
    option_map_or (λ found.
    let end = at + (length bytes - length found.2) in
    item_of at end found ∷ fields_in more end found.2)
    (field_at bytes) []

-- the fields that bytes begin with ("Message Structure"); each has a byte, so there are no more
-- of them than bytes
abbrev pub fields : ℕ → List ℕ → List Item
fields at bytes = fields_in (length bytes) at bytes

-- where the bytes stop being fields, after at most so many
unfoldable pub bad_in : ℕ → ℕ → List ℕ → Option ℕ
bad_in more at [] = None
bad_in zero at (b ∷ bytes) = Some at
bad_in (suc more) at (b ∷ bytes) =
    option_map_or (λ found. bad_in more (at + (length (b ∷ bytes) - length found.2)) found.2)
    (field_at (b ∷ bytes)) (Some at)

-- the first place where no field begins, if the bytes are no fields
abbrev pub bad : ℕ → List ℕ → Option ℕ
bad at bytes = bad_in (length bytes) at bytes

-- at most so many numbers, one behind the other ("Packed Repeated Fields")
unfoldable pub varints_in : ℕ → List ℕ → List ℕ
varints_in zero bytes = []
varints_in (suc more) bytes = option_map_or (λ found. found.0 ∷ varints_in more found.1) (varint_at bytes) []

-- the numbers that bytes begin with ("Packed Repeated Fields")
abbrev pub varints : List ℕ → List ℕ
varints bytes = varints_in (length bytes) bytes

-- whether so many numbers, or fewer, are all of the bytes
unfoldable pub are_varints_in : ℕ → List ℕ → Bool
are_varints_in more [] = true
are_varints_in zero (b ∷ bytes) = false
are_varints_in (suc more) (b ∷ bytes) =
    option_map_or (λ found. are_varints_in more found.1) (varint_at (b ∷ bytes)) false

-- whether bytes are whole numbers ("Packed Repeated Fields")
abbrev pub are_varints : List ℕ → Bool
are_varints bytes = are_varints_in (length bytes) bytes
