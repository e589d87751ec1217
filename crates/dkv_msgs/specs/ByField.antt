-- What the fields of one number hold (proto3 encoding guide). In which order fields of different numbers come means nothing.
--     last_number field fs, last_bytes field fs      the last that a singular field holds, or the default 0 or none
--     payloads field fs, numbers field fs      all that a repeated field holds, in order
--     joined field fs      the fields of all payloads in a row: those of a singular message that is given in pieces
use Rattle.std.specs.Prelude.{ℕ, ◌%◌, ◌^◌, Bool, not, ◌==◌, ℤ, if◌then◌else◌, List, [], ◌∷◌, flat_map}
use Rattle.std.specs.Int.{w32, w64, cast_signed}
use Rattle.dkv_wire.specs.Wire.{Item, Content, AVarint, AFixed64, ALen, AFixed32}
use Rattle.dkv_wire.specs.FieldLists.{fields, varints}

-- the number that a content is, if it is one ("Message Structure")
abbrev pub number_in : Content → List ℕ
number_in (AVarint n) = n ∷ []
number_in (AFixed64 n) = []
number_in (ALen text) = []
number_in (AFixed32 n) = []

-- the bytes that a content is, if it is bytes ("Length-Delimited Records")
abbrev pub bytes_in : Content → List (List ℕ)
bytes_in (AVarint n) = []
bytes_in (AFixed64 n) = []
bytes_in (ALen text) = text ∷ []
bytes_in (AFixed32 n) = []

-- the repeated numbers that a content is: one, or packed ones ("Packed Repeated Fields")
abbrev pub numbers_in : Content → List ℕ
numbers_in (AVarint n) = n ∷ []
numbers_in (AFixed64 n) = []
numbers_in (ALen text) = varints text
numbers_in (AFixed32 n) = []

-- what a field holds, in order
abbrev pub held_by : {X : Type 0} → (Content → List X) → ℕ → List Item → List X
held_by what field fs = flat_map (λ f. if f.number == field then what f.content else []) fs

-- the bytes that a field holds, in order ("Repeated Elements")
abbrev pub payloads : ℕ → List Item → List (List ℕ)
payloads field fs = held_by bytes_in field fs

-- the last, or what stands for none ("Last One Wins")
abbrev pub last_or : {X : Type 0} → X → List X → X
last_or x [] = x
last_or x (y ∷ ys) = last_or y ys

-- the last number in a field, or the default 0 ("Last One Wins")
abbrev pub last_number : ℕ → List Item → ℕ
last_number field fs = last_or 0 (held_by number_in field fs)

-- the last bytes in a field, or the default of none ("Last One Wins")
abbrev pub last_bytes : ℕ → List Item → List ℕ
last_bytes field fs = last_or [] (payloads field fs)

-- the numbers in a field, packed or not ("Packed Repeated Fields")
abbrev pub numbers : ℕ → List Item → List ℕ
numbers field fs = held_by numbers_in field fs

-- the fields of all payloads in a row ("Last One Wins"); where their places count from plays no part in what is read
abbrev pub joined : ℕ → List Item → List Item
joined field fs = flat_map (λ text. fields 0 text) (payloads field fs)

-- ---- the types of numbers

-- the lowest 32 bits, in two's complement ("Signed Integers")
abbrev pub int32 : ℕ → ℤ
int32 n = cast_signed w32 (n % 2 ^ 32)

-- all 64 bits, in two's complement ("Signed Integers")
abbrev pub int64 : ℕ → ℤ
int64 n = cast_signed w64 n

-- the lowest 32 bits ("More Integer Types")
abbrev pub uint32 : ℕ → ℕ
uint32 n = n % 2 ^ 32

-- any number but 0 is true ("Bools and Enums")
abbrev pub truth : ℕ → Bool
truth n = not (n == 0)
