-- How a field of a message is spelled, as the proto3 encoding guide says; the canonical one of the spellings that it allows.
--     varint n      a number in groups of seven bits
--     number_field k n, bytes_field k bytes, numbers_field k ns      field k with its value, or nothing where that is the default
--     delimited k bytes      field k with a payload and its length, whatever the payload
use Rattle.std.specs.Prelude.{ℕ, Bool, ℤ, pos, negsuc, suc, zero, ◌+◌, ◌-◌, ◌*◌, ◌/◌, ◌%◌, ◌^◌, nat_lt, ◌==◌, if◌then◌else◌, List, [], ◌∷◌, ◌++◌, length, flat_map}

-- n in at most k groups of seven bits, least first; each byte but the last has its top bit set (proto3 encoding guide, "Base 128 Varints")
unfoldable pub groups : ℕ → ℕ → List ℕ
groups zero n = []
groups (suc k) n = if nat_lt n 128 then n ∷ [] else (n % 128 + 128) ∷ groups k (n / 128)

-- the shortest varint of a number below 2^64
unfoldable pub varint : ℕ → List ℕ
varint n = groups 10 n

-- a signed number in two's complement of 64 bits ("Signed Integers")
abbrev pub unsigned : ℤ → ℕ
unsigned (pos n) = n
unsigned (negsuc n) = 2 ^ 64 - 1 - n

-- a bool as 0 or 1 ("Bools and Enums")
abbrev pub flag : Bool → ℕ
flag b = if b then 1 else 0

-- a number, where it is not the default 0: wire type 0 ("Message Structure")
abbrev pub number_field : ℕ → ℕ → List ℕ
number_field k n = if n == 0 then [] else varint (k * 8) ++ varint n

-- a payload with its length before it: wire type 2 ("Length-Delimited Records")
abbrev pub delimited : ℕ → List ℕ → List ℕ
delimited k bytes = varint (k * 8 + 2) ++ varint (length bytes) ++ bytes

-- bytes, where they are not the default of none
abbrev pub bytes_field : ℕ → List ℕ → List ℕ
bytes_field k [] = []
bytes_field k (b ∷ bs) = delimited k (b ∷ bs)

-- numbers, packed in one field ("Packed Repeated Fields")
abbrev pub numbers_field : ℕ → List ℕ → List ℕ
numbers_field k ns = bytes_field k (flat_map varint ns)
