-- The parts of a key: what they are, how they are spelled and how they are ordered, by FoundationDB's tuple layer (its
-- design/tuple.md, whose sections are named below; the numbers are those of src/codes.rt).
--     IsWellFormed p, IsPart p      what a part must be; the same, with numbers that fit their types
--     spelling p, key ps      the bytes of a part, and of parts one after the other
--     part_cmp p q, parts_cmp ps qs      the order by value
--     range_start key, range_end key      the range of the keys that begin with this one and have more parts
use Rattle.std.specs.Prelude.{◌≡◌, ◌≢◌, ℕ, zero, suc, ◌+◌, ◌-◌, ◌^◌, ◌<◌, ◌≤◌, ⊤, Bool, true, false, nat_lt, nat_le, if◌then◌else◌, List, [], ◌∷◌, ◌++◌, length, map, ℤ, pos, neg_ℤ}
use Rattle.std.specs.List.{flat_map, All}
use Rattle.std.specs.Str.{IsUtf8}
use Rattle.std.specs.Int.{w64, to_be_bytes}
use Rattle.std.specs.Ordering.{nat_cmp, int_cmp, bool_cmp}
use Rattle.std.specs.declared.cmp.Ordering.{Ordering}
use Rattle.std.specs.Cmp.Lexicographic.{slice_cmp}
use Rattle.hex.specs.Hex.{IsBytes}
use Rattle.dkv_base.specs.State.{key_cmp}
use Rattle.dkv_base.specs.Stamps.{number}
use Rattle.dkv_key.specs.declared.codes.TheConstants.{BYTES, TEXT, END, ESCAPE, LONG_NEGATIVE, ZERO, LONG_POSITIVE, DOUBLE, FALSE, TRUE, MAX_SHORT_BYTES, MAX_INTEGER_BYTES, RANGE_START, RANGE_END}
use Rattle.dkv_key.specs.declared.part.Part.{Part}
use Rattle.dkv_key.specs.declared.part.Part.TheVariants as part

-- the first byte, where there is one, isn't 0
abbrev pub HasNoLeadingZero : List ℕ → Type 0
HasNoLeadingZero [] = ⊤
HasNoLeadingZero (b ∷ bytes) = 0 < b

-- magnitude bytes without a leading zero, as few as spell the number; zero, which has none, isn't negative
-- (tuple layer, "Integer"; the most bytes are those of "Positive arbitrary-precision Integer")
pub record IsInteger (negative : Bool) (magnitude : List ℕ) : Type 0 where
  pub first : HasNoLeadingZero magnitude
  pub count : length magnitude ≤ MAX_INTEGER_BYTES
  pub sign : negative ≡ true → 0 < length magnitude

-- what a part must be, beside what its type says: a text is UTF-8 (tuple layer, "Unicode String")
abbrev pub IsWellFormed : Part → Type 0
IsWellFormed (part.Bytes bytes) = ⊤
IsWellFormed (part.Text text) = IsUtf8 text
IsWellFormed (part.Int negative magnitude) = IsInteger negative magnitude
IsWellFormed (part.Double pattern) = ⊤
IsWellFormed (part.Bool b) = ⊤

-- the numbers of a part fit their types
abbrev pub FitsPart : Part → Type 0
FitsPart (part.Bytes bytes) = IsBytes bytes
FitsPart (part.Text text) = IsBytes text
FitsPart (part.Int negative magnitude) = IsBytes magnitude
FitsPart (part.Double pattern) = pattern < 2 ^ 64
FitsPart (part.Bool b) = ⊤

-- a part as memory holds it
pub record IsPart (p : Part) : Type 0 where
  pub well_formed : IsWellFormed p
  pub fits : FitsPart p

-- each is a part
abbrev pub AreParts : List Part → Type 0
AreParts ps = All IsPart ps

-- each 00 is written 00 FF (tuple layer, "Byte String")
abbrev pub escaped : List ℕ → List ℕ
escaped [] = []
escaped (zero ∷ bytes) = 0 ∷ ESCAPE ∷ escaped bytes
escaped (suc b ∷ bytes) = suc b ∷ escaped bytes

-- up to 8 magnitude bytes are counted by the first byte alone, from 14 up or down (tuple layer, "Integer"); more are
-- counted behind 1D or 0B ("Positive arbitrary-precision Integer", "Negative arbitrary-precision Integer")
abbrev pub count_spelling : Bool → ℕ → List ℕ
count_spelling false count = if nat_le count MAX_SHORT_BYTES then (ZERO + count) ∷ [] else LONG_POSITIVE ∷ count ∷ []
count_spelling true count = if nat_le count MAX_SHORT_BYTES then (ZERO - count) ∷ [] else LONG_NEGATIVE ∷ (255 - count) ∷ []

-- the magnitude of a negative number has each byte complemented (tuple layer, "Integer": one's complement)
abbrev pub magnitude_spelling : Bool → List ℕ → List ℕ
magnitude_spelling false magnitude = magnitude
magnitude_spelling true magnitude = map (λ b. 255 - b) magnitude

-- the pattern with its sign bit set, where it isn't, and else with all 64 bits complemented
-- (tuple layer, "IEEE Binary Floating Point")
unfoldable pub stored_pattern : ℕ → ℕ
stored_pattern pattern = if nat_lt pattern (2 ^ 63) then pattern + 2 ^ 63 else 2 ^ 64 - 1 - pattern

-- the stored pattern in 8 bytes, greatest first (tuple layer, "IEEE Binary Floating Point")
unfoldable pub double_bytes : ℕ → List ℕ
double_bytes pattern = to_be_bytes w64 (stored_pattern pattern)

-- a part's bytes (tuple layer, "Byte String", "Unicode String", "Integer", "IEEE Binary Floating Point", "False Value",
-- "True Value")
abbrev pub spelling : Part → List ℕ
spelling (part.Bytes bytes) = BYTES ∷ escaped bytes ++ END ∷ []
spelling (part.Text text) = TEXT ∷ escaped text ++ END ∷ []
spelling (part.Int negative magnitude) = count_spelling negative (length magnitude) ++ magnitude_spelling negative magnitude
spelling (part.Double pattern) = DOUBLE ∷ double_bytes pattern
spelling (part.Bool false) = FALSE ∷ []
spelling (part.Bool true) = TRUE ∷ []

-- the spellings of the parts, one after the other
abbrev pub key : List Part → List ℕ
key ps = flat_map spelling ps

-- the integer of a sign and a magnitude
abbrev pub integer : Bool → List ℕ → ℤ
integer false magnitude = pos (number magnitude)
integer true magnitude = neg_ℤ (pos (number magnitude))

-- bytes before text before integers before doubles before truth values, as their codes rise
abbrev pub rank : Part → ℕ
rank (part.Bytes bytes) = 0
rank (part.Text text) = 1
rank (part.Int negative magnitude) = 2
rank (part.Double pattern) = 3
rank (part.Bool b) = 4

-- bytes and texts by their bytes, integers by value, doubles by their 8 stored bytes, false before true
abbrev pub part_cmp : Part → Part → Ordering
part_cmp (part.Bytes a) (part.Bytes b) = key_cmp a b
part_cmp (part.Text a) (part.Text b) = key_cmp a b
part_cmp (part.Int s a) (part.Int t b) = int_cmp (integer s a) (integer t b)
part_cmp (part.Double a) (part.Double b) = key_cmp (double_bytes a) (double_bytes b)
part_cmp (part.Bool a) (part.Bool b) = bool_cmp a b
part_cmp p q = nat_cmp (rank p) (rank q)

-- by the first parts that differ, and a list before those that it begins
abbrev pub parts_cmp : List Part → List Part → Ordering
parts_cmp ps qs = slice_cmp part_cmp ps qs

-- the second list is the first with at least one part more behind it
abbrev pub HasMore : List Part → List Part → Type 0
HasMore ps qs = (more : List Part) × (more ≢ []) × (qs ≡ ps ++ more)

-- the start of the keys that begin with this one and have more parts: 00 is below each code
abbrev pub range_start : List ℕ → List ℕ
range_start bytes = bytes ++ RANGE_START ∷ []

-- their end: FF is above each code
abbrev pub range_end : List ℕ → List ℕ
range_end bytes = bytes ++ RANGE_END ∷ []
