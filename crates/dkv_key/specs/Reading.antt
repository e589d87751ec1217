-- Which parts stand at the front of some bytes, by the spellings of FoundationDB's tuple layer.
--     Begins bytes p rest      a part begins the bytes, and the rest comes behind it
--     NoPart bytes      no part begins the bytes
--     IsFront ps bytes rest      parts begin the bytes one after the other
--     IsKey ps bytes, NoKey bytes      the bytes are these parts, and are no parts at all
--     FirstFault at bytes      the first place where no part begins
use Rattle.std.specs.Prelude.{◌≡◌, ◌≢◌, ℕ, zero, suc, ◌<◌, ⊤, Bool, List, [], ◌∷◌, ◌++◌, length, Option, Some, None}
use Rattle.std.specs.Borrow.{Bor}
use Rattle.hex.specs.Hex.{IsBytes}
use Rattle.dkv_key.specs.declared.codes.TheConstants.{END, ESCAPE}
use Rattle.dkv_key.specs.declared.part.Part.{Part}
use Rattle.dkv_key.specs.declared.part.Part.TheVariants as part
use Rattle.dkv_key.specs.Parts.{HasNoLeadingZero, IsPart, AreParts, escaped, magnitude_spelling, spelling, key}

-- the first byte, where there is one, is below FF
abbrev pub StartsBelowFF : List ℕ → Type 0
StartsBelowFF [] = ⊤
StartsBelowFF (b ∷ bytes) = b < ESCAPE

-- a 00 before FF is a written 00, and so it ends no bytes and no text (tuple layer, "Byte String", "Unicode String")
abbrev pub MayFollow : Part → List ℕ → Type 0
MayFollow (part.Bytes bytes) rest = StartsBelowFF rest
MayFollow (part.Text text) rest = StartsBelowFF rest
MayFollow p rest = ⊤

-- the part's spelling stands first, and it ends there
pub record Begins (bytes : List ℕ) (p : Part) (rest : List ℕ) : Type 0 where
  pub is_part : IsPart p
  pub spelled : bytes ≡ spelling p ++ rest
  pub follows : MayFollow p rest

-- no part begins the bytes
abbrev pub NoPart : List ℕ → Type 0
NoPart bytes = (p : Part) (rest : List ℕ) → Begins bytes p rest → ⊥

-- each part begins what is behind the one before it
abbrev pub IsFront : List Part → List ℕ → List ℕ → Type 0
IsFront [] bytes rest = bytes ≡ rest
IsFront (p ∷ ps) bytes rest = (behind : List ℕ) × Begins bytes p behind × IsFront ps behind rest

-- the bytes are the key of these parts
pub record IsKey (ps : List Part) (bytes : List ℕ) : Type 0 where
  pub are_parts : AreParts ps
  pub spelled : bytes ≡ key ps

-- the bytes are the key of no parts
abbrev pub NoKey : List ℕ → Type 0
NoKey bytes = (ps : List Part) → IsKey ps bytes → ⊥

-- some parts begin the bytes, more bytes are behind them at this place, and no part begins those
pub record FirstFault (at : ℕ) (bytes : List ℕ) : Type 0 where
  pub before : List Part
  pub rest : List ℕ
  pub is_front : IsFront before bytes rest
  pub place : length (key before) ≡ at
  pub more : rest ≢ []
  pub none : NoPart rest

-- no byte is written at the front of these: they are none, or a 00 that ends others (tuple layer, "Byte String")
abbrev pub EndsHere : List ℕ → Type 0
EndsHere [] = ⊤
EndsHere (zero ∷ rest) = StartsBelowFF rest
EndsHere (suc b ∷ rest) = ⊥

-- bytes that end within these, and what comes behind them (tuple layer, "Byte String")
pub record HasText (bytes text rest : List ℕ) : Type 0 where
  pub spelled : bytes ≡ escaped text ++ END ∷ rest
  pub follows : StartsBelowFF rest

-- no bytes end within these
abbrev pub NoText : List ℕ → Type 0
NoText bytes = (text rest : List ℕ) → HasText bytes text rest → ⊥

-- so many magnitude bytes, and what comes behind them (tuple layer, "Integer")
pub record HasMagnitude (negative : Bool) (count : ℕ) (bytes magnitude rest : List ℕ) : Type 0 where
  pub size : length magnitude ≡ count
  pub first : HasNoLeadingZero magnitude
  pub each : IsBytes magnitude
  pub spelled : bytes ≡ magnitude_spelling negative magnitude ++ rest

-- no such magnitude stands first
abbrev pub NoMagnitude : Bool → ℕ → List ℕ → Type 0
NoMagnitude negative count bytes =
    (magnitude rest : List ℕ) → HasMagnitude negative count bytes magnitude rest → ⊥

-- what a function found at the front of some bytes: a part and what comes behind it, or that no part begins there
abbrev pub FindsPart : List ℕ → Option (Part × Bor (List ℕ)) → Type 0
FindsPart bytes None = NoPart bytes
FindsPart bytes (Some found) = Begins bytes found.0 found.1.now
