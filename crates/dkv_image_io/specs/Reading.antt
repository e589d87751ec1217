-- The reading of an image.
--     narrow n now      the bounds of an image of the narrow profile
--     Sight, rest_in file w      what of an image is not read yet
--     IsFront, IsRow, IsReadImage      what the calls of a reading answer, where the disk tells its file
--     OnlyReads      what a call that only reads leaves
use Rattle.std.specs.Prelude.{ℕ, ◌≡◌, ◌⊎◌, Bool, false, ◌+◌, ◌-◌, ◌<◌, ◌≤◌, List, [], ◌++◌, length, take, drop, slice_get, Option, Some, None, Result, Ok, Err, ⊤}
use Rattle.dkv_base.specs.declared.types.Entry.{Entry}
use Rattle.dkv_base.specs.declared.types.Message.{Message}
use Rattle.dkv_base.specs.declared.types.Profile.TheVariants.{Narrow}
use Rattle.dkv_io.specs.Disks.{NoMore, LeavesOnly}
use Rattle.dkv_image.specs.Image.{Bounds, image_of}
use Rattle.dkv_image_io.specs.declared.refusal.ImageRefusal.{ImageRefusal}
use Rattle.dkv_image_io.specs.declared.refusal.ImageRefusal.TheVariants as refusal
use Rattle.dkv_image_io.specs.declared.window.TheConstants.{MOST_ITEM_BYTES}

-- after commit n, at the moment now
abbrev pub narrow : ℕ → ℕ → Bounds
narrow n now = record { profile = Narrow; n = n; now = now }

-- the bytes of an image that are in memory, the place in the file of the first of them, and how many more bytes it may have behind them
pub record Sight : Type 0 where
  pub held : List ℕ
  pub place : ℕ
  pub left : ℕ

-- what the file has behind those in memory
abbrev pub behind : List ℕ → Sight → List ℕ
behind file w = take w.left (drop (w.place + length w.held) file)

-- all that isn't read yet
abbrev pub rest_in : List ℕ → Sight → List ℕ
rest_in file w = w.held ++ behind file w

-- where it ends in the file
abbrev pub end_in : List ℕ → Sight → ℕ
end_in file w = w.place + length (rest_in file w)

-- the last item, if there is one
abbrev pub last_of : {X : Type 0} → List X → Option X
last_of xs = slice_get xs (length xs - 1)

-- as many bytes as an item may have, or all of them
abbrev pub IsEnough : List ℕ → List ℕ → Type 0
IsEnough bytes rest = (MOST_ITEM_BYTES ≤ length bytes) ⊎ (rest ≡ [])

-- no item, or one that doesn't pass
abbrev pub StandsNot : {X : Type 0} → (X → Bool) → Option (X × List ℕ) → Type 0
StandsNot test None = ⊤
StandsNot test (Some x) = test x.0 ≡ false

-- an item that stands was taken, or none stands and all is left
abbrev pub IsFront : {X : Type 0} → Result (X × List ℕ) ℕ → List ℕ → List ℕ → Option X → Type 0
IsFront standing old new (Some x) = standing ≡ Ok (x, new)
IsFront standing old new None = (standing ≡ Err (length old)) × (new ≡ old)

-- a row from one place of the file to another was taken, or one between them is damaged
abbrev pub IsRow : {X : Type 0} → Result (List X × List ℕ) ℕ → List ℕ → ℕ → ℕ → Result (List X) ImageRefusal → Type 0
IsRow row new start end (Ok xs) = row ≡ Ok (xs, new)
IsRow row new start end (Err (refusal.Damaged at)) = (left : ℕ) × (row ≡ Err left) × (at + left ≡ end) × (start ≤ at)
IsRow row new start end (Err refusal.DiskFault) = ⊤
IsRow row new start end (Err refusal.NoMemory) = ⊤

-- nothing is left, or something is, from this place on
abbrev pub IsEnd : List ℕ → ℕ → Result (Unit {0}) ImageRefusal → Type 0
IsEnd rest place (Ok x) = rest ≡ []
IsEnd rest place (Err (refusal.Damaged at)) = (0 < length rest) × (at ≡ place)
IsEnd rest place (Err refusal.DiskFault) = ⊤
IsEnd rest place (Err refusal.NoMemory) = ⊤

-- what the bytes from a place of a file on spell, or the place of what doesn't stand
abbrev pub IsReadImage : Bounds → ℕ → List ℕ → Result (List Entry × List Message) ImageRefusal → Type 0
IsReadImage b at bytes (Ok x) = image_of b bytes ≡ Ok x
IsReadImage b at bytes (Err (refusal.Damaged place)) = (within : ℕ) × (image_of b bytes ≡ Err within) × (place ≡ at + within)
IsReadImage b at bytes (Err refusal.DiskFault) = ⊤
IsReadImage b at bytes (Err refusal.NoMemory) = ⊤

-- a call that only reads: no new image, and each image at each moment is one of the start
pub record OnlyReads {D : Type 0} (seen : D → Option (List ℕ)) (images : D → List ℕ → Type 0) (moment : D → ℕ) (since : D → ℕ → List ℕ → Type 0) (old new : D) : Type 0 where
  pub same : seen new ≡ seen old
  pub crash : NoMore (images old) (images new)
  pub leaves : LeavesOnly moment since old new (images old)
