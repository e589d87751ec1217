-- How long what stands in an image is.
--     FitsLengths e, FitsCounts m      an entry's and a message's lengths, counts and encoding fit their fields
--     HasImage es ms      the entries and messages may stand in an image
use Rattle.std.specs.Prelude.{ℕ, ◌^◌, ◌<◌, IsTrue, List, ◌++◌, length}
use Rattle.std.specs.Int.{w32, w64, to_le_bytes}
use Rattle.std.specs.List.{AllByRecursion}
use Rattle.dkv_base.specs.declared.types.Entry.{Entry}
use Rattle.dkv_base.specs.declared.types.Message.{Message}
use Rattle.dkv_base.specs.Limits.{from_zero}
use Rattle.dkv_image.specs.Image.{Bounds, is_image}

-- its length fits the four bytes before it
abbrev pub IsShortKey : List ℕ → Type 0
IsShortKey key = length key < 2 ^ 32

pub record FitsLengths (e : Entry) : Type 0 where
  pub key : IsShortKey e.key
  pub encoding : from_zero e.encoding < 256
  pub value : IsShortKey e.bytes

pub record FitsCounts (m : Message) : Type 0 where
  pub payload : IsShortKey m.payload
  pub key_count : length m.undelivered < 2 ^ 32
  pub keys : AllByRecursion IsShortKey m.undelivered
  pub interval_count : length m.backoff < 2 ^ 32

-- of some commit and moment
abbrev pub HasImage : List Entry → List Message → Type 0
HasImage es ms = (b : Bounds) × IsTrue (is_image b es ms)

-- what a message begins with, up to its payload
abbrev pub numbers_bytes : Message → List ℕ
numbers_bytes m =
    to_le_bytes w64 m.id.commit ++ to_le_bytes w32 m.id.index ++ to_le_bytes w64 m.due ++ to_le_bytes w32 m.fails
