-- The file of a pair that isn't used is written anew.
--     identity_in head      whose database a header of the first format tells of
--     IsOlder which head states file      a file of a lower generation, which is read as one of the states
--     MayRenew second ..      each image of the used file is one, and each pair is read so
--     WholeRests      what a whole file is read as
use Rattle.std.specs.Prelude.{ℕ, ◌≡◌, ◌+◌, ◌^◌, ◌<◌, Bool, true, false, IsTrue, List, [], length}
use Rattle.dkv_base.specs.declared.types.Entry.{Entry}
use Rattle.dkv_base.specs.declared.types.Message.{Message}
use Rattle.dkv_base.specs.declared.types.Profile.TheVariants.{Narrow}
use Rattle.dkv_base.specs.Profiles.{known_first}
use Rattle.dkv_base.specs.State.{State}
use Rattle.dkv_io.specs.Disks.{EachPair}
use Rattle.dkv_msgs.specs.Readings.{reads_atomic_write}
use Rattle.dkv_journal.specs.Records.{first_layout}
use Rattle.dkv_image.specs.Image.{image, is_image, FitsImage}
use Rattle.dkv_image_io.specs.Reading.{narrow}
use Rattle.dkv_files.specs.declared.head.FileHead.{FileHead}
use Rattle.dkv_files.specs.Files.{generation_of}
use Rattle.dkv_files.specs.Filling.{whole_file}
use Rattle.dkv_files.specs.Recovered.{Stands, Rests, from_file}
use Rattle.dkv_files.specs.Crashes.{Identity, IsHead, IsOneOf, read}
use Rattle.dkv_files.specs.Laws.{found_of}

-- in the first format
abbrev pub identity_in : FileHead → Identity
identity_in head = record { id = head.id; secret = head.secret; profile = Narrow }

-- ---- a whole file

-- what it may be written of
pub record IsWhole (head : FileHead) (es : List Entry) (ms : List Message) : Type 0 where
  pub numbers : IsHead head
  pub id : length head.id ≡ 16
  pub secret : length head.secret ≡ 32
  pub stands : IsTrue (is_image (narrow head.n head.now) es ms)
  pub fits : FitsImage es ms
  pub short : length (image es ms) < 2 ^ 64

-- it stands, is read as its image without a record, and its first gate is its last
abbrev pub WholeRests : Type 0
WholeRests = (which : ℕ) (head : FileHead) (es : List Entry) (ms : List Message) → IsWhole head es ms
    → Rests known_first reads_atomic_write which (found_of first_layout head es ms []) (96 + length (image es ms)) (whole_file head es ms)
    × (generation_of (whole_file head es ms) ≡ head.generation)

-- ---- beside the used file

-- what a crash may leave of the used file, where the second file is the other one, or the first; and its number
abbrev pub used_images : Bool → (List ℕ → Type 0) → (List ℕ → Type 0) → List ℕ → Type 0
used_images true a_images b_images = a_images
used_images false a_images b_images = b_images

abbrev pub used_number : Bool → ℕ
used_number true = 0
used_number false = 1

-- it stands, has a lower generation, and is read as one of these states
pub record IsOlder (which : ℕ) (head : FileHead) (states : List State) (file : List ℕ) : Type 0 where
  pub stands : Stands known_first file
  pub lower : generation_of file < head.generation
  pub read : IsOneOf (from_file reads_atomic_write which file) states (identity_in head)

-- The second file may be written anew, or the first: each image of the other one is older, and each pair of images is read as one of the states.
pub record MayRenew (second : Bool) (a_images b_images : List ℕ → Type 0) (head : FileHead) (states : List State) : Type 0 where
  pub used : (file : List ℕ) → used_images second a_images b_images file → IsOlder (used_number second) head states file
  pub pairs : EachPair a_images b_images (λ a b. IsOneOf (read a b) states (identity_in head))
