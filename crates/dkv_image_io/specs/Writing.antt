-- The writing of an image.
--     KeepsFront file image      the image begins as the file does
--     Writes .. place .. old new      what calls that write from a place on do to a disk
--     IsUnderWay ..      what of an image is written, and what is held
use Rattle.std.specs.Prelude.{ℕ, ◌≡◌, ◌+◌, ◌≤◌, List, ◌++◌, length, take, Option, Some}
use Rattle.dkv_io.specs.Disks.{Told, AnyBytes, Holds, LeavesFrom}

-- its first byte is that of the file, or neither has one
abbrev pub KeepsFront : List ℕ → List ℕ → Type 0
KeepsFront file image = take 1 image ≡ take 1 file

-- a disk after calls that wrote from a place on, whatever they answered: it tells as much as before, its count didn't fall, and behind the first byte
-- each image at each moment begins as one of the start
pub record Writes {D : Type 0} (seen : D → Option (List ℕ)) (images : D → List ℕ → Type 0) (moment : D → ℕ) (since : D → ℕ → List ℕ → Type 0) (faults : D → ℕ) (place : ℕ) (old new : D) : Type 0 where
  pub told : Told AnyBytes (seen old) (seen new)
  pub later : faults old ≤ faults new
  pub leaves : 1 ≤ place → LeavesFrom images moment since old new KeepsFront

-- of a spelling that is to stand in the file from start on: the first bytes are written there, and the others are held and go to the place behind them
pub record IsUnderWay (start : ℕ) (file spelled : List ℕ) (seen : Option (List ℕ)) (place : ℕ) (held : List ℕ) : Type 0 where
  pub written : List ℕ
  pub now : List ℕ
  pub told : seen ≡ Some now
  pub stands : Holds start written file now
  pub behind : place ≡ start + length written
  pub parts : spelled ≡ written ++ held
