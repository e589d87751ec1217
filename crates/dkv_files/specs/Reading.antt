-- What is read of a header.
--     IsHeadState file state      whether the file is open, its numbers, or the first place that doesn't stand
--     IsNewOrCut file is      whether the file goes on as a new one, where it is long enough to tell
use Rattle.std.specs.Prelude.{ℕ, ◌≡◌, ◌<◌, ◌≤◌, Bool, false, IsTrue, List, length, Option, Some, None}
use Rattle.dkv_base.specs.Profiles.{known_first}
use Rattle.dkv_files.specs.declared.header.HeadState.{HeadState}
use Rattle.dkv_files.specs.declared.header.HeadState.TheVariants as state
use Rattle.dkv_files.specs.Files.{is_open, number_fault, head_of, image_length}
use Rattle.dkv_files.specs.Recovered.{is_new}

-- the file isn't open; or it is, and this is its header, or the first place of it that doesn't stand
abbrev pub IsHeadState : List ℕ → HeadState → Type 0
IsHeadState file state.Shut = is_open file ≡ false
IsHeadState file (state.Stands head image) =
    IsTrue (is_open file) × (number_fault known_first file ≡ None) × (head ≡ head_of file) × (image ≡ image_length file)
IsHeadState file (state.Bad at) = IsTrue (is_open file) × (number_fault known_first file ≡ Some at)

-- the number, the moment and the image are zeros, and a byte follows; or there is none
abbrev pub IsNewOrCut : List ℕ → Option Bool → Type 0
IsNewOrCut file (Some is) = (113 ≤ length file) × (is ≡ is_new file)
IsNewOrCut file None = length file < 113
