-- The bytes of a workload, and how far they were written.
--     workload number      all of them
--     WritesSome number old new      those of some groups were written
use Rattle.std.specs.Prelude.{ℕ, ◌<◌, List, Option, flat_map}
use Rattle.std.specs.Io.KnownBytes.{Appends}
use Rattle.dkv_generate.specs.declared.sizes.TheConstants.{GROUPS}
use Rattle.dkv_generate.specs.Frames.{frame_bytes}
use Rattle.dkv_generate.specs.Steps.{steps_of}

-- the frames of the first k groups, one behind the other
abbrev pub groups_bytes : ℕ → ℕ → List ℕ
groups_bytes k number = flat_map frame_bytes (steps_of k number)

-- the frames of all 4,000
abbrev pub workload : ℕ → List ℕ
workload number = groups_bytes GROUPS number

-- some groups were written whole, and not all
pub record WritesSome (number : ℕ) (old new : Option (List ℕ)) : Type 0 where
  pub groups : ℕ
  pub some : groups < GROUPS
  pub written : Appends old new (groups_bytes groups number)
