-- The making of a new database.
--     new_head id secret      the header of its file a
--     new_identity id secret      whose database it is
--     IsSomeOpen fa fb, IsUncreated fa fb refusal      a file is open; why no database was made
use Rattle.std.specs.Prelude.{ℕ, Bool, IsTrue, ◌||◌, ⊤, List}
use Rattle.dkv_base.specs.declared.types.Profile.TheVariants.{Narrow}
use Rattle.dkv_files.specs.declared.creating.CreateRefusal.{CreateRefusal}
use Rattle.dkv_files.specs.declared.creating.CreateRefusal.TheVariants as refusal
use Rattle.dkv_files.specs.declared.head.FileHead.{FileHead}
use Rattle.dkv_files.specs.Files.{is_open}
use Rattle.dkv_files.specs.Crashes.{Identity}

-- the first generation, before all commits
abbrev pub new_head : List ℕ → List ℕ → FileHead
new_head id secret = record { generation = 1; id = id; secret = secret; n = 0; now = 0 }

-- in the first format
abbrev pub new_identity : List ℕ → List ℕ → Identity
new_identity id secret = record { id = id; secret = secret; profile = Narrow }

-- one of the two files is open
abbrev pub IsSomeOpen : List ℕ → List ℕ → Type 0
IsSomeOpen fa fb = IsTrue (is_open fa || is_open fb)

-- why no database was made of two files; a fault and want of memory say nothing of their bytes
abbrev pub IsUncreated : List ℕ → List ℕ → CreateRefusal → Type 0
IsUncreated fa fb refusal.DiskFault = ⊤
IsUncreated fa fb refusal.Exists = IsSomeOpen fa fb
IsUncreated fa fb refusal.NoMemory = ⊤
