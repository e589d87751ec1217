-- What `create` does to random bytes, two files and the output.
--     Creates .. s ..      it ended so: which bytes it drew, what it printed, and what became of the files
--     CreateCause s ..      which count rose at each fault
use Rattle.std.specs.Prelude.{ℕ, ◌≡◌, ⊤, List, ◌++◌, length, Option}
use Rattle.std.specs.Io.KnownBytes.{Consumes}
use Rattle.dkv_base.specs.State.{empty_state}
use Rattle.dkv_files.specs.Crashes.{Identity, StandsFor, CreateMoves, WritesNothing, WhereBothTold, read}
use Rattle.dkv_files.specs.Creating.{IsSomeOpen, new_identity}
use Rattle.dkv_app.specs.declared.status.Status.{Status}
use Rattle.dkv_app.specs.declared.status.Status.TheVariants as status
use Rattle.dkv_app.specs.Ids.{id_of, created_line}

-- a file was open exactly at Exists; faults and want of memory say nothing of the files
abbrev pub CreateAnswers : Status → List ℕ → List ℕ → Type 0
CreateAnswers status.Ok fa fb = IsSomeOpen fa fb → ⊥
CreateAnswers status.WriteFault fa fb = IsSomeOpen fa fb → ⊥
CreateAnswers status.Exists fa fb = IsSomeOpen fa fb
CreateAnswers _ fa fb = ⊤

-- it has no other status, and a fault comes only where that object's count rose
abbrev pub CreateCause : Status → Type 0 → Type 0 → Type 0 → Type 0
CreateCause status.Ok random_rose write_rose disk_rose = ⊤
CreateCause status.WriteFault random_rose write_rose disk_rose = write_rose
CreateCause status.DiskFault random_rose write_rose disk_rose = disk_rose
CreateCause status.Exists random_rose write_rose disk_rose = ⊤
CreateCause status.RandomFault random_rose write_rose disk_rose = random_rose
CreateCause status.NoMemory random_rose write_rose disk_rose = ⊤
CreateCause _ random_rose write_rose disk_rose = ⊥

-- where the database was made, printed or not
abbrev pub WhereMade : Status → Type 0 → Type 0
WhereMade status.Ok P = P
WhereMade status.WriteFault P = P
WhereMade _ P = ⊤

-- where nothing was to be written
abbrev pub WhereUnmade : Status → Type 0 → Type 0
WhereUnmade status.Exists P = P
WhereUnmade status.RandomFault P = P
WhereUnmade status.NoMemory P = P
WhereUnmade _ P = ⊤

-- where random bytes were had
abbrev pub WhereDrawn : Status → Type 0 → Type 0
WhereDrawn status.RandomFault P = ⊤
WhereDrawn status.NoMemory P = ⊤
WhereDrawn _ P = P

-- the two files of a database of this identity
pub record CreatesFiles {D : Type 0} (seen : D → Option (List ℕ)) (images : D → List ℕ → Type 0)
    (moment : D → ℕ) (since : D → ℕ → List ℕ → Type 0)
    (s : Status) (who : Identity) (a b a_end b_end : D) : Type 0 where
  pub answers : WhereBothTold (seen a) (seen b) (λ fa fb. CreateAnswers s fa fb)
  -- stopped at any moment: what was there, no database, or the empty one
  pub moves : WhereBothTold (seen a) (seen b) (λ fa fb. CreateMoves images moment since who a b a_end b_end)
  -- once it was made, each image recovers to the empty one
  pub made : WhereBothTold (seen a) (seen b) (λ fa fb.
      WhereMade s (StandsFor read (images a_end) (images b_end) empty_state who))
  pub unmade : WhereUnmade s (WritesNothing images moment since a b a_end b_end)

-- 48 random bytes: the id is made of the first 16, and the others are the secret
pub record Creates {D : Type 0} (seen : D → Option (List ℕ)) (images : D → List ℕ → Type 0)
    (moment : D → ℕ) (since : D → ℕ → List ℕ → Type 0)
    (s : Status) (stream stream_end : Option (List ℕ)) (Prints : List ℕ → Type 0)
    (a b a_end b_end : D) : Type 0 where
  pub seed : List ℕ
  pub secret : List ℕ
  pub seed_is : length seed ≡ 16
  pub secret_is : length secret ≡ 32
  pub drawn : WhereDrawn s (Consumes stream stream_end (seed ++ secret))
  pub line : Prints (created_line (id_of seed))
  pub files : CreatesFiles seen images moment since s (new_identity (id_of seed) secret) a b a_end b_end
