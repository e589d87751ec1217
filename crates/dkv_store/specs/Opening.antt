-- What the calls of an opening answer.
--     IsSeenA file look, IsSeenB file look      what was seen of file a, and of file b
--     plain head      what is seen where file a goes on from the empty image beside a file that isn't open
--     IsReplay bodies answer      the core after the commits of the bodies, or the gate of the first that may not be made
--     IsRead file answer      the same of the records of a file
use Rattle.std.specs.Prelude.{ℕ, ◌≡◌, ◌≤◌, true, false, IsTrue, List, [], length, Option, Some, None, Result, Ok, Err, ⊤}
use Rattle.dkv_base.specs.declared.types.Commit.{Commit}
use Rattle.dkv_base.specs.State.{State, empty_state}
use Rattle.dkv_base.specs.After.{after, is_legal}
use Rattle.dkv_core.specs.Cores.{Database}
use Rattle.dkv_msgs.specs.Readings.{reads_atomic_write}
use Rattle.dkv_journal.specs.Records.{first_layout, scanned_at}
use Rattle.dkv_journal.specs.declared.journal.Journal.{Journal}
use Rattle.dkv_files.specs.declared.head.FileHead.{FileHead}
use Rattle.dkv_files.specs.declared.header.HeadState.TheVariants as state
use Rattle.dkv_files.specs.Files.{is_open, number_fault, head_of, image_length}
use Rattle.dkv_files.specs.Reading.{IsHeadState, IsNewOrCut}
use Rattle.dkv_files.specs.Recovered.{replayed, commits_in, is_new}
use Rattle.dkv_base.specs.Profiles.{known_first}
use Rattle.dkv_store.specs.declared.answers.OpenRefusal.{OpenRefusal}
use Rattle.dkv_store.specs.declared.answers.OpenRefusal.TheVariants as opening
use Rattle.dkv_store.specs.Making.{IsBetween}
use Rattle.dkv_store.specs.declared.looks.Looked.{Looked}
use Rattle.dkv_store.specs.declared.replay.Unmade.{Unmade}
use Rattle.dkv_store.specs.declared.replay.Unmade.TheVariants as unmade

-- the first gate behind the header and an empty image
abbrev pub first_place : ℕ
first_place = 112

-- what was seen of file a, and of file b
abbrev pub IsSeenA : List ℕ → Looked → Type 0
IsSeenA fa seen = IsHeadState fa seen.head × IsNewOrCut fa seen.fresh

abbrev pub IsSeenB : List ℕ → Looked → Type 0
IsSeenB fb seen = seen.other ≡ is_open fb

-- file a goes on from the empty image, and file b isn't open
abbrev pub plain : FileHead → Looked
plain head = record { head = state.Stands head 16; fresh = Some true; other = false }

-- ---- records

-- the commits of bodies from a gate on, behind those before
abbrev pub replay : List Commit → ℕ → List (List ℕ) → Result (List Commit) ℕ
replay before p bodies = replayed reads_atomic_write first_layout empty_state before p bodies

-- a core after commits of the new database
pub record IsAfter (cs : List Commit) (core : Database) : Type 0 where
  pub state : core.state ≡ after empty_state cs
  pub legal : IsTrue (is_legal empty_state cs)
  pub between : IsBetween core

-- the core after the commits of the bodies, or the gate of the first that is no commit or may not be made
abbrev pub IsReplay : List (List ℕ) → Result Database Unmade → Type 0
IsReplay bodies (Ok core) = (cs : List Commit) × (replay [] first_place bodies ≡ Ok cs) × IsAfter cs core
IsReplay bodies (Err (unmade.Damaged at)) = replay [] first_place bodies ≡ Err at
IsReplay bodies (Err unmade.DiskFault) = ⊤
IsReplay bodies (Err unmade.NoMemory) = ⊤

-- the commits of a file's records, and where they end
abbrev pub commits_of : List ℕ → Result (List Commit) ℕ
commits_of file = commits_in reads_atomic_write first_layout empty_state first_place file

-- the core after the commits of a file's records, and the closed gate behind them; or the first gate that is damaged
abbrev pub IsRead : List ℕ → Result (Database × Journal) Unmade → Type 0
IsRead file (Ok x) =
    ((cs : List Commit) × (commits_of file ≡ Ok cs) × IsAfter cs x.0)
    × (x.1.place ≡ (scanned_at first_layout first_place file).place) × (x.1.in_doubt ≡ false)
IsRead file (Err (unmade.Damaged at)) = commits_of file ≡ Err at
IsRead file (Err unmade.DiskFault) = ⊤
IsRead file (Err unmade.NoMemory) = ⊤

-- a core after some commits of the new database, and a sure gate
abbrev pub IsMadeOf : Database → Journal → Type 0
IsMadeOf core journal = ((cs : List Commit) × IsAfter cs core) × (journal.in_doubt ≡ false)

-- the file goes on from the empty image, with this header; the core is after the commits of its records, and the journal behind them
pub record IsHeldIn (file : List ℕ) (head : FileHead) (core : Database) (journal : Journal) : Type 0 where
  pub opened : IsTrue (is_open file)
  pub stands : number_fault known_first file ≡ None
  pub image : image_length file ≡ 16
  pub long : 113 ≤ length file
  pub new : is_new file ≡ true
  pub is : head ≡ head_of file
  pub cs : List Commit
  pub commits : commits_of file ≡ Ok cs
  pub made : IsAfter cs core
  pub place : journal.place ≡ (scanned_at first_layout first_place file).place

-- why the records were not made is why the files are not opened
abbrev pub Tells : Result (Database × Journal) Unmade → OpenRefusal → Type 0
Tells made opening.DiskFault = made ≡ Err unmade.DiskFault
Tells made opening.NoDatabase = ⊥
Tells made (opening.Damaged file at) = (file ≡ 0) × (made ≡ Err (unmade.Damaged at))
Tells made (opening.NotBuilt at) = ⊥
Tells made opening.NoMemory = ⊤
