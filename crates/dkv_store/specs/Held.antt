-- What a store's files hold.
--     picked second x y      of two, the one that is used
--     read_in second used other      what the used file and the other one recover to
--     FileStands ..      an image of the used file, with a commit in doubt or without
--     Hold ..      all images of the two files stand for a state, or are in doubt by the one commit that is named
use Rattle.std.specs.Prelude.{ℕ, ◌≡◌, ◌⊎◌, ◌<◌, ◌≤◌, Bool, true, false, IsTrue, List, [], ◌∷◌, Option, Some, None, is_some}
use Rattle.dkv_base.specs.declared.types.Commit.{Commit}
use Rattle.dkv_base.specs.declared.types.Profile.TheVariants.{Narrow}
use Rattle.dkv_base.specs.State.{State}
use Rattle.dkv_base.specs.Sound.{IsSound}
use Rattle.dkv_base.specs.After.{after, is_legal, is_legal_in}
use Rattle.dkv_base.specs.Profiles.{known_first, body_most}
use Rattle.dkv_base.specs.Spelling.{record_body, record_length}
use Rattle.dkv_journal.specs.Crashes.{IsDoubted}
use Rattle.dkv_journal.specs.Records.{first_layout, is_closed_at}
use Rattle.dkv_journal.specs.declared.journal.Journal.{Journal}
use Rattle.dkv_msgs.specs.Readings.{reads_atomic_write}
use Rattle.dkv_record.specs.Records.{commit_of}
use Rattle.dkv_files.specs.Files.{is_open, generation_of}
use Rattle.dkv_files.specs.Recovered.{Found, Recovery, Rests, Stands}
use Rattle.dkv_files.specs.Crashes.{read}
use Rattle.dkv_files.specs.Crashes.{Identity, identity, StatesMove, with_doubt, and_then}
use Rattle.dkv_store.specs.declared.held.InUse.{InUse}

-- ---- which file is used

-- of two, the second or the first
abbrev pub picked : {X : Type 0} → Bool → X → X → X
picked false x y = x
picked true x y = y

-- what the used file and the other one recover to, where the second is used or the first
abbrev pub read_in : Bool → List ℕ → List ℕ → Recovery
read_in false used other = read used other
read_in true used other = read other used

-- ---- what they hold

-- the commit may be written as a record, and made in the state
pub record MayAdd (s : State) (c : Commit) : Type 0 where
  pub back : commit_of reads_atomic_write (record_body c) ≡ Some c
  pub short : record_length c ≤ body_most Narrow
  pub legal : IsTrue (is_legal_in s c)

-- a file of this generation that rests so, whichever of the two it is
pub record RestsAt (found : Found) (generation place : ℕ) (x : List ℕ) : Type 0 where
  pub rests : Rests known_first reads_atomic_write 0 found place x
  pub numbered : generation_of x ≡ generation
  pub shut : IsTrue (is_closed_at place x)

-- an image of the used file: it rests so, or has the commit in doubt behind its last gate, whatever byte that is
abbrev pub FileStands : Found → ℕ → ℕ → Option Commit → List ℕ → Type 0
FileStands found generation place None x = RestsAt found generation place x
FileStands found generation place (Some c) x = (d : List ℕ) × RestsAt found generation place d × IsDoubted first_layout place (record_body c) d x

-- the commit in doubt, if there is one, may be added
abbrev pub IfDoubt : State → Option Commit → Type 0
IfDoubt s None = Unit {0}
IfDoubt s (Some c) = MayAdd s c

-- a file that isn't used: it isn't open, or its header stands and it has a lower generation
abbrev pub IsOther : ℕ → List ℕ → Type 0
IsOther generation y = (is_open y ≡ false) ⊎ (Stands known_first y × (generation_of y < generation))

-- each image of the used file and of the other one stands for the state, or is in doubt by the one commit that is named
pub record Hold (used_images other_images : List ℕ → Type 0) (journal : Journal) (in_use : InUse) (doubt : Option Commit) (s : State) (who : Identity) : Type 0 where
  pub found : Found
  pub sound : IsSound found.base
  pub legal : IsTrue (is_legal found.base found.commits)
  pub state : after found.base found.commits ≡ s
  pub identity : identity found ≡ who
  pub layout : found.layout ≡ first_layout
  pub named : journal.in_doubt ≡ is_some doubt
  pub doubted : IfDoubt s doubt
  pub used : (x : List ℕ) → used_images x → FileStands found in_use.generation journal.place doubt x
  pub other : (y : List ℕ) → other_images y → IsOther in_use.generation y

-- what a disk leaves, where it tells its content
abbrev pub IsTold : Option (List ℕ) → Type 0
IsTold None = ⊥
IsTold (Some xs) = Unit {0}

abbrev pub Guarded : Option (List ℕ) → (List ℕ → Type 0) → List ℕ → Type 0
Guarded seen images y = IsTold seen × images y

-- While a commit is added to the used file: up to some moment the state alone, and from then on the state, or it and the commit.
pub record AddMoves {D : Type 0} (images : D → List ℕ → Type 0) (moment : D → ℕ) (since : D → ℕ → List ℕ → Type 0)
    (second : Bool) (who : Identity) (s : State) (c : Commit) (used other used_end other_end : D) : Type 0 where
  pub laid : D
  pub laying : StatesMove images moment since (read_in second) who (s ∷ []) used other laid other
  pub opening : StatesMove images moment since (read_in second) who (s ∷ and_then s c ∷ []) laid other used_end other_end

-- While a commit is written behind what may be in doubt: up to the mend the state, or it and the commit in doubt; and where the mend succeeded, what an addition may leave.
pub record AllMoves {D : Type 0} (images : D → List ℕ → Type 0) (moment : D → ℕ) (since : D → ℕ → List ℕ → Type 0)
    (second : Bool) (who : Identity) (s : State) (doubt : Option Commit) (c : Commit) (used other used_end other_end : D) : Type 0 where
  pub used_mended : D
  pub other_mended : D
  pub mending : StatesMove images moment since (read_in second) who (with_doubt s doubt) used other used_mended other_mended
  pub adding : AddMoves images moment since second who s c used_mended other_mended used_end other_end

-- of the used file and the other one: all of it, or a mend that failed
abbrev pub CommitMoves : {D : Type 0} → (D → List ℕ → Type 0) → (D → ℕ) → (D → ℕ → List ℕ → Type 0) → Bool → Identity → State → Option Commit → Commit → D → D → D → D → Type 0
CommitMoves images moment since second who s doubt c used other used_end other_end =
    AllMoves images moment since second who s doubt c used other used_end other_end
    ⊎ StatesMove images moment since (read_in second) who (with_doubt s doubt) used other used_end other_end

-- they stand for some state
pub record SomeHold (used_images other_images : List ℕ → Type 0) (journal : Journal) (in_use : InUse) (doubt : Option Commit) : Type 0 where
  pub state : State
  pub who : Identity
  pub hold : Hold used_images other_images journal in_use doubt state who
