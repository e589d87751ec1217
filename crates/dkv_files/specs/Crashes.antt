-- What a pair of files stands for, and what a stop in each call may leave.
--     StandsFor, Doubtful      each image of the pair recovers to a state, or to it and one commit
--     ClearLeaves, FillLeaves, GateLeaves, WholeLeaves      an image in a clear, a fill, an opening of the gate, and in all of them
--     WhereBothTold      where both disks tell their files
--     CommitMoves, CheckpointMoves, CreateLeaves      a pair's images in a commit, a checkpoint, a create
--     read      is what two files recover to, as recovered with its reading of writes
use Rattle.std.specs.Prelude.{ℕ, ◌≡◌, ◌⊎◌, ◌^◌, ◌<◌, ◌≤◌, false, IsTrue, List, [], ◌∷◌, length, Option, Some, None}
use Rattle.std.specs.Option.{option_map_or}
use Rattle.dkv_base.specs.declared.types.Commit.{Commit}
use Rattle.dkv_base.specs.State.{State, empty_state}
use Rattle.dkv_base.specs.declared.moments.TheConstants.{MAX_MOMENT}
use Rattle.dkv_base.specs.After.{after, is_legal_at}
use Rattle.dkv_files.specs.declared.head.FileHead.{FileHead}
use Rattle.dkv_base.specs.declared.types.Profile.{Profile}
use Rattle.dkv_io.specs.Disks.{PairImages, EachPair, Moves}
use Rattle.dkv_journal.specs.Crashes.{WithGate}
use Rattle.dkv_journal.specs.Records.{is_closed_at}
use Rattle.dkv_files.specs.Files.{is_open}
use Rattle.dkv_files.specs.Recovered.{Recovery, Found, found, no_database, damaged, recovered}
use Rattle.dkv_msgs.specs.Readings.{reads_atomic_write}

-- ---- one file

-- an image of the start, or at most one byte
abbrev pub ClearLeaves : (List ℕ → Type 0) → List ℕ → Type 0
ClearLeaves start c = start c ⊎ (length c ≤ 1)

-- what is left after a clear
abbrev pub cleared : List ℕ
cleared = 0 ∷ []

-- a closed gate at the front
abbrev pub FillLeaves : List ℕ → Type 0
FillLeaves c = IsTrue (is_closed_at 0 c)

-- the one file d with some byte at its front
abbrev pub GateLeaves : List ℕ → List ℕ → Type 0
GateLeaves d c = WithGate 0 d c

-- it is the file, which has a length that a disk may have
abbrev pub IsWritten : List ℕ → List ℕ → Type 0
IsWritten file c = (c ≡ file) × (length file < 2 ^ 63)

-- an image of the start, a file that isn't open, or the whole file
abbrev pub WholeLeaves : (List ℕ → Type 0) → List ℕ → List ℕ → Type 0
WholeLeaves start file c = start c ⊎ (is_open c ≡ false) ⊎ IsWritten file c

-- the numbers of a header
pub record IsHead (head : FileHead) : Type 0 where
  pub first : 1 ≤ head.generation
  pub last : head.generation < 2 ^ 63
  pub n : head.n < 2 ^ 63
  pub now : head.now ≤ MAX_MOMENT

-- ---- what two files recover to

-- with the reading of writes of KV Connect
abbrev pub read : List ℕ → List ℕ → Recovery
read a b = recovered reads_atomic_write a b

-- whose database it is
pub record Identity : Type 0 where
  pub id : List ℕ
  pub secret : List ℕ
  pub profile : Profile

abbrev pub identity : Found → Identity
identity f = record { id = f.id; secret = f.secret; profile = f.layout.profile }

-- it is this state of this database
abbrev pub IsState : Recovery → State → Identity → Type 0
IsState (found f) s who = (after f.base f.commits ≡ s) × (identity f ≡ who)
IsState no_database s who = ⊥
IsState (damaged which place) s who = ⊥

-- it is one of these states
abbrev pub IsOneOf : Recovery → List State → Identity → Type 0
IsOneOf r [] who = ⊥
IsOneOf r (s ∷ ss) who = IsState r s who ⊎ IsOneOf r ss who

-- it is an image of this state, without a record
abbrev pub IsBase : Recovery → State → Identity → Type 0
IsBase (found f) s who = (f.base ≡ s) × (f.commits ≡ []) × (identity f ≡ who)
IsBase no_database s who = ⊥
IsBase (damaged which place) s who = ⊥

-- each image of the pair recovers to this state
abbrev pub StandsFor : (List ℕ → List ℕ → Recovery) → (List ℕ → Type 0) → (List ℕ → Type 0) → State → Identity → Type 0
StandsFor read a_images b_images s who = EachPair a_images b_images (λ a b. IsState (read a b) s who)

-- with this commit too
abbrev pub and_then : State → Commit → State
and_then s c = after s (c ∷ [])

-- each recovers to this state or to it and c, which is legal there
pub record Doubtful (read : List ℕ → List ℕ → Recovery) (a_images b_images : List ℕ → Type 0) (s : State) (c : Commit) (who : Identity) : Type 0 where
  pub legal : IsTrue (is_legal_at who.profile s (c ∷ []))
  pub each : EachPair a_images b_images (λ a b. IsOneOf (read a b) (s ∷ and_then s c ∷ []) who)

-- with the commit in doubt, if there is one
abbrev pub StandsOrDoubtful : (List ℕ → List ℕ → Recovery) → (List ℕ → Type 0) → (List ℕ → Type 0) → State → Option Commit → Identity → Type 0
StandsOrDoubtful read a_images b_images s None who = StandsFor read a_images b_images s who
StandsOrDoubtful read a_images b_images s (Some c) who = Doubtful read a_images b_images s c who

-- ---- a pair's images in the store's calls

-- the state, or it and the commit in doubt
abbrev pub with_doubt : State → Option Commit → List State
with_doubt s doubt = s ∷ option_map_or (λ c. and_then s c ∷ []) doubt []

-- one of these states at each moment
abbrev pub StatesMove : {D : Type 0} → (D → List ℕ → Type 0) → (D → ℕ) → (D → ℕ → List ℕ → Type 0) → (List ℕ → List ℕ → Recovery) → Identity → List State → D → D → D → D → Type 0
StatesMove images moment since read who states a b a_end b_end = Moves images moment since (λ x y. IsOneOf (read x y) states who) a b a_end b_end

-- in a checkpoint: the state, or it and the commit in doubt
abbrev pub CheckpointMoves : {D : Type 0} → (D → List ℕ → Type 0) → (D → ℕ) → (D → ℕ → List ℕ → Type 0) → (List ℕ → List ℕ → Recovery) → Identity → State → Option Commit → D → D → D → D → Type 0
CheckpointMoves images moment since read who s doubt a b a_end b_end = StatesMove images moment since read who (with_doubt s doubt) a b a_end b_end

-- after a checkpoint: an image of the state, without a record
abbrev pub IsCheckpointed : (List ℕ → List ℕ → Recovery) → (List ℕ → Type 0) → (List ℕ → Type 0) → State → Identity → Type 0
IsCheckpointed read a_images b_images s who = EachPair a_images b_images (λ a b. IsBase (read a b) s who)

-- in a create: images of the start, no database, or the empty one
abbrev pub CreateLeaves : (List ℕ → Type 0) → (List ℕ → Type 0) → (List ℕ → List ℕ → Recovery) → Identity → List ℕ → List ℕ → Type 0
CreateLeaves a_start b_start read who a b = PairImages a_start b_start a b ⊎ (read a b ≡ no_database) ⊎ IsState (read a b) empty_state who

-- each image of the pair at each moment of a call is one that its start might have left
abbrev pub WritesNothing : {D : Type 0} → (D → List ℕ → Type 0) → (D → ℕ) → (D → ℕ → List ℕ → Type 0) → D → D → D → D → Type 0
WritesNothing images moment since a b a_end b_end = Moves images moment since (PairImages (images a) (images b)) a b a_end b_end

-- where both disks tell their files, this is so of them
abbrev pub WhereBothTold : Option (List ℕ) → Option (List ℕ) → (List ℕ → List ℕ → Type 0) → Type 0
WhereBothTold a b P = (fa fb : List ℕ) → a ≡ Some fa → b ≡ Some fb → P fa fb

-- in a create, of this identity
abbrev pub CreateMoves : {D : Type 0} → (D → List ℕ → Type 0) → (D → ℕ) → (D → ℕ → List ℕ → Type 0) → Identity → D → D → D → D → Type 0
CreateMoves images moment since who a b a_end b_end = Moves images moment since (CreateLeaves (images a) (images b) read who) a b a_end b_end
