-- What contracts see of a store, and what its type keeps.
--     Contents      the base, the items and the limit of the term, the core, the commit in doubt, the identity, the bytes of the records, which file is
--                   used, and the two disks, now and when the term began
--     used_of s, other_of s      the disk that is used, and the other one
--     Keeps ..      what every store keeps
--     IsDone, IsRefused      the answers of a commit, and what they leave
--     IsTake, IsNotTaken      the answers of a take, and what they leave
use Rattle.std.specs.Prelude.{ℕ, replicate, ◌≡◌, ◌≢◌, ◌⊎◌, ◌+◌, ◌-◌, ◌^◌, ◌<◌, ◌≤◌, Bool, true, false, IsTrue, List, [], ◌∷◌, ◌++◌, max, min, count_by, Option, Some, None, is_some, Result, Ok, Err, ◌||◌}
use Rattle.dkv_base.specs.declared.types.AtomicWrite.{AtomicWrite}
use Rattle.dkv_base.specs.declared.types.Call.{Call}
use Rattle.dkv_base.specs.declared.types.Call.TheVariants as called
use Rattle.dkv_base.specs.declared.types.Commit.{Commit}
use Rattle.dkv_base.specs.declared.types.Commit.TheVariants as commit
use Rattle.dkv_base.specs.declared.types.Item.{Item}
use Rattle.dkv_base.specs.declared.types.Item.TheVariants as item
use Rattle.dkv_base.specs.declared.types.Message.{Message}
use Rattle.dkv_base.specs.declared.types.MsgId.{MsgId}
use Rattle.dkv_base.specs.declared.types.Profile.TheVariants.{Narrow}
use Rattle.dkv_base.specs.Profiles.{body_most}
use Rattle.dkv_base.specs.Spelling.{record_length}
use Rattle.dkv_base.specs.Limits.{write_limit}
use Rattle.dkv_base.specs.State.{State, seen, empty_state}
use Rattle.dkv_base.specs.Moments.{capped_moment}
use Rattle.dkv_base.specs.Sound.{IsSound}
use Rattle.dkv_base.specs.After.{after, is_legal_in}
use Rattle.dkv_base.specs.Trails.{commits, out, greatest, weight, first_stop, is_legal_trail}
use Rattle.dkv_base.specs.Messages.{is_out}
use Rattle.dkv_base.specs.Writes.{failing, mutated_all}
use Rattle.dkv_core.specs.Cores.{Database}
use Rattle.dkv_core.specs.Decisions.{commit_of, OfWrite}
use Rattle.dkv_core.specs.Settling.{without_id}
use Rattle.dkv_store.specs.Trails.{message_of, spent, freed, FitsIn}
use Rattle.dkv_journal.specs.declared.journal.Journal.{Journal}
use Rattle.dkv_core.specs.Takes.{IsTaken, IsFirst}
use Rattle.dkv_core.specs.declared.takes.Taken.{Taken}
use Rattle.dkv_core.specs.declared.takes.Taken.TheVariants as taken
use Rattle.dkv_io.specs.Disks.{Only}
use Rattle.dkv_msgs.specs.Readings.{reads_atomic_write}
use Rattle.dkv_files.specs.Files.{first_gate, generation_of}
use Rattle.dkv_files.specs.Recovered as Recovered
use Rattle.dkv_files.specs.Recovered.{Found, first_opening, last_gate, used_file, uses_second}
use Rattle.dkv_store.specs.declared.answers.OpenRefusal.{OpenRefusal}
use Rattle.dkv_store.specs.declared.answers.OpenRefusal.TheVariants as opening
use Rattle.dkv_files.specs.Crashes.{Identity, identity, and_then}
use Rattle.dkv_store.specs.declared.held.InUse.{InUse}
use Rattle.dkv_store.specs.Held.{Hold, Guarded, picked}
use Rattle.dkv_files.specs.Crashes.{read}
use Rattle.dkv_store.specs.declared.answers.Done.{Done}
use Rattle.dkv_store.specs.declared.answers.Done.TheVariants as done
use Rattle.dkv_store.specs.declared.answers.Refusal.{Refusal}
use Rattle.dkv_store.specs.declared.answers.Refusal.TheVariants as refusal

pub record Contents (D : Type 0) : Type 0 where
  pub base : State
  pub core : Database
  pub trail : List Item
  pub roomless : List MsgId
  pub doubt : Option Commit
  pub who : Identity
  -- of the weight of the items
  pub limit : ℕ
  -- of the used file, behind its image
  pub record_bytes : ℕ
  pub in_use : InUse
  pub a : D
  pub b : D
  pub a_first : D
  pub b_first : D

-- the disk that is used
abbrev pub used_of : {D : Type 0} → Contents D → D
used_of s = picked s.in_use.second s.a s.b

-- the disk that isn't used
abbrev pub other_of : {D : Type 0} → Contents D → D
other_of s = picked s.in_use.second s.b s.a

-- ---- what a store keeps

-- a commit that may or may not have reached the disk
abbrev pub is_doubt : Item → Bool
is_doubt (item.Made c) = false
is_doubt (item.Took who at id) = false
is_doubt (item.Doubt who at) = true
is_doubt (item.Stop who at last) = false

-- the items number at most the rise of the two counts, until one stands at the last value of a u64
abbrev pub IsWithinRise : ℕ → ℕ → ℕ → ℕ → ℕ → Type 0
IsWithinRise n a_first a b_first b = a < 2 ^ 64 - 1 → b < 2 ^ 64 - 1 → n + a_first + b_first ≤ a + b

-- the state is the base's after the trail, and the used disk and the other one hold it
pub record Keeps {D : Type 0} (sees : D → Option (List ℕ)) (images : D → List ℕ → Type 0) (faults : D → ℕ) (journal : Journal) (used other : D) (s : Contents D) : Type 0 where
  pub sound : IsSound s.base
  pub state : s.core.state ≡ after s.base (commits s.trail)
  pub legal : IsTrue (is_legal_trail s.base s.limit s.trail)
  pub leased : (id : MsgId) → is_out id s.core.out ≡ is_out id (out s.trail)
  pub moments : greatest s.base s.trail ≤ s.core.greatest
  pub doubts : IsWithinRise (count_by is_doubt s.trail) (faults s.a_first) (faults s.a) (faults s.b_first) (faults s.b)
  pub named : journal.in_doubt ≡ is_some s.doubt
  pub a_is : s.a ≡ picked s.in_use.second used other
  pub b_is : s.b ≡ picked s.in_use.second other used
  pub stands : (file : List ℕ) → sees used ≡ Some file → Hold (images used) (Guarded (sees other) (images other)) journal s.in_use s.doubt s.core.state s.who

-- what of this a caller may use: the state after a sound base and a legal trail, the ids that are out, and the doubts
pub record Kept {D : Type 0} (faults : D → ℕ) (s : Contents D) : Type 0 where
  pub sound : IsSound s.base
  pub state : s.core.state ≡ after s.base (commits s.trail)
  pub legal : IsTrue (is_legal_trail s.base s.limit s.trail)
  pub leased : (id : MsgId) → is_out id s.core.out ≡ is_out id (out s.trail)
  pub moments : greatest s.base s.trail ≤ s.core.greatest
  pub doubts : IsWithinRise (count_by is_doubt s.trail) (faults s.a_first) (faults s.a) (faults s.b_first) (faults s.b)

-- ---- the answers of a commit

-- the effective moment of a call
abbrev pub effective_at : {D : Type 0} → Contents D → ℕ → ℕ
effective_at s at = max (capped_moment at) s.core.greatest

-- it acknowledges a message that did not lose its place
abbrev pub IsAckWithPlace : Call → List MsgId → Type 0
IsAckWithPlace (called.Write w) lost = ⊥
IsAckWithPlace (called.Ack id) lost = is_out id lost ≡ false
IsAckWithPlace (called.Fail id) lost = ⊥

-- the same but for the greatest moment and the room
pub record IsRaisedTo {D : Type 0} (t : ℕ) (old new : Contents D) : Type 0 where
  pub base : new.base ≡ old.base
  pub state : new.core.state ≡ old.core.state
  pub out : new.core.out ≡ old.core.out
  pub greatest : new.core.greatest ≡ t
  pub trail : new.trail ≡ old.trail
  pub doubt : new.doubt ≡ old.doubt
  pub roomless : new.roomless ≡ old.roomless
  pub who : new.who ≡ old.who
  pub limit : new.limit ≡ old.limit
  pub record_bytes : new.record_bytes ≡ old.record_bytes
  pub in_use : new.in_use ≡ old.in_use
  pub a : new.a ≡ old.a
  pub b : new.b ≡ old.b

-- the same but for the greatest moment, which may have risen to this one, and the room
abbrev pub IsRaised : {D : Type 0} → ℕ → Contents D → Contents D → Type 0
IsRaised t old new = IsRaisedTo old.core.greatest old new ⊎ IsRaisedTo t old new

-- the state and the trail have the commit
pub record IsMade {D : Type 0} (t : ℕ) (c : Commit) (n : ℕ) (old new : Contents D) : Type 0 where
  pub number : n ≡ old.core.state.number + 1
  pub legal : IsTrue (is_legal_in old.core.state c)
  pub base : new.base ≡ old.base
  pub state : new.core.state ≡ and_then old.core.state c
  pub greatest : new.core.greatest ≡ t
  pub trail : new.trail ≡ old.trail ++ item.Made c ∷ []
  pub roomless : new.roomless ≡ freed (message_of c) old.roomless
  pub sure : new.doubt ≡ None
  pub who : new.who ≡ old.who
  pub limit : new.limit ≡ old.limit
  pub record_bytes : new.record_bytes ≡ min (old.record_bytes + (5 + record_length c)) (2 ^ 64 - 1)
  pub in_use : new.in_use ≡ old.in_use
  pub fits : FitsIn old.limit old.trail c

-- the content stays, but for a doubt in the trail
pub record IsDoubtful {D : Type 0} (who t : ℕ) (old new : Contents D) : Type 0 where
  pub base : new.base ≡ old.base
  pub state : new.core.state ≡ old.core.state
  pub out : new.core.out ≡ old.core.out
  pub greatest : new.core.greatest ≡ t
  pub trail : new.trail ≡ old.trail ++ item.Doubt who t ∷ []
  pub identity : new.who ≡ old.who
  pub limit : new.limit ≡ old.limit
  pub record_bytes : new.record_bytes ≡ old.record_bytes
  pub in_use : new.in_use ≡ old.in_use

-- a write passes no limit and finds no stop
abbrev pub IsFree : {D : Type 0} → Contents D → AtomicWrite → Type 0
IsFree s w = (write_limit w ≡ None) × (first_stop s.trail ≡ None)

-- a write that may be made, but for the weight of the items with its own
abbrev pub IsFull : {D : Type 0} → Contents D → ℕ → ℕ → AtomicWrite → Type 0
IsFull s who t w = IsTrue (is_legal_in s.core.state (commit.Wrote who t w)) × (s.limit < weight (s.trail ++ item.Made (commit.Wrote who t w) ∷ []))

abbrev pub IsDone : {D : Type 0} → Contents D → ℕ → ℕ → Call → Done → Contents D → Type 0
IsDone old who t call (done.Committed n) new = IsMade t (commit_of who t call) n old new
IsDone old who t call (done.Fails places) new =
    OfWrite call (λ w. IsFree old w × (failing w (seen old.core.state t) ≡ places) × (places ≢ [])) × IsRaisedTo t old new
IsDone old who t call (done.NotU64 index) new =
    OfWrite call (λ w. IsFree old w × (failing w (seen old.core.state t) ≡ []) × (mutated_all w (old.core.state.number + 1) t (seen old.core.state t) ≡ Err index)) × IsRaisedTo t old new
IsDone old who t call (done.Limit passed) new = OfWrite call (λ w. write_limit w ≡ Some passed) × IsRaisedTo old.core.greatest old new

abbrev pub IsRefused : {D : Type 0} → Contents D → ℕ → ℕ → Call → Refusal → Contents D → Type 0
IsRefused old who t call refusal.DiskFault new =
    IsTrue (is_legal_in old.core.state (commit_of who t call)) × IsDoubtful who t old new × (new.roomless ≡ spent (message_of (commit_of who t call)) old.roomless) × FitsIn old.limit old.trail (commit_of who t call)
IsRefused old who t call (refusal.Stopped place) new = OfWrite call (λ w. (write_limit w ≡ None) × (first_stop old.trail ≡ Some place)) × IsRaisedTo t old new
IsRefused old who t call (refusal.Full bytes limit) new = OfWrite call (IsFull old who t) × (bytes ≡ weight old.trail) × (limit ≡ old.limit) × IsRaisedTo t old new
IsRefused old who t call refusal.NoMemory new = IsRaised t old new

-- what a write behind a stop is answered: the first limit that it passes, or the place of the stop
abbrev pub IsHeldBack : {D : Type 0} → Contents D → ℕ → Call → Result Done Refusal → Contents D → Type 0
IsHeldBack old t call (Ok (done.Limit passed)) new = OfWrite call (λ w. write_limit w ≡ Some passed) × IsRaisedTo old.core.greatest old new
IsHeldBack old t call (Err (refusal.Stopped place)) new = OfWrite call (λ w. (write_limit w ≡ None) × (first_stop old.trail ≡ Some place)) × IsRaisedTo t old new
IsHeldBack old t call (Ok (done.Committed n)) new = ⊥
IsHeldBack old t call (Ok (done.Fails places)) new = ⊥
IsHeldBack old t call (Ok (done.NotU64 index)) new = ⊥
IsHeldBack old t call (Err refusal.DiskFault) new = ⊥
IsHeldBack old t call (Err (refusal.Full bytes limit)) new = ⊥
IsHeldBack old t call (Err refusal.NoMemory) new = ⊥

-- a call that goes has a record that may be written
abbrev pub IsShort : {D : Type 0} → Contents D → ℕ → ℕ → Call → Type 0
IsShort s who t call = IsTrue (is_legal_in s.core.state (commit_of who t call)) → record_length (commit_of who t call) ≤ body_most Narrow

-- ---- the other calls

-- a term under this limit begins on this core and these disks: there is no item, and this is in doubt
pub record Begins {D : Type 0} (c : Database) (me : Identity) (limit_is bytes_is : ℕ) (doubt_is : Option Commit) (using : InUse) (x y : D) (s : Contents D) : Type 0 where
  pub base : s.base ≡ c.state
  pub core : s.core ≡ c
  pub trail : s.trail ≡ []
  pub roomless : s.roomless ≡ []
  pub doubt : s.doubt ≡ doubt_is
  pub record_bytes : s.record_bytes ≡ bytes_is
  pub in_use : s.in_use ≡ using
  pub who : s.who ≡ me
  pub limit : s.limit ≡ limit_is
  pub a_is : s.a ≡ x
  pub b_is : s.b ≡ y
  pub a_first : s.a_first ≡ x
  pub b_first : s.b_first ≡ y

-- a store of the new database over these disks, with an identity of zeros and this limit
pub record IsFresh {D : Type 0} (a b : D) (limit_is : ℕ) (s : Contents D) : Type 0 where
  pub base : s.base ≡ empty_state
  pub state : s.core.state ≡ empty_state
  pub out : s.core.out ≡ []
  pub greatest : s.core.greatest ≡ 0
  pub trail : s.trail ≡ []
  pub roomless : s.roomless ≡ []
  pub doubt : s.doubt ≡ None
  pub id : s.who.id ≡ replicate 16 0
  pub secret : s.who.secret ≡ replicate 32 0
  pub record_bytes : s.record_bytes ≡ 0
  pub second : s.in_use.second ≡ false
  pub generation : s.in_use.generation ≡ 1
  pub limit : s.limit ≡ limit_is
  pub a_is : s.a ≡ a
  pub b_is : s.b ≡ b
  pub a_first : s.a_first ≡ a
  pub b_first : s.b_first ≡ b

-- a message was taken, and its item joined the trail, whose weight is within the limit; or none is due
abbrev pub IsTake : {D : Type 0} → Contents D → ℕ → ℕ → Taken → Contents D → Type 0
IsTake old who t (taken.Leased m) new = IsTaken old.core t (taken.Leased m) new.core × (new.trail ≡ old.trail ++ item.Took who t m.id ∷ []) × (new.roomless ≡ without_id m.id old.roomless) × (weight (old.trail ++ item.Took who t m.id ∷ []) ≤ old.limit)
IsTake old who t (taken.Nothing moment) new = IsTaken old.core t (taken.Nothing moment) new.core × (new.trail ≡ old.trail) × (new.roomless ≡ old.roomless)

-- why no message was taken, and what that leaves: it touches no disk
abbrev pub IsNotTaken : {D : Type 0} → Contents D → ℕ → ℕ → Refusal → Contents D → Type 0
IsNotTaken old who t refusal.DiskFault new = ⊥
IsNotTaken old who t (refusal.Stopped place) new = (first_stop old.trail ≡ Some place) × IsRaisedTo t old new
IsNotTaken old who t (refusal.Full bytes limit) new =
    (m : Message) × IsFirst old.core t m × (old.limit < weight (old.trail ++ item.Took who t m.id ∷ [])) × (bytes ≡ weight old.trail) × (limit ≡ old.limit) × IsRaisedTo t old new
IsNotTaken old who t refusal.NoMemory new = IsRaisedTo old.core.greatest old new

-- both disks, and what they are of, stay
pub record SameDisks {D : Type 0} (old new : Contents D) : Type 0 where
  pub a : new.a ≡ old.a
  pub b : new.b ≡ old.b
  pub base : new.base ≡ old.base
  pub doubt : new.doubt ≡ old.doubt
  pub who : new.who ≡ old.who
  pub limit : new.limit ≡ old.limit
  pub record_bytes : new.record_bytes ≡ old.record_bytes
  pub in_use : new.in_use ≡ old.in_use
  pub a_first : new.a_first ≡ old.a_first
  pub b_first : new.b_first ≡ old.b_first

-- a stop stands behind the items, and the moment is raised; nothing else changed
pub record IsStopped {D : Type 0} (who t : ℕ) (last : Bool) (old new : Contents D) : Type 0 where
  pub core : new.core ≡ record old.core { greatest = t }
  pub trail : new.trail ≡ old.trail ++ item.Stop who t last ∷ []
  pub roomless : new.roomless ≡ old.roomless
  pub disks : SameDisks old new

-- ---- opening and creating

-- the store begins a term on what the two files recover to, and they are at rest
pub record IsOpened {D : Type 0} (images : D → List ℕ → Type 0) (fa fb : List ℕ) (s : Contents D) : Type 0 where
  pub found : Found
  pub recovered : read fa fb ≡ Recovered.found found
  pub base : s.base ≡ after found.base found.commits
  pub state : s.core.state ≡ s.base
  pub who : s.who ≡ identity found
  pub trail : s.trail ≡ []
  pub out_none : s.core.out ≡ []
  pub record_bytes : last_gate (used_file fa fb) ≡ first_gate (used_file fa fb) + s.record_bytes
  pub second : s.in_use.second ≡ uses_second fa fb
  pub generation : s.in_use.generation ≡ generation_of (used_file fa fb)
  pub doubt : s.doubt ≡ None
  pub a_only : Only fa (images s.a)
  pub b_only : Only fb (images s.b)

-- why two files are not opened; a fault and want of memory say nothing of their bytes
abbrev pub IsUnopened : List ℕ → List ℕ → OpenRefusal → Type 0
IsUnopened fa fb opening.DiskFault = Unit {0}
IsUnopened fa fb opening.NoMemory = Unit {0}
IsUnopened fa fb opening.NoDatabase = first_opening reads_atomic_write fa fb ≡ Ok Recovered.no_database
IsUnopened fa fb (opening.Damaged file at) = first_opening reads_atomic_write fa fb ≡ Ok (Recovered.damaged file at)
IsUnopened fa fb (opening.NotBuilt at) = first_opening reads_atomic_write fa fb ≡ Err at

-- what is in doubt after a fault: nothing, what was, or this commit
abbrev pub IsOldOrNew : Option Commit → Commit → Option Commit → Type 0
IsOldOrNew old c new = (new ≡ None) ⊎ (new ≡ old) ⊎ (new ≡ Some c)
