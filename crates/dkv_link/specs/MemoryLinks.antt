-- What a link in memory holds, and what its calls do.
--     bytes_got, bytes_left, bytes_sent, room      what it gave, what it has left to give, what was written, and for how many bytes more it has memory
--     ReadsAsPlanned P old new answer into      all that a read does, where End comes only where P holds
--     OnlySends old new      a write leaves all but what was sent and the plan
use Rattle.std.specs.Prelude.{◌≡◌, ◌-◌, ◌++◌, ℕ, Bool, List, length, vec_len, vec_capacity}
use Rattle.dkv_io.specs.Plans.{IsGoodCall, IsFailedCall}
use Rattle.dkv_io.specs.declared.fault_plan.FaultPlan.{FaultPlan}
use Rattle.dkv_link.specs.Inputs.{passed, to_come}
use Rattle.dkv_link.specs.Links.{given}
use Rattle.dkv_link.specs.Paces.{IsQuietRead, piece_of, after_read, GivesPiece, EndsFor, QuietFor}
use Rattle.dkv_link.specs.declared.memory_link.MemoryLink.{MemoryLink}
use Rattle.dkv_link.specs.declared.link.LinkGot.{LinkGot}
use Rattle.dkv_link.specs.declared.link.LinkGot.TheVariants.{Bytes, End, Quiet, Failed}

-- the bytes that its reads gave
abbrev pub bytes_got : MemoryLink → List ℕ
bytes_got link = passed link.input

-- the bytes that it gives from now on
abbrev pub bytes_left : MemoryLink → List ℕ
bytes_left link = to_come link.input

-- what was written
abbrev pub bytes_sent : MemoryLink → List ℕ
bytes_sent link = link.output.items

-- for how many bytes more it has memory
abbrev pub room : MemoryLink → ℕ
room link = vec_capacity link.output - vec_len link.output

-- whether its last read said End
abbrev pub has_ended : MemoryLink → Bool
has_ended link = link.ended

-- how many of its latest reads said Quiet
abbrev pub quiet_count : MemoryLink → ℕ
quiet_count link = link.quiet

-- a read fails as planned, and only then
abbrev pub LinkFailsAsPlanned : FaultPlan → FaultPlan → LinkGot → Type 0
LinkFailsAsPlanned old new (Bytes n) = IsGoodCall old new
LinkFailsAsPlanned old new End = IsGoodCall old new
LinkFailsAsPlanned old new Quiet = IsGoodCall old new
LinkFailsAsPlanned old new Failed = IsFailedCall ⊥ old new

-- what a read gives is what was left, in order; it fails and is quiet as planned, and ends only where P holds
pub record ReadsAsPlanned (P : Type 0) (old new : MemoryLink) (answer : LinkGot) (into : List ℕ) : Type 0 where
  pub got : bytes_got new ≡ bytes_got old ++ given answer into
  pub left : bytes_left old ≡ given answer into ++ bytes_left new
  pub piece : GivesPiece (piece_of old.pace) (length into) (length (bytes_left old)) answer
  pub ends : EndsFor P answer
  pub quiets : QuietFor (IsQuietRead old.pace) answer
  pub plan : LinkFailsAsPlanned old.plan new.plan answer
  pub pace : new.pace ≡ after_read old.pace
  pub sent : bytes_sent new ≡ bytes_sent old

-- a write leaves what was read, what is left, and the answers of the reads
pub record OnlySends (old new : MemoryLink) : Type 0 where
  pub got : bytes_got new ≡ bytes_got old
  pub left : bytes_left new ≡ bytes_left old
  pub pace : new.pace ≡ old.pace
  pub ended : has_ended new ≡ has_ended old
  pub quiet : quiet_count new ≡ quiet_count old
