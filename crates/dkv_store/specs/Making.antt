-- A commit made again in a core between two commits.
use Rattle.std.specs.Prelude.{ℕ, ◌≡◌, Bool, true, false, IsTrue, List, [], ◌∷◌, Some}
use Rattle.dkv_base.specs.declared.types.Call.{Call}
use Rattle.dkv_base.specs.declared.types.Call.TheVariants as call
use Rattle.dkv_base.specs.declared.types.Commit.{Commit}
use Rattle.dkv_base.specs.declared.types.MsgId.{MsgId}
use Rattle.dkv_base.specs.State.{same_id}
use Rattle.dkv_base.specs.After.{after, is_legal_in}
use Rattle.dkv_base.specs.Messages.{is_out}
use Rattle.dkv_core.specs.Cores.{Database}
use Rattle.dkv_msgs.specs.Readings.{reads_atomic_write}
use Rattle.dkv_record.specs.Records.{commit_of}

-- no message is out, and no moment is later than the last commit's
pub record IsBetween (c : Database) : Type 0 where
  pub out : c.out ≡ []
  pub greatest : c.greatest ≡ c.state.moment

-- the message that the call settles is out, and no other
abbrev pub IsLeasedFor : Call → Database → Type 0
IsLeasedFor (call.Write w) c = c.out ≡ []
IsLeasedFor (call.Ack id) c = (k : MsgId) → is_out k c.out ≡ same_id k id
IsLeasedFor (call.Fail id) c = (k : MsgId) → is_out k c.out ≡ same_id k id

-- it was made, or may not be made
abbrev pub IsMadeAgain : Database → Commit → Database → Bool → Type 0
IsMadeAgain old c new true = IsTrue (is_legal_in old.state c) × (new.state ≡ after old.state (c ∷ [])) × IsBetween new
IsMadeAgain old c new false = is_legal_in old.state c ≡ false

-- the body's commit was made, or the body is none that may be made
abbrev pub IsRemade : Database → List ℕ → Database → Bool → Type 0
IsRemade old body new true = (c : Commit) × (commit_of reads_atomic_write body ≡ Some c) × IsMadeAgain old c new true
IsRemade old body new false = (c : Commit) → commit_of reads_atomic_write body ≡ Some c → is_legal_in old.state c ≡ false
