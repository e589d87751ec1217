-- What is decided of a call before it is made.
--     commit_of who at a, settled_by a      the commit that the call asks for, and what it settles
--     settling done id      the call that settles a message
--     may_ask c a      whether the call may be made: a settlement only of a message that is out
--     Goes c who at a p      the call goes, and this is what it does
--     IsDecided c who at a d      the decision on it: a limit, failing checks, a value that is no LE64, or what it does
use Rattle.std.specs.Prelude.{ℕ, ◌≡◌, ◌≢◌, ◌+◌, [], ◌∷◌, Bool, true, false, if◌then◌else◌, IsTrue, Option, Some, None, Err}
use Rattle.dkv_base.specs.declared.types.AtomicWrite.{AtomicWrite}
use Rattle.dkv_base.specs.declared.types.Call.{Call}
use Rattle.dkv_base.specs.declared.types.Call.TheVariants as call
use Rattle.dkv_base.specs.declared.types.Commit.{Commit}
use Rattle.dkv_base.specs.declared.types.Commit.TheVariants as commit
use Rattle.dkv_base.specs.declared.types.MsgId.{MsgId}
use Rattle.dkv_base.specs.Limits.{write_limit}
use Rattle.dkv_base.specs.State.{seen}
use Rattle.dkv_base.specs.Messages.{is_out}
use Rattle.dkv_base.specs.Writes.{failing, mutated_all}
use Rattle.dkv_base.specs.After.{after, is_legal_in}
use Rattle.dkv_core.specs.declared.prepared.Decided.{Decided}
use Rattle.dkv_core.specs.declared.prepared.Decided.TheVariants as decided
use Rattle.dkv_core.specs.declared.prepared.Settled.{Settled}
use Rattle.dkv_core.specs.Cores.{Database, Change, applied, IsReady}

-- the commit of the caller at the moment
abbrev pub commit_of : ℕ → ℕ → Call → Commit
commit_of who at (call.Write w) = commit.Wrote who at w
commit_of who at (call.Ack id) = commit.Acked who at id
commit_of who at (call.Fail id) = commit.Failed who at id

-- the message that it settles, if it does
abbrev pub settled_by : Call → Option Settled
settled_by (call.Write w) = None
settled_by (call.Ack id) = Some (record { id = id; done = true })
settled_by (call.Fail id) = Some (record { id = id; done = false })

-- the call that settles a message which was handled, or wasn't
abbrev pub settling : Bool → MsgId → Call
settling done id = if done then call.Ack id else call.Fail id

-- a settlement is of a message that is out
abbrev pub may_ask : Database → Call → Bool
may_ask c (call.Write w) = true
may_ask c (call.Ack id) = is_out id c.out
may_ask c (call.Fail id) = is_out id c.out

-- it is an acknowledgement
abbrev pub is_ack : Call → Bool
is_ack (call.Write w) = false
is_ack (call.Ack id) = true
is_ack (call.Fail id) = false

-- it is a write of which this holds
abbrev pub OfWrite : Call → (AtomicWrite → Type 0) → Type 0
OfWrite (call.Write w) P = P w
OfWrite (call.Ack id) P = ⊥
OfWrite (call.Fail id) P = ⊥

-- the commit may be made in the state, the change makes the state after it, and it is ready
pub record Goes (c : Database) (who at : ℕ) (a : Call) (p : Change) : Type 0 where
  pub legal : IsTrue (is_legal_in c.state (commit_of who at a))
  pub makes : applied p c.state ≡ after c.state (commit_of who at a ∷ [])
  pub settles : p.settled ≡ settled_by a
  pub moment : p.moment ≡ at
  pub ready : IsReady c p

-- the first that applies to a write: a limit, failing checks, a value that is no LE64; else, and for any settlement, what the call does
abbrev pub IsDecided : Database → ℕ → ℕ → Call → Decided → Type 0
IsDecided c who at a (decided.Limit passed) = OfWrite a (λ w. write_limit w ≡ Some passed)
IsDecided c who at a (decided.Fails places) = OfWrite a (λ w. (write_limit w ≡ None) × (failing w (seen c.state at) ≡ places) × (places ≢ []))
IsDecided c who at a (decided.NotU64 index) =
    OfWrite a (λ w. (write_limit w ≡ None) × (failing w (seen c.state at) ≡ []) × (mutated_all w (c.state.number + 1) at (seen c.state at) ≡ Err index))
IsDecided c who at a (decided.Goes p) = Goes c who at a p
