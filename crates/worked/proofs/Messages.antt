-- Messages: takes, settlements and failures.
use Rattle.std.proofs.Common.{◌≡◌, refl, ℕ, List, [], ◌∷◌, ◌++◌, Some, None, true, false}
use Rattle.std.specs.Prelude.{map}
use Rattle.dkv_base.specs.declared.types.Answer.TheVariants as answer
use Rattle.dkv_base.specs.declared.types.Ask.TheVariants as ask
use Rattle.dkv_base.specs.declared.types.Commit.{Commit}
use Rattle.dkv_base.specs.declared.types.Commit.TheVariants as commit
use Rattle.dkv_base.specs.declared.types.Message.{Message}
use Rattle.dkv_base.specs.declared.types.Step.{Step}
use Rattle.dkv_base.specs.State.{empty_state}
use Rattle.dkv_base.specs.After.{after}
use Rattle.dkv_base.specs.Protobuf.{varint, groups}
use Rattle.dkv_base.specs.Trails.{is_legal_trail}
use Rattle.dkv_base.specs.Replies.{said}
use Rattle.worked.proofs.Words.{enqueue, enqueues, by_1, id, limit, told, left, entry}

-- the key for a payload that is not delivered
abbrev key_d : List ℕ
key_d = 2 ∷ 0x64 ∷ 0 ∷ []

-- a message with one interval
abbrev failing_message : ℕ → ℕ → Message
failing_message due fails = record {
  id = id 1 0;
  payload = 0x70 ∷ [];
  due = due;
  fails = fails;
  undelivered = key_d ∷ [];
  backoff = 100 ∷ [];
}

-- a message that is due at 50, and its takes and failures
abbrev steps_failing : List Step
steps_failing =
    by_1 10 (ask.Write (enqueues (enqueue 0x70 (100 ∷ []) 50 (key_d ∷ []) ∷ [])))
    ∷ by_1 49 ask.Take
    ∷ by_1 50 ask.Take
    ∷ by_1 60 (ask.Settle (id 1 0) false)
    ∷ by_1 159 ask.Take
    ∷ by_1 160 ask.Take
    ∷ by_1 160 (ask.Settle (id 1 0) false)
    ∷ by_1 160 ask.Take
    ∷ by_1 160 (ask.Settle (id 1 0) false)
    ∷ []

-- taken when due, failed, taken again after its interval, and gone after one failure more
two_failures_exhaust : told steps_failing ≡
    said (answer.Written 1)
    ∷ said (answer.Nothing (Some 50))
    ∷ said (answer.Leased (failing_message 50 0))
    ∷ said (answer.Settled 2)
    ∷ said (answer.Nothing (Some 160))
    ∷ said (answer.Leased (failing_message 160 1))
    ∷ said (answer.Settled 3)
    ∷ said (answer.Nothing None)
    ∷ said answer.NoLease
    ∷ []
unfolding varint groups
two_failures_exhaust = refl

-- with its payload under its key
payload_under_its_key : (left steps_failing).state ≡ record { number = 3; moment = 160; entries = entry key_d (0x70 ∷ []) 1 3 0 ∷ []; messages = [] }
unfolding varint groups
payload_under_its_key = refl

-- what the steps left is what the base and the trail say
messages_trail_is_legal : is_legal_trail empty_state limit (left steps_failing).trail ≡ true
unfolding varint groups
messages_trail_is_legal = refl

-- of two that are due the lower id first; one that is acknowledged is gone
messages_by_id : told (
    by_1 5 (ask.Write (enqueues (enqueue 1 [] 0 [] ∷ enqueue 2 [] 0 [] ∷ [])))
    ∷ by_1 5 ask.Take ∷ by_1 5 ask.Take ∷ by_1 5 ask.Take ∷ by_1 5 (ask.Settle (id 1 0) true) ∷ []) ≡
    said (answer.Written 1)
    ∷ said (answer.Leased (record { id = id 1 0; payload = 1 ∷ []; due = 0; fails = 0; undelivered = []; backoff = 100 ∷ 1000 ∷ 5000 ∷ 30000 ∷ 60000 ∷ [] }))
    ∷ said (answer.Leased (record { id = id 1 1; payload = 2 ∷ []; due = 0; fails = 0; undelivered = []; backoff = 100 ∷ 1000 ∷ 5000 ∷ 30000 ∷ 60000 ∷ [] }))
    ∷ said (answer.Nothing None)
    ∷ said (answer.Settled 2)
    ∷ []
unfolding varint groups
messages_by_id = refl

-- its failure
abbrev failed_at : ℕ → Commit
failed_at at = commit.Failed 1 at (id 1 0)

-- when the message of a first commit is due
abbrev due_moments : List Commit → List ℕ
due_moments cs = map (λ m. m.due) (after empty_state (commit.Wrote 1 0 (enqueues (enqueue 1 [] 0 [] ∷ [])) ∷ cs)).messages

-- the first two waits where no schedule is given
default_schedule : due_moments (failed_at 0 ∷ []) ++ due_moments (failed_at 0 ∷ failed_at 100 ∷ []) ≡ 100 ∷ 1100 ∷ []
default_schedule = refl
