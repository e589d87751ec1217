-- A store as the one-thread database of the steps sees it.
--     StandsFor s c      the situation is the store's
--     Answers old who at a mark r new      in each situation of the old store the ask has this reply, and leads to a situation of the new one
--     AnswersCall, AnswersTake      the same of what a commit and a take return
use Rattle.std.specs.Prelude.{ℕ, ◌≡◌, Bool, true, false, Result, Ok, Err}
use Rattle.dkv_base.specs.declared.types.Answer.{Answer}
use Rattle.dkv_base.specs.declared.types.Answer.TheVariants as answer
use Rattle.dkv_base.specs.declared.types.Ask.{Ask}
use Rattle.dkv_base.specs.declared.types.Ask.TheVariants as ask
use Rattle.dkv_base.specs.declared.types.Call.{Call}
use Rattle.dkv_base.specs.declared.types.Call.TheVariants as call
use Rattle.dkv_base.specs.declared.types.MsgId.{MsgId}
use Rattle.dkv_base.specs.Messages.{is_out}
use Rattle.dkv_base.specs.Replies.{Reply, said, stopped, full, disk_fault}
use Rattle.dkv_base.specs.Steps.{Situation, effective, step_at}
use Rattle.dkv_core.specs.declared.takes.Taken.{Taken}
use Rattle.dkv_core.specs.declared.takes.Taken.TheVariants as taken
use Rattle.dkv_store.specs.declared.answers.Done.{Done}
use Rattle.dkv_store.specs.declared.answers.Done.TheVariants as done
use Rattle.dkv_store.specs.declared.answers.Refusal.{Refusal}
use Rattle.dkv_store.specs.declared.answers.Refusal.TheVariants as refusal
use Rattle.dkv_store.specs.Stores.{Contents, IsRaised, effective_at}

-- the store's state and trail, the same messages out, its greatest moment and its limit
pub record StandsFor {D : Type 0} (s : Situation) (c : Contents D) : Type 0 where
  pub state : s.state ≡ c.core.state
  pub out : (id : MsgId) → is_out id s.out ≡ is_out id c.core.out
  pub greatest : s.greatest ≡ c.core.greatest
  pub trail : s.trail ≡ c.trail
  pub limited : s.limit ≡ c.limit

-- In each situation of the old store the step of this caller has this reply, and leads to a situation of the new one. A mark makes a commit a fault of the disk.
abbrev pub Answers : {D : Type 0} → Contents D → ℕ → ℕ → Ask → Bool → Reply → Contents D → Type 0
Answers old who at a mark r new =
    (s : Situation) → StandsFor s old
    → ((step_at s who (effective s at) a mark).0 ≡ r) × StandsFor (step_at s who (effective s at) a mark).1 new

-- what asks for the call
abbrev pub ask_of : Call → Ask
ask_of (call.Write w) = ask.Write w
ask_of (call.Ack id) = ask.Settle id true
ask_of (call.Fail id) = ask.Settle id false

-- the answer to the call that was made as commit n
abbrev pub made_answer : Call → ℕ → Answer
made_answer (call.Write w) n = answer.Written n
made_answer (call.Ack id) n = answer.Settled n
made_answer (call.Fail id) n = answer.Settled n

-- the answer that a commit came to
abbrev pub answer_of : Call → Done → Answer
answer_of a (done.Committed n) = made_answer a n
answer_of a (done.Fails places) = answer.Fails places
answer_of a (done.NotU64 index) = answer.NotU64 index
answer_of a (done.Limit passed) = answer.Limit passed

-- the reply to a call; want of memory leaves all but the greatest moment
abbrev pub AnswersCall : {D : Type 0} → Contents D → ℕ → ℕ → Call → Result Done Refusal → Contents D → Type 0
AnswersCall old who at a (Ok d) new = Answers old who at (ask_of a) false (said (answer_of a d)) new
AnswersCall old who at a (Err refusal.DiskFault) new = Answers old who at (ask_of a) true disk_fault new
AnswersCall old who at a (Err (refusal.Stopped place)) new = Answers old who at (ask_of a) false (stopped place) new
AnswersCall old who at a (Err (refusal.Full bytes limit)) new = Answers old who at (ask_of a) false (full bytes limit) new
AnswersCall old who at a (Err refusal.NoMemory) new = IsRaised (effective_at old at) old new

-- the reply to a take
abbrev pub AnswersTake : {D : Type 0} → Contents D → ℕ → ℕ → Result Taken Refusal → Contents D → Type 0
AnswersTake old who at (Ok (taken.Leased m)) new = Answers old who at ask.Take false (said (answer.Leased m)) new
AnswersTake old who at (Ok (taken.Nothing next)) new = Answers old who at ask.Take false (said (answer.Nothing next)) new
AnswersTake old who at (Err (refusal.Stopped place)) new = Answers old who at ask.Take false (stopped place) new
AnswersTake old who at (Err (refusal.Full bytes limit)) new = Answers old who at ask.Take false (full bytes limit) new
AnswersTake old who at (Err refusal.DiskFault) new = ⊥
AnswersTake old who at (Err refusal.NoMemory) new = IsRaised (effective_at old at) old new
