-- The replies that tell what a commit and a take came to.
--     is_write a, made_bytes writes n      whether the call is a write, and the reply to a call that was made as commit n
--     Tells writes done result      the reply that tells it, unless it takes memory
--     TellsTake taken result      the same of a take
use Rattle.std.specs.Prelude.{◌≡◌, ℕ, Bool, true, false, if◌then◌else◌, List, [], Result, Ok, Err, ⊤}
use Rattle.dkv_base.specs.declared.run.NoMemory.{NoMemory}
use Rattle.dkv_base.specs.declared.types.Answer.TheVariants as answer
use Rattle.dkv_base.specs.Replies.{full}
use Rattle.dkv_base.specs.declared.types.Call.{Call}
use Rattle.dkv_base.specs.declared.types.Call.TheVariants as call
use Rattle.dkv_core.specs.declared.takes.Taken.{Taken}
use Rattle.dkv_core.specs.declared.takes.Taken.TheVariants as taken
use Rattle.dkv_store.specs.declared.answers.Done.{Done}
use Rattle.dkv_store.specs.declared.answers.Done.TheVariants as done
use Rattle.dkv_store.specs.declared.answers.Refusal.{Refusal}
use Rattle.dkv_store.specs.declared.answers.Refusal.TheVariants as refusal
use Rattle.dkv_pipe.specs.declared.reply_status.ReplyStatus.TheVariants as status
use Rattle.dkv_pipe.specs.ReplyFrames.{reply_bytes, bytes_of_reply, answer_bytes}

-- the call is a write
abbrev pub is_write : Call → Bool
is_write (call.Write w) = true
is_write (call.Ack id) = false
is_write (call.Fail id) = false

-- the reply to a call that was made as commit n: a write's, or a settlement's
abbrev pub made_bytes : Bool → ℕ → List ℕ
made_bytes writes n = if writes then answer_bytes (answer.Written n) else answer_bytes (answer.Settled n)

-- what a commit came to
abbrev pub done_told : Bool → Done → List ℕ
done_told writes (done.Committed n) = made_bytes writes n
done_told writes (done.Fails places) = answer_bytes (answer.Fails places)
done_told writes (done.NotU64 index) = answer_bytes (answer.NotU64 index)
done_told writes (done.Limit passed) = answer_bytes (answer.Limit passed)

-- memory was wanted, or is wanted for the reply, and nothing was made
abbrev pub MayWantMemory : Result Done Refusal → Type 0
MayWantMemory (Ok (done.Committed n)) = ⊥
MayWantMemory (Ok (done.Fails places)) = ⊤
MayWantMemory (Ok (done.NotU64 index)) = ⊥
MayWantMemory (Ok (done.Limit passed)) = ⊥
MayWantMemory (Err refusal.DiskFault) = ⊥
MayWantMemory (Err (refusal.Stopped place)) = ⊥
MayWantMemory (Err (refusal.Full bytes limit)) = ⊥
MayWantMemory (Err refusal.NoMemory) = ⊤

-- the reply that tells it; a fault of the disk has one of its own
abbrev pub IsToldBy : Bool → Result Done Refusal → List ℕ → Type 0
IsToldBy writes (Ok d) out = out ≡ done_told writes d
IsToldBy writes (Err refusal.DiskFault) out = out ≡ reply_bytes status.DiskFault []
IsToldBy writes (Err (refusal.Stopped place)) out = ⊥
IsToldBy writes (Err (refusal.Full bytes limit)) out = out ≡ bytes_of_reply (full bytes limit)
IsToldBy writes (Err refusal.NoMemory) out = ⊥

abbrev pub Tells : Bool → Result Done Refusal → Result (List ℕ) NoMemory → Type 0
Tells writes came (Ok out) = IsToldBy writes came out
Tells writes came (Err none) = MayWantMemory came

-- a take is refused by a full trail, which has a reply of its own
abbrev pub IsFullTold : Refusal → List ℕ → Type 0
IsFullTold refusal.DiskFault out = ⊥
IsFullTold (refusal.Stopped place) out = ⊥
IsFullTold (refusal.Full bytes limit) out = out ≡ bytes_of_reply (full bytes limit)
IsFullTold refusal.NoMemory out = ⊥

-- the reply to a take; only want of memory has none
abbrev pub TellsTake : Result Taken Refusal → Result (List ℕ) NoMemory → Type 0
TellsTake (Ok (taken.Leased m)) result = result ≡ Ok (answer_bytes (answer.Leased m))
TellsTake (Ok (taken.Nothing next)) result = result ≡ Ok (answer_bytes (answer.Nothing next))
TellsTake (Err e) (Ok out) = IsFullTold e out
TellsTake (Err e) (Err none) = e ≡ refusal.NoMemory

-- no stop came in between, of a commit and of a take
abbrev pub IsUnstopped : Result Done Refusal → Type 0
IsUnstopped came = (place : ℕ) → came ≡ Err (refusal.Stopped place) → ⊥

abbrev pub IsUnstoppedTake : Result Taken Refusal → Type 0
IsUnstoppedTake came = (place : ℕ) → came ≡ Err (refusal.Stopped place) → ⊥

-- nor a fault, of a take
abbrev pub IsFaultlessTake : Result Taken Refusal → Type 0
IsFaultlessTake came = came ≡ Err refusal.DiskFault → ⊥
