-- Messages whose numbers fit their types. Only these can be told apart by what is written; bytes play no part.
--     WriteFits w, ReadFits m, ..      each number fits its type
use Rattle.std.specs.Prelude.{ℕ, ◌^◌, ◌<◌, FitsSigned, IfSome, List, All}
use Rattle.std.specs.Int.{w32, w64}
use Rattle.dkv_base.specs.declared.types.AtomicWrite.{AtomicWrite}
use Rattle.dkv_base.specs.declared.types.Enqueue.{Enqueue}
use Rattle.dkv_base.specs.declared.types.Mutation.{Mutation}
use Rattle.dkv_base.specs.declared.types.ReadRange.{ReadRange}
use Rattle.dkv_base.specs.declared.types.Value.{Value}
use Rattle.dkv_msgs.specs.declared.types.AtomicWriteOutput.{AtomicWriteOutput}
use Rattle.dkv_msgs.specs.declared.types.KvEntry.{KvEntry}
use Rattle.dkv_msgs.specs.declared.types.SnapshotRead.{SnapshotRead}
use Rattle.dkv_msgs.specs.declared.types.SnapshotReadOutput.{SnapshotReadOutput}
use Rattle.dkv_msgs.specs.declared.types.WatchKeyOutput.{WatchKeyOutput}
use Rattle.dkv_msgs.specs.declared.types.WatchOutput.{WatchOutput}

-- unsigned numbers of 32 bits
abbrev pub NumbersFit : List ℕ → Type 0
NumbersFit ns = All (λ n. n < 2 ^ 32) ns

-- ---- requests

-- ReadRange: a limit of 32 bits
abbrev pub RangeFits : ReadRange → Type 0
RangeFits r = FitsSigned w32 r.limit

-- SnapshotRead
abbrev pub ReadFits : SnapshotRead → Type 0
ReadFits m = All RangeFits m.ranges

-- KvValue: an encoding of 32 bits
abbrev pub ValueFits : Value → Type 0
ValueFits v = FitsSigned w32 v.encoding

-- Mutation: a kind of 32 bits, and a moment of 64
pub record MutationFits (m : Mutation) : Type 0 where
  pub value : IfSome m.value ValueFits
  pub kind : FitsSigned w32 m.kind
  pub expire_at_ms : FitsSigned w64 m.expire_at_ms

-- Enqueue: a deadline of 64 bits, and intervals of 32
pub record EnqueueFits (q : Enqueue) : Type 0 where
  pub deadline_ms : FitsSigned w64 q.deadline_ms
  pub backoff : NumbersFit q.backoff

-- AtomicWrite
pub record WriteFits (w : AtomicWrite) : Type 0 where
  pub mutations : All MutationFits w.mutations
  pub enqueues : All EnqueueFits w.enqueues

-- ---- replies

-- KvEntry: an encoding of 32 bits
abbrev pub EntryFits : KvEntry → Type 0
EntryFits e = FitsSigned w32 e.encoding

-- SnapshotReadOutput: a status of 32 bits
pub record ReadOutputFits (m : SnapshotReadOutput) : Type 0 where
  pub ranges : All (All EntryFits) m.ranges
  pub status : FitsSigned w32 m.status

-- AtomicWriteOutput: a status and places of 32 bits
pub record WriteOutputFits (m : AtomicWriteOutput) : Type 0 where
  pub status : FitsSigned w32 m.status
  pub failed_checks : NumbersFit m.failed_checks

-- WatchKeyOutput
abbrev pub KeyOutputFits : WatchKeyOutput → Type 0
KeyOutputFits k = IfSome k.entry EntryFits

-- WatchOutput: a status of 32 bits
pub record WatchOutputFits (m : WatchOutput) : Type 0 where
  pub status : FitsSigned w32 m.status
  pub keys : All KeyOutputFits m.keys
