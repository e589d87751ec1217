-- What a body reads as: its message of KV Connect, or the first place where no field begins.
--     reads_snapshot_read body, ..      the message, or the bad place
--     reads_ranges body, reads_keys body      the same of what a read and a watch hold
use Rattle.std.specs.Prelude.{◌≡◌, ℕ, List, Option, Some, None, Result, Ok, Err}
use Rattle.dkv_wire.specs.FieldLists.{fields}
use Rattle.dkv_base.specs.declared.types.AtomicWrite.{AtomicWrite}
use Rattle.dkv_base.specs.declared.types.ReadRange.{ReadRange}
use Rattle.dkv_msgs.specs.declared.read.ReadError.{ReadError}
use Rattle.dkv_msgs.specs.declared.read.ReadError.TheVariants as error
use Rattle.dkv_msgs.specs.declared.types.AtomicWriteOutput.{AtomicWriteOutput}
use Rattle.dkv_msgs.specs.declared.types.SnapshotRead.{SnapshotRead}
use Rattle.dkv_msgs.specs.declared.types.SnapshotReadOutput.{SnapshotReadOutput}
use Rattle.dkv_msgs.specs.declared.types.Watch.{Watch}
use Rattle.dkv_msgs.specs.declared.types.WatchOutput.{WatchOutput}
use Rattle.dkv_msgs.specs.Messages.{snapshot_read, snapshot_read_output, atomic_write, atomic_write_output, watch, watch_output}
use Rattle.dkv_msgs.specs.Places.{bad_snapshot_read, bad_snapshot_read_output, bad_atomic_write, bad_atomic_write_output, bad_watch, bad_watch_output}

-- the message, unless there is a bad place
abbrev pub unless_bad : {M : Type 0} → Option ℕ → M → Result M ℕ
unless_bad None m = Ok m
unless_bad (Some place) m = Err place

-- SnapshotRead
abbrev pub reads_snapshot_read : List ℕ → Result SnapshotRead ℕ
reads_snapshot_read body = unless_bad (bad_snapshot_read 0 body) (snapshot_read (fields 0 body))

-- SnapshotReadOutput
abbrev pub reads_snapshot_read_output : List ℕ → Result SnapshotReadOutput ℕ
reads_snapshot_read_output body =
    unless_bad (bad_snapshot_read_output 0 body) (snapshot_read_output (fields 0 body))

-- AtomicWrite
abbrev pub reads_atomic_write : List ℕ → Result AtomicWrite ℕ
reads_atomic_write body = unless_bad (bad_atomic_write 0 body) (atomic_write (fields 0 body))

-- AtomicWriteOutput
abbrev pub reads_atomic_write_output : List ℕ → Result AtomicWriteOutput ℕ
reads_atomic_write_output body =
    unless_bad (bad_atomic_write_output 0 body) (atomic_write_output (fields 0 body))

-- Watch
abbrev pub reads_watch : List ℕ → Result Watch ℕ
reads_watch body = unless_bad (bad_watch 0 body) (watch (fields 0 body))

-- WatchOutput
abbrev pub reads_watch_output : List ℕ → Result WatchOutput ℕ
reads_watch_output body = unless_bad (bad_watch_output 0 body) (watch_output (fields 0 body))

-- what a call answered is the reading; want of memory alone is free
abbrev pub IsReading : {M : Type 0} → Result M ℕ → Result M ReadError → Type 0
IsReading reading (Ok m) = reading ≡ Ok m
IsReading reading (Err (error.Malformed at)) = reading ≡ Err at
IsReading reading (Err error.NoMemory) = Unit {0}

-- the ranges that a body asks for
abbrev pub reads_ranges : List ℕ → Result (List ReadRange) ℕ
reads_ranges body = unless_bad (bad_snapshot_read 0 body) (snapshot_read (fields 0 body)).ranges

-- the keys that a body asks to watch
abbrev pub reads_keys : List ℕ → Result (List (List ℕ)) ℕ
reads_keys body = unless_bad (bad_watch 0 body) (watch (fields 0 body)).keys
