-- The message of KV Connect that a body's fields make: each of its fields is a function of the field list (proto3 encoding
-- guide).
--     read_range fs, snapshot_read fs, ..      the message
use Rattle.std.specs.Prelude.{ℕ, List, [], ◌∷◌, map, Option, Some, None}
use Rattle.dkv_wire.specs.Wire.{Item}
use Rattle.dkv_wire.specs.FieldLists.{fields}
use Rattle.dkv_base.specs.declared.types.AtomicWrite.{AtomicWrite}
use Rattle.dkv_base.specs.declared.types.Check.{Check}
use Rattle.dkv_base.specs.declared.types.Enqueue.{Enqueue}
use Rattle.dkv_base.specs.declared.types.Mutation.{Mutation}
use Rattle.dkv_base.specs.declared.types.ReadRange.{ReadRange}
use Rattle.dkv_base.specs.declared.types.Value.{Value}
use Rattle.dkv_msgs.specs.declared.types.AtomicWriteOutput.{AtomicWriteOutput}
use Rattle.dkv_msgs.specs.declared.types.KvEntry.{KvEntry}
use Rattle.dkv_msgs.specs.declared.types.SnapshotRead.{SnapshotRead}
use Rattle.dkv_msgs.specs.declared.types.SnapshotReadOutput.{SnapshotReadOutput}
use Rattle.dkv_msgs.specs.declared.types.Watch.{Watch}
use Rattle.dkv_msgs.specs.declared.types.WatchKeyOutput.{WatchKeyOutput}
use Rattle.dkv_msgs.specs.declared.types.WatchOutput.{WatchOutput}
use Rattle.dkv_msgs.specs.ByField.{last_number, last_bytes, payloads, numbers, joined, int32, int64, uint32, truth}

-- a repeated embedded message: what each payload is read as ("Submessages", "Repeated Elements")
abbrev pub each_of : {X : Type 0} → (List Item → X) → ℕ → List Item → List X
each_of read field fs = map (λ text. read (fields 0 text)) (payloads field fs)

-- something, where there are payloads
abbrev pub if_given : {X : Type 0} → List (List ℕ) → X → Option X
if_given [] x = None
if_given (text ∷ texts) x = Some x

-- a singular embedded message: there where its field comes, and read of all its payloads in a row ("Last One Wins")
abbrev pub one_of : {X : Type 0} → (List Item → X) → ℕ → List Item → Option X
one_of read field fs = if_given (payloads field fs) (read (joined field fs))

-- ---- requests

-- ReadRange: start 1, end 2, limit 3, reverse 4
abbrev pub read_range : List Item → ReadRange
read_range fs = record {
  start = last_bytes 1 fs;
  end = last_bytes 2 fs;
  limit = int32 (last_number 3 fs);
  reverse = truth (last_number 4 fs);
}

-- SnapshotRead: ranges 1
abbrev pub snapshot_read : List Item → SnapshotRead
snapshot_read fs = record { ranges = each_of read_range 1 fs }

-- Check: key 1, versionstamp 2
abbrev pub check : List Item → Check
check fs = record { key = last_bytes 1 fs; versionstamp = last_bytes 2 fs }

-- KvValue: data 1, encoding 2
abbrev pub kv_value : List Item → Value
kv_value fs = record { bytes = last_bytes 1 fs; encoding = int32 (last_number 2 fs) }

-- Mutation: key 1, value 2, mutation_type 3, expire_at_ms 4
abbrev pub mutation : List Item → Mutation
mutation fs = record {
  key = last_bytes 1 fs;
  value = one_of kv_value 2 fs;
  kind = int32 (last_number 3 fs);
  expire_at_ms = int64 (last_number 4 fs);
}

-- Enqueue: payload 1, deadline_ms 2, keys_if_undelivered 3, backoff_schedule 4
abbrev pub enqueue : List Item → Enqueue
enqueue fs = record {
  payload = last_bytes 1 fs;
  deadline_ms = int64 (last_number 2 fs);
  undelivered = payloads 3 fs;
  backoff = map uint32 (numbers 4 fs);
}

-- AtomicWrite: checks 1, mutations 2, enqueues 3
abbrev pub atomic_write : List Item → AtomicWrite
atomic_write fs = record {
  checks = each_of check 1 fs;
  mutations = each_of mutation 2 fs;
  enqueues = each_of enqueue 3 fs;
}

-- WatchKey: key 1
abbrev pub watch_key : List Item → List ℕ
watch_key fs = last_bytes 1 fs

-- Watch: keys 1
abbrev pub watch : List Item → Watch
watch fs = record { keys = each_of watch_key 1 fs }

-- ---- replies

-- KvEntry: key 1, value 2, encoding 3, versionstamp 4
abbrev pub kv_entry : List Item → KvEntry
kv_entry fs = record {
  key = last_bytes 1 fs;
  value = last_bytes 2 fs;
  encoding = int32 (last_number 3 fs);
  versionstamp = last_bytes 4 fs;
}

-- ReadRangeOutput: values 1
abbrev pub range_output : List Item → List KvEntry
range_output fs = each_of kv_entry 1 fs

-- SnapshotReadOutput: ranges 1, read_disabled 2, read_is_strongly_consistent 4, status 8
abbrev pub snapshot_read_output : List Item → SnapshotReadOutput
snapshot_read_output fs = record {
  ranges = each_of range_output 1 fs;
  read_disabled = truth (last_number 2 fs);
  strong = truth (last_number 4 fs);
  status = int32 (last_number 8 fs);
}

-- AtomicWriteOutput: status 1, versionstamp 2, failed_checks 4
abbrev pub atomic_write_output : List Item → AtomicWriteOutput
atomic_write_output fs = record {
  status = int32 (last_number 1 fs);
  versionstamp = last_bytes 2 fs;
  failed_checks = map uint32 (numbers 4 fs);
}

-- WatchKeyOutput: changed 1, entry_if_changed 2
abbrev pub watch_key_output : List Item → WatchKeyOutput
watch_key_output fs = record { changed = truth (last_number 1 fs); entry = one_of kv_entry 2 fs }

-- WatchOutput: status 1, keys 2
abbrev pub watch_output : List Item → WatchOutput
watch_output fs = record { status = int32 (last_number 1 fs); keys = each_of watch_key_output 2 fs }
