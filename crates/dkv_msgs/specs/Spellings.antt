-- The canonical spelling of each message of KV Connect: fields in the order of their numbers, repeated ones in list order,
-- repeated numbers packed, shortest varints, and no field that has its default. dkv_base has that of an atomic write.
--     spell_ranges ranges, spell_keys keys      a SnapshotRead and a Watch
--     spell_snapshot_read_output m, ..      a reply
use Rattle.std.specs.Prelude.{ℕ, List, [], ◌++◌, flat_map, Option}
use Rattle.std.specs.Option.{option_map_or}
use Rattle.dkv_base.specs.declared.types.ReadRange.{ReadRange}
use Rattle.dkv_base.specs.Protobuf.{flag, number_field, bytes_field, numbers_field, delimited, unsigned}
use Rattle.dkv_msgs.specs.declared.types.AtomicWriteOutput.{AtomicWriteOutput}
use Rattle.dkv_msgs.specs.declared.types.KvEntry.{KvEntry}
use Rattle.dkv_msgs.specs.declared.types.SnapshotReadOutput.{SnapshotReadOutput}
use Rattle.dkv_msgs.specs.declared.types.WatchKeyOutput.{WatchKeyOutput}
use Rattle.dkv_msgs.specs.declared.types.WatchOutput.{WatchOutput}

-- embedded messages, one behind the other (proto3 encoding guide, "Repeated Elements")
abbrev pub all_delimited : {X : Type 0} → ℕ → (X → List ℕ) → List X → List ℕ
all_delimited field spell xs = flat_map (λ x. delimited field (spell x)) xs

-- an embedded message that may be missing; one that is there is written even if it is empty ("Submessages")
abbrev pub delimited_if_some : {X : Type 0} → ℕ → (X → List ℕ) → Option X → List ℕ
delimited_if_some field spell o = option_map_or (λ x. delimited field (spell x)) o []

-- ---- requests

-- ReadRange: start 1, end 2, limit 3, reverse 4
abbrev pub spell_range : ReadRange → List ℕ
spell_range r =
    bytes_field 1 r.start
    ++ bytes_field 2 r.end
    ++ number_field 3 (unsigned r.limit)
    ++ number_field 4 (flag r.reverse)

-- SnapshotRead: ranges 1
abbrev pub spell_ranges : List ReadRange → List ℕ
spell_ranges ranges = all_delimited 1 spell_range ranges

-- Watch: keys 1, each a WatchKey: key 1
abbrev pub spell_keys : List (List ℕ) → List ℕ
spell_keys keys = all_delimited 1 (bytes_field 1) keys

-- ---- replies

-- KvEntry: key 1, value 2, encoding 3, versionstamp 4
abbrev pub spell_kv_entry : KvEntry → List ℕ
spell_kv_entry e =
    bytes_field 1 e.key
    ++ bytes_field 2 e.value
    ++ number_field 3 (unsigned e.encoding)
    ++ bytes_field 4 e.versionstamp

-- ReadRangeOutput: values 1
abbrev pub spell_range_output : List KvEntry → List ℕ
spell_range_output es = all_delimited 1 spell_kv_entry es

-- SnapshotReadOutput: ranges 1, read_disabled 2, read_is_strongly_consistent 4, status 8
abbrev pub spell_snapshot_read_output : SnapshotReadOutput → List ℕ
spell_snapshot_read_output m =
    all_delimited 1 spell_range_output m.ranges
    ++ number_field 2 (flag m.read_disabled)
    ++ number_field 4 (flag m.strong)
    ++ number_field 8 (unsigned m.status)

-- AtomicWriteOutput: status 1, versionstamp 2, failed_checks 4
abbrev pub spell_atomic_write_output : AtomicWriteOutput → List ℕ
spell_atomic_write_output m =
    number_field 1 (unsigned m.status)
    ++ bytes_field 2 m.versionstamp
    ++ numbers_field 4 m.failed_checks

-- WatchKeyOutput: changed 1, entry_if_changed 2
abbrev pub spell_watch_key_output : WatchKeyOutput → List ℕ
spell_watch_key_output k = number_field 1 (flag k.changed) ++ delimited_if_some 2 spell_kv_entry k.entry

-- WatchOutput: status 1, keys 2
abbrev pub spell_watch_output : WatchOutput → List ℕ
spell_watch_output m =
    number_field 1 (unsigned m.status)
    ++ all_delimited 2 spell_watch_key_output m.keys
