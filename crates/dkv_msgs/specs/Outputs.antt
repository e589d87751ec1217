-- What the database answers, as messages of KV Connect.
--     entry_output e, read_output ranges      an entry, and the reply to a read
--     written_output n, fails_output places      the reply to a write
--     frame_output f      a frame of a watch
use Rattle.std.specs.Prelude.{ℕ, pos, true, false, List, [], map}
use Rattle.std.specs.Borrow.{Bor}
use Rattle.std.specs.Option.{option_map}
use Rattle.dkv_base.specs.declared.types.Entry.{Entry}
use Rattle.dkv_base.specs.declared.types.Frame.{Frame}
use Rattle.dkv_base.specs.declared.types.KeyFrame.{KeyFrame}
use Rattle.dkv_base.specs.Stamps.{stamp}
use Rattle.dkv_msgs.specs.declared.types.AtomicWriteOutput.{AtomicWriteOutput}
use Rattle.dkv_msgs.specs.declared.types.KvEntry.{KvEntry}
use Rattle.dkv_msgs.specs.declared.types.SnapshotReadOutput.{SnapshotReadOutput}
use Rattle.dkv_msgs.specs.declared.types.WatchKeyOutput.{WatchKeyOutput}
use Rattle.dkv_msgs.specs.declared.types.WatchOutput.{WatchOutput}

-- KvEntry: an entry, with the stamp of the commit that wrote it
abbrev pub entry_output : Entry → KvEntry
entry_output e = record {
  key = e.key;
  value = e.bytes;
  encoding = e.encoding;
  versionstamp = stamp e.commit;
}

-- ReadRangeOutput: the entries of one range
abbrev pub entries_output : List Entry → List KvEntry
entries_output es = map entry_output es

-- the entries of a range that stand elsewhere
abbrev pub told_range : List (Bor Entry) → List Entry
told_range es = map (λ e. e.now) es

-- those of each range
abbrev pub told : List (List (Bor Entry)) → List (List Entry)
told ranges = map told_range ranges

-- SnapshotReadOutput: the ranges, strongly consistent, with status 1
abbrev pub read_output : List (List Entry) → SnapshotReadOutput
read_output ranges = record {
  ranges = map entries_output ranges;
  read_disabled = false;
  strong = true;
  status = pos 1;
}

-- AtomicWriteOutput: status 1, with the stamp of the commit
abbrev pub written_output : ℕ → AtomicWriteOutput
written_output n = record { status = pos 1; versionstamp = stamp n; failed_checks = [] }

-- AtomicWriteOutput: status 2, with the places of the checks that failed
abbrev pub fails_output : List ℕ → AtomicWriteOutput
fails_output places = record { status = pos 2; versionstamp = []; failed_checks = places }

-- WatchKeyOutput: whether the key changed, and the entry that it has then
abbrev pub key_frame_output : KeyFrame → WatchKeyOutput
key_frame_output k = record { changed = k.changed; entry = option_map entry_output k.entry }

-- WatchOutput: status 1, with each watched key
abbrev pub frame_output : Frame → WatchOutput
frame_output f = record { status = pos 1; keys = map key_frame_output f.keys }
