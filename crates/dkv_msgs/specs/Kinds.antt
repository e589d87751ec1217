-- The places of the messages as a table: what is inside the payloads of each field, and where each message is bad.
use Rattle.std.specs.Prelude.{ℕ, ◌==◌, if◌then◌else◌, List, Option, None}
use Rattle.dkv_wire.specs.FieldLists.{bad}
use Rattle.dkv_msgs.specs.declared.read_places.Kind.{Kind}
use Rattle.dkv_msgs.specs.declared.read_places.Kind.TheVariants as kind
use Rattle.dkv_msgs.specs.declared.read_places.Inside.{Inside}
use Rattle.dkv_msgs.specs.declared.read_places.Inside.TheVariants as inside
use Rattle.dkv_msgs.specs.Places.{packed, bad_snapshot_read, bad_mutation, bad_enqueue, bad_atomic_write, bad_watch, bad_range_output, bad_snapshot_read_output, bad_atomic_write_output, bad_watch_key_output, bad_watch_output}

-- the bad place of a message of each kind
abbrev pub bad_message : Kind → ℕ → List ℕ → Option ℕ
bad_message kind.Flat at bytes = bad at bytes
bad_message kind.SnapshotRead at bytes = bad_snapshot_read at bytes
bad_message kind.Mutation at bytes = bad_mutation at bytes
bad_message kind.Enqueue at bytes = bad_enqueue at bytes
bad_message kind.AtomicWrite at bytes = bad_atomic_write at bytes
bad_message kind.Watch at bytes = bad_watch at bytes
bad_message kind.RangeOutput at bytes = bad_range_output at bytes
bad_message kind.SnapshotReadOutput at bytes = bad_snapshot_read_output at bytes
bad_message kind.AtomicWriteOutput at bytes = bad_atomic_write_output at bytes
bad_message kind.WatchKeyOutput at bytes = bad_watch_key_output at bytes
bad_message kind.WatchOutput at bytes = bad_watch_output at bytes

-- AtomicWrite: checks 1, mutations 2, enqueues 3
abbrev pub inside_of_write : ℕ → Inside
inside_of_write n =
    if n == 1 then inside.Message kind.Flat
    else (if n == 2 then inside.Message kind.Mutation
    else (if n == 3 then inside.Message kind.Enqueue else inside.Plain))

-- what is inside the payloads of each field of a message (KV Connect)
abbrev pub inside_of : Kind → ℕ → Inside
inside_of kind.Flat n = inside.Plain
inside_of kind.SnapshotRead n = if n == 1 then inside.Message kind.Flat else inside.Plain
inside_of kind.Mutation n = if n == 2 then inside.Message kind.Flat else inside.Plain
inside_of kind.Enqueue n = if n == 4 then inside.Numbers else inside.Plain
inside_of kind.AtomicWrite n = inside_of_write n
inside_of kind.Watch n = if n == 1 then inside.Message kind.Flat else inside.Plain
inside_of kind.RangeOutput n = if n == 1 then inside.Message kind.Flat else inside.Plain
inside_of kind.SnapshotReadOutput n = if n == 1 then inside.Message kind.RangeOutput else inside.Plain
inside_of kind.AtomicWriteOutput n = if n == 4 then inside.Numbers else inside.Plain
inside_of kind.WatchKeyOutput n = if n == 2 then inside.Message kind.Flat else inside.Plain
inside_of kind.WatchOutput n = if n == 2 then inside.Message kind.WatchKeyOutput else inside.Plain

-- the bad place of a payload, by the place of its field's tag and its own
abbrev pub bad_inside : Inside → ℕ → ℕ → List ℕ → Option ℕ
bad_inside inside.Plain at place text = None
bad_inside inside.Numbers at place text = packed at place text
bad_inside (inside.Message k) at place text = bad_message k place text
