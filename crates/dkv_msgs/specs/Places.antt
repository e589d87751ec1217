-- Where a body is no message (proto3 encoding guide): the first place where no field begins, in it or in a message inside
-- it. Places count from the start of the whole body.
--     bad_snapshot_read at bytes, ..      the least bad place of a body that begins at place `at`
use Rattle.std.specs.Prelude.{ℕ, ◌-◌, min, ◌==◌, if◌then◌else◌, List, [], ◌∷◌, length, Option, Some, None}
use Rattle.dkv_wire.specs.Wire.{Item, Content, ALen}
use Rattle.dkv_wire.specs.FieldLists.{fields, bad, are_varints}

-- the earlier of two places
abbrev pub earlier : Option ℕ → Option ℕ → Option ℕ
earlier None b = b
earlier (Some a) None = Some a
earlier (Some a) (Some b) = Some (min a b)

-- the bad place of what a field holds; the look takes the place of its tag, that of its payload, and the payload
abbrev pub look_in : (ℕ → ℕ → List ℕ → Option ℕ) → Item → Content → Option ℕ
look_in look f (ALen text) = look f.at (f.end - length text) text
look_in look f _ = None

-- the earliest in the fields of this number
abbrev pub in_fields : ℕ → (ℕ → ℕ → List ℕ → Option ℕ) → List Item → Option ℕ
in_fields field look [] = None
in_fields field look (f ∷ fs) =
    earlier (if f.number == field then look_in look f f.content else None) (in_fields field look fs)

-- an embedded message is bad where its body is ("Submessages")
abbrev pub embedded : (ℕ → List ℕ → Option ℕ) → ℕ → ℕ → List ℕ → Option ℕ
embedded bad_message at place text = bad_message place text

-- packed numbers that aren't whole varints are bad at the place of their tag ("Packed Repeated Fields")
abbrev pub packed : ℕ → ℕ → List ℕ → Option ℕ
packed at place text = if are_varints text then None else Some at

-- ---- the messages of KV Connect that hold others, or packed numbers

-- SnapshotRead: ranges 1
abbrev pub bad_snapshot_read : ℕ → List ℕ → Option ℕ
bad_snapshot_read at bytes = earlier (bad at bytes) (in_fields 1 (embedded bad) (fields at bytes))

-- Mutation: value 2
abbrev pub bad_mutation : ℕ → List ℕ → Option ℕ
bad_mutation at bytes = earlier (bad at bytes) (in_fields 2 (embedded bad) (fields at bytes))

-- Enqueue: backoff_schedule 4
abbrev pub bad_enqueue : ℕ → List ℕ → Option ℕ
bad_enqueue at bytes = earlier (bad at bytes) (in_fields 4 packed (fields at bytes))

-- AtomicWrite: checks 1, mutations 2, enqueues 3
abbrev pub bad_atomic_write : ℕ → List ℕ → Option ℕ
bad_atomic_write at bytes =
    earlier (bad at bytes)
    (earlier (in_fields 1 (embedded bad) (fields at bytes))
    (earlier (in_fields 2 (embedded bad_mutation) (fields at bytes))
    (in_fields 3 (embedded bad_enqueue) (fields at bytes))))

-- Watch: keys 1
abbrev pub bad_watch : ℕ → List ℕ → Option ℕ
bad_watch at bytes = earlier (bad at bytes) (in_fields 1 (embedded bad) (fields at bytes))

-- ReadRangeOutput: values 1
abbrev pub bad_range_output : ℕ → List ℕ → Option ℕ
bad_range_output at bytes = earlier (bad at bytes) (in_fields 1 (embedded bad) (fields at bytes))

-- SnapshotReadOutput: ranges 1
abbrev pub bad_snapshot_read_output : ℕ → List ℕ → Option ℕ
bad_snapshot_read_output at bytes =
    earlier (bad at bytes) (in_fields 1 (embedded bad_range_output) (fields at bytes))

-- AtomicWriteOutput: failed_checks 4
abbrev pub bad_atomic_write_output : ℕ → List ℕ → Option ℕ
bad_atomic_write_output at bytes = earlier (bad at bytes) (in_fields 4 packed (fields at bytes))

-- WatchKeyOutput: entry_if_changed 2
abbrev pub bad_watch_key_output : ℕ → List ℕ → Option ℕ
bad_watch_key_output at bytes =
    earlier (bad at bytes) (in_fields 2 (embedded bad) (fields at bytes))

-- WatchOutput: keys 2
abbrev pub bad_watch_output : ℕ → List ℕ → Option ℕ
bad_watch_output at bytes =
    earlier (bad at bytes) (in_fields 2 (embedded bad_watch_key_output) (fields at bytes))
