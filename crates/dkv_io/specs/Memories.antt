-- What the objects in memory hold.
use Rattle.std.specs.Prelude.{◌≡◌, ℕ, ◌-◌, Bool, List, length, drop, vec_len, vec_capacity}
use Rattle.dkv_io.specs.Past.{Since}
use Rattle.dkv_io.specs.declared.memory_source.MemorySource.{MemorySource}
use Rattle.dkv_io.specs.declared.memory_sink.MemorySink.{MemorySink}
use Rattle.dkv_io.specs.declared.memory_disk.MemoryDisk.{MemoryDisk}
use Rattle.dkv_io.specs.declared.list_random.ListRandom.{ListRandom}

-- the bytes that a source gives from now on
abbrev pub bytes_left : MemorySource → List ℕ
bytes_left source = drop source.place source.bytes.items

-- whether its last read said End
abbrev pub has_ended : MemorySource → Bool
has_ended source = source.ended

-- what was written to a sink
abbrev pub bytes_held : MemorySink → List ℕ
bytes_held sink = sink.bytes.items

-- for how many bytes more it has memory
abbrev pub room : MemorySink → ℕ
room sink = vec_capacity sink.bytes - vec_len sink.bytes

-- the bytes that a list gives from now on
abbrev pub bytes_to_come : ListRandom → List ℕ
bytes_to_come random = drop random.place random.bytes.items

-- what a disk reads as
abbrev pub content : MemoryDisk → List ℕ
content disk = disk.bytes.items

-- a crash leaves just that
abbrev pub leaves : MemoryDisk → List ℕ → Type 0
leaves disk c = c ≡ content disk

-- how many contents it has had before
abbrev pub age : MemoryDisk → ℕ
age disk = length disk.past.items

-- a crash since it was so old left this
abbrev pub leaves_since : MemoryDisk → ℕ → List ℕ → Type 0
leaves_since disk t c = Since disk.past.items (content disk) t c
