-- What the calls of a scan answer, where the disk tells its file.
use Rattle.std.specs.Prelude.{ℕ, ◌≡◌, ◌+◌, ◌<◌, ◌≤◌, false, IsTrue, List, length, take, drop, ⊤, Result, Ok, Err, Option, Some, None}
use Rattle.dkv_journal.specs.Records.{at_closed, at_damaged, ends, with_body, first_layout, record_size, place_after, told_length, is_open_at, is_closed_at, scanned_at}
use Rattle.dkv_journal.specs.declared.journal.Journal.{Journal}
use Rattle.dkv_journal.specs.declared.scan.Gate.{Gate}
use Rattle.dkv_journal.specs.declared.scan.Gate.TheVariants as gate
use Rattle.dkv_journal.specs.declared.scan.Next.{Next}
use Rattle.dkv_journal.specs.declared.scan.Next.TheVariants as next
use Rattle.dkv_journal.specs.declared.scan.ScanRefusal.{ScanRefusal}
use Rattle.dkv_journal.specs.declared.scan.ScanRefusal.TheVariants as refusal

-- how the gate at p stands, and the length behind an open one
abbrev pub IsGate : ℕ → List ℕ → Gate → Type 0
IsGate p file gate.Closed = IsTrue (is_closed_at p file)
IsGate p file (gate.Opens count) = IsTrue (is_open_at p file) × (p + 5 ≤ length file) × (count ≡ told_length (drop (p + 1) file))
IsGate p file gate.Ends = (is_closed_at p file ≡ false) × (length file < p + 5)

-- so many bytes from p on, or there are fewer
abbrev pub IsBodyAt : ℕ → ℕ → List ℕ → Option (List ℕ) → Type 0
IsBodyAt p count file (Some body) = body ≡ take count (drop p file)
IsBodyAt p count file None = length file < p + count

-- how the scan from p on begins
abbrev pub IsNext : ℕ → List ℕ → Next → Type 0
IsNext p file next.Closed = scanned_at first_layout p file ≡ ends p at_closed
IsNext p file (next.Record body) = scanned_at first_layout p file ≡ with_body body (scanned_at first_layout (p + record_size first_layout body) file)
IsNext p file next.Damaged = scanned_at first_layout p file ≡ ends p at_damaged

-- the record ends within so many bytes
abbrev pub IsWithin : ℕ → ℕ → Next → Type 0
IsWithin p len next.Closed = ⊤
IsWithin p len (next.Record body) = p + record_size first_layout body ≤ len
IsWithin p len next.Damaged = ⊤

-- the scan from p on: the bodies up to the first closed gate, or up to the first damaged one
abbrev pub IsScan : ℕ → List ℕ → Result (List (List ℕ) × Journal) ScanRefusal → Type 0
IsScan p file (Ok x) = (scanned_at first_layout p file ≡ record { bodies = x.0; place = x.1.place; end = at_closed }) × (x.1.in_doubt ≡ false)
IsScan p file (Err (refusal.Damaged at before)) = scanned_at first_layout p file ≡ record { bodies = before; place = at; end = at_damaged }
IsScan p file (Err refusal.DiskFault) = ⊤
IsScan p file (Err refusal.NoMemory) = ⊤

-- the bodies stand one after the other from p on up to the last gate, which is sure
abbrev pub EndsBehind : ℕ → Result (List (List ℕ) × Journal) ScanRefusal → Type 0
EndsBehind p (Ok x) = (place_after first_layout p x.0 ≡ x.1.place) × (x.1.in_doubt ≡ false)
EndsBehind p (Err (refusal.Damaged at before)) = place_after first_layout p before ≡ at
EndsBehind p (Err refusal.DiskFault) = ⊤
EndsBehind p (Err refusal.NoMemory) = ⊤
