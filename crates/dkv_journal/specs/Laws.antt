-- Laws of the records of a file, as statements.
use Rattle.std.specs.Prelude.{ℕ, ◌≡◌, ◌⊎◌, ◌+◌, ◌-◌, ◌≤◌, List, [], ◌∷◌, ◌++◌, length, take}
use Rattle.std.specs.List.{AllByRecursion}
use Rattle.dkv_base.specs.declared.types.Layout.{Layout}
use Rattle.dkv_base.specs.declared.types.Profile.{Profile}
use Rattle.dkv_base.specs.Profiles.{body_most}
use Rattle.dkv_journal.specs.Crashes.{WithGate, StaysShut, Appended, IsDoubted, appended, mended}
use Rattle.dkv_journal.specs.Records.{Scan, at_closed, records, record_size, scanned, scanned_at}

-- a body that a record may have
abbrev pub IsBody : Profile → List ℕ → Type 0
IsBody p body = length body ≤ body_most p

-- what is written as records is scanned as these bodies, whatever follows
abbrev pub RecordsScan : Type 0
RecordsScan =
    (l : Layout) (p : ℕ) (bodies : List (List ℕ)) (rest : List ℕ) → AllByRecursion (IsBody l.profile) bodies
    → scanned l p (records l p bodies ++ rest)
    ≡ record { bodies = bodies; place = p + (length (records l p bodies) - 1); end = at_closed }

-- the bodies of one scan and then another
abbrev pub scans_on : List (List ℕ) → Scan → Scan
scans_on bodies s = record s { bodies = bodies ++ s.bodies }

-- a scan that ends at a closed gate asks nothing of what stands from that gate on
abbrev pub ScanGoesOn : Type 0
ScanGoesOn =
    (l : Layout) (p : ℕ) (bytes tail : List ℕ) → (scanned l p bytes).end ≡ at_closed
    → scanned l p (take ((scanned l p bytes).place - p) bytes ++ tail)
    ≡ scans_on (scanned l p bytes).bodies (scanned l (scanned l p bytes).place tail)

-- these bodies, and a closed gate at p
abbrev pub closed_after : List (List ℕ) → ℕ → Scan
closed_after bodies p = record { bodies = bodies; place = p; end = at_closed }

-- what a crash in an append at gate p leaves is scanned as the records before that gate, or as these and the new one
abbrev pub AppendKeeps : Type 0
AppendKeeps =
    (l : Layout) (start p : ℕ) (bodies : List (List ℕ)) (body file image : List ℕ)
    → IsBody l.profile body → start ≤ p → scanned_at l start file ≡ closed_after bodies p
    → Appended l p body file image
    → (scanned_at l start image ≡ closed_after bodies p)
    ⊎ (scanned_at l start image ≡ closed_after (bodies ++ body ∷ []) (p + record_size l body))

-- and the file after it as these and the new one
abbrev pub AppendedScans : Type 0
AppendedScans =
    (l : Layout) (start p : ℕ) (bodies : List (List ℕ)) (body file : List ℕ)
    → IsBody l.profile body → start ≤ p → scanned_at l start file ≡ closed_after bodies p
    → scanned_at l start (appended l p body file)
    ≡ closed_after (bodies ++ body ∷ []) (p + record_size l body)

-- a gate in doubt leaves what an append may leave, and stays in doubt whatever byte is written there
abbrev pub DoubtAppends : Type 0
DoubtAppends =
    (l : Layout) (p : ℕ) (body file image : List ℕ) → IsDoubted l p body file image
    → Appended l p body file image
    × ((torn : List ℕ) → WithGate p image torn → IsDoubted l p body file torn)

-- a gate in doubt that was mended is closed, and what stands before it is as it was
abbrev pub DoubtMends : Type 0
DoubtMends =
    (l : Layout) (p : ℕ) (body file image : List ℕ) → IsDoubted l p body file image
    → StaysShut p file (mended p image)
