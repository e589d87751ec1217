-- What a crash leaves of a file with gates, at each moment of an append and of a mend.
--     StaysShut p file image      what stands before the closed gate p is as it was
--     WithGate p file image      the file with some byte at gate p
--     Appended l p body file image      gate p is closed, or open with the whole record of the body behind it
--     IsDoubted l p body file image      whatever byte is at gate p, the whole record of the body stands behind it
--     AppendMoves ..      each image at each moment of an append
use Rattle.std.specs.Prelude.{ℕ, ◌≡◌, ◌⊎◌, ◌+◌, IsTrue, List, ◌∷◌, ◌++◌, length, take, drop, slice_set, Some}
use Rattle.std.specs.declared.option.Option.{Option}
use Rattle.dkv_base.specs.declared.types.Layout.{Layout}
use Rattle.dkv_io.specs.Disks.{LeavesOnly, LeavesFrom, FromStart}
use Rattle.dkv_journal.specs.declared.gates.TheConstants.{OPEN_GATE, CLOSED_GATE}
use Rattle.dkv_journal.specs.Records.{is_closed_at, laid, record_size}

-- where a disk tells its file, this is so of it
abbrev pub WhereTold : Option (List ℕ) → (List ℕ → Type 0) → Type 0
WhereTold seen P = (file : List ℕ) → seen ≡ Some file → P file

-- where a disk tells its file, this is so of each of its images
abbrev pub EachImage : Option (List ℕ) → (List ℕ → Type 0) → (List ℕ → Type 0) → Type 0
EachImage seen images P = WhereTold seen (λ _. (image : List ℕ) → images image → P image)

-- ---- what a crash leaves

-- what stands before gate p is as it was, and the gate is closed
pub record StaysShut (p : ℕ) (file image : List ℕ) : Type 0 where
  pub before : take p image ≡ take p file
  pub gate : IsTrue (is_closed_at p image)

-- the file with some byte at gate p
abbrev pub WithGate : ℕ → List ℕ → List ℕ → Type 0
WithGate p file image = (gate : ℕ) × (image ≡ slice_set file p gate)

-- gate p is open, and behind it stands the whole record with the next gate, which is closed
abbrev pub HasRecord : Layout → ℕ → List ℕ → List ℕ → Type 0
HasRecord l p body image =
    take (1 + length (laid l p body)) (drop p image) ≡ OPEN_GATE ∷ laid l p body

-- what stands before gate p is as it was, and the gate is closed or has the whole record behind it
pub record Appended (l : Layout) (p : ℕ) (body file image : List ℕ) : Type 0 where
  pub before : take p image ≡ take p file
  pub gate : IsTrue (is_closed_at p image) ⊎ HasRecord l p body image

-- the same, whatever byte a write of gate p leaves there: the whole record stands behind it
pub record IsDoubted (l : Layout) (p : ℕ) (body file image : List ℕ) : Type 0 where
  pub before : take p image ≡ take p file
  pub gate : ℕ
  pub behind : take (1 + length (laid l p body)) (drop p image) ≡ gate ∷ laid l p body

-- From the first disk to the last gate p stays closed up to some moment; from then on it may be open, with the whole record behind it.
pub record AppendMoves {D : Type 0} (images : D → List ℕ → Type 0) (moment : D → ℕ) (since : D → ℕ → List ℕ → Type 0)
    (l : Layout) (p : ℕ) (body : List ℕ) (old new : D) : Type 0 where
  pub written : D
  pub laying : LeavesFrom images moment since old written (StaysShut p)
  pub opening : LeavesOnly moment since written new (FromStart (images old) (Appended l p body))

-- ---- what the file reads as afterwards

-- these bytes behind gate p, and the rest as it was
abbrev pub with_behind : ℕ → List ℕ → List ℕ → List ℕ
with_behind p bytes file = take (p + 1) file ++ bytes ++ drop (p + 1 + length bytes) file

-- the record at gate p, and the rest as it was
abbrev pub appended : Layout → ℕ → List ℕ → List ℕ → List ℕ
appended l p body file =
    take p file ++ OPEN_GATE ∷ laid l p body ++ drop (p + record_size l body + 1) file

-- gate p closed, and the rest as it was
abbrev pub mended : ℕ → List ℕ → List ℕ
mended p file = slice_set file p CLOSED_GATE
