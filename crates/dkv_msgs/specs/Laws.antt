-- Laws of spellings, as statements.
use Rattle.std.specs.Prelude.{◌≡◌, ℕ, ◌+◌, ◌^◌, ◌<◌, ◌≤◌, List, length, None, Result, Ok}
use Rattle.dkv_base.specs.declared.types.AtomicWrite.{AtomicWrite}
use Rattle.dkv_base.specs.Fits.{FitsWrite, AreBytes}
use Rattle.dkv_base.specs.Limits.{write_limit}
use Rattle.dkv_base.specs.Spelling.{spell_write}

-- what is spelled in as many bytes as memory holds reads as what it was
abbrev pub ReadsBack : {M : Type 0} → (M → Type 0) → (M → List ℕ) → (List ℕ → Result M ℕ) → Type 0
ReadsBack {M} Fits spell reads =
    (m : M) → Fits m → length (spell m) < 2 ^ 63 → reads (spell m) ≡ Ok m

-- messages with one spelling are one message
abbrev pub OneSpelling : {M : Type 0} → (M → Type 0) → (M → List ℕ) → Type 0
OneSpelling {M} Fits spell =
    (m n : M) → Fits m → Fits n → length (spell m) < 2 ^ 63 → spell m ≡ spell n → m ≡ n

-- the canonical spelling of a write within its limits is at most 7,000 bytes longer than any bytes that read as it
abbrev pub SpellsShort : (List ℕ → Result AtomicWrite ℕ) → Type 0
SpellsShort reads =
    (body : List ℕ) (w : AtomicWrite) → AreBytes body → reads body ≡ Ok w → write_limit w ≡ None
    → length (spell_write w) ≤ length body + 7000

-- a write that fits its types, spelled in as many bytes as memory holds, reads as what it was
abbrev pub SpellsAndReads : (List ℕ → Result AtomicWrite ℕ) → Type 0
SpellsAndReads reads =
    (w : AtomicWrite) → FitsWrite w → length (spell_write w) < 2 ^ 63 → reads (spell_write w) ≡ Ok w
