-- Laws of record bodies, as statements.
use Rattle.std.specs.Prelude.{ℕ, ◌≡◌, ◌<◌, ◌≤◌, ◌^◌, List, length, None, Ok, Some}
use Rattle.dkv_base.specs.declared.limits.TheConstants.{MAX_RECORD_BYTES, MAX_REQUEST_BYTES}
use Rattle.dkv_base.specs.declared.types.AtomicWrite.{AtomicWrite}
use Rattle.dkv_base.specs.declared.types.Commit.{Commit}
use Rattle.dkv_base.specs.declared.types.Commit.TheVariants as commit
use Rattle.dkv_base.specs.Fits.{AreBytes, FitsWrite, FitsCommit}
use Rattle.dkv_base.specs.Limits.{write_limit}
use Rattle.dkv_base.specs.Spelling.{record_body, record_length}
use Rattle.dkv_msgs.specs.Laws.{SpellsAndReads}
use Rattle.dkv_msgs.specs.Readings.{reads_atomic_write}
use Rattle.dkv_record.specs.Records.{WriteOf, commit_of}

-- what is asked of a reading of writes: what it reads fits, and it reads each spelling
pub record ReadsWrites (write_of : WriteOf) : Type 0 where
  pub fits : (body : List ℕ) (w : AtomicWrite) → AreBytes body → write_of body ≡ Ok w → FitsWrite w
  pub again : SpellsAndReads write_of

-- a body that is read is the record body of a commit that fits
abbrev pub CommitIsSpelled : WriteOf → Type 0
CommitIsSpelled write_of =
    (body : List ℕ) (c : Commit) → AreBytes body → commit_of write_of body ≡ Some c
    → FitsCommit c × (body ≡ record_body c)

-- and each such body is read
abbrev pub SpelledIsCommit : WriteOf → Type 0
SpelledIsCommit write_of =
    (c : Commit) → FitsCommit c → record_length c < 2 ^ 63
    → commit_of write_of (record_body c) ≡ Some c

-- commits with one body are one commit
abbrev pub OneBody : Type 0
OneBody =
    (c d : Commit) → FitsCommit c → FitsCommit d → record_length c < 2 ^ 63
    → record_body c ≡ record_body d → c ≡ d

-- a write within its limits, read of a request's body, has a record no longer than a record may be
abbrev pub RequestsFit : Type 0
RequestsFit =
    (who at : ℕ) (body : List ℕ) (w : AtomicWrite) → AreBytes body
    → length body ≤ MAX_REQUEST_BYTES → reads_atomic_write body ≡ Ok w → write_limit w ≡ None
    → record_length (commit.Wrote who at w) ≤ MAX_RECORD_BYTES
