-- The bodies that were read, and the records of what they ask for.
use Rattle.std.proofs.Common.{◌≡◌, sym, ap, subst, ◌∙◌, ℕ, ◌≤◌, List, length, Option, Some, None, Result, Ok}
use Rattle.std.specs.Prelude.{IfOk}
use Rattle.dkv_base.specs.declared.codes.Limit.{Limit}
use Rattle.dkv_base.specs.declared.limits.TheConstants.{MAX_REQUEST_BYTES}
use Rattle.dkv_base.specs.declared.types.Ask.TheVariants as ask
use Rattle.dkv_base.specs.declared.types.AtomicWrite.{AtomicWrite}
use Rattle.dkv_base.specs.declared.types.Call.TheVariants as call
use Rattle.dkv_base.specs.declared.types.Profile.{Profile}
use Rattle.dkv_base.specs.declared.types.Profile.TheVariants.{Narrow}
use Rattle.dkv_base.specs.declared.types.ReadRange.{ReadRange}
use Rattle.dkv_base.specs.Fits.{AreBytes}
use Rattle.dkv_base.specs.Limits.{read_limit}
use Rattle.dkv_core.proofs.Replying.{free}
use Rattle.dkv_wire.specs.FieldLists.{fields}
use Rattle.dkv_msgs.specs.declared.types.SnapshotRead.{SnapshotRead}
use Rattle.dkv_msgs.specs.Messages.{snapshot_read}
use Rattle.dkv_msgs.specs.Places.{bad_snapshot_read}
use Rattle.dkv_msgs.specs.Readings.{unless_bad, reads_snapshot_read, reads_atomic_write}
use Rattle.dkv_record.specs.Laws.{RequestsFit}
use Rattle.dkv_store.specs.Stores.{Contents, IsShort}
use Rattle.dkv_pipe.specs.Wishes.{asks, readings, wish_of_read}
use Rattle.dkv_pipe.specs.ReplyFrames.{limit_bytes}
use Rattle.dkv_pipe.specs.Grants.{Grants}
use Rattle.dkv_pipe.proofs.Grants.{read_limited_granted}

ranges_are : (bad : Option ℕ) (m request : SnapshotRead) → unless_bad bad m ≡ Ok request → unless_bad bad m.ranges ≡ Ok request.ranges
ranges_are None m request is = let same : m ≡ request = cc in ap (λ (x : SnapshotRead). Ok x.ranges) same
ranges_are (Some place) m request is = absurd (cc is)

-- the ranges of a body that was read
reading_is : (body : List ℕ) (m : SnapshotRead) → reads_snapshot_read body ≡ Ok m → readings.read_of body ≡ Ok m.ranges
reading_is body m is = ranges_are (bad_snapshot_read 0 body) (snapshot_read (fields 0 body)) m is

-- a write that was read from a request's body has a record that may be written
pub short_write : {D : Type 0} (s : Contents D) (who at : ℕ) (body : List ℕ) (w : AtomicWrite) → RequestsFit → AreBytes body → length body ≤ MAX_REQUEST_BYTES → reads_atomic_write body ≡ Ok w
    → IsShort s who at (call.Write w)
short_write s who at body w fit bytes within is = λ legal. fit who at body w bytes within is (free s.core who at w legal).limits

module _ {D : Type 0} (seen : D → Option (List ℕ)) (images : D → List ℕ → Type 0) (faults moment : D → ℕ) (since : D → ℕ → List ℕ → Type 0) where
  -- what is granted to the ranges is granted to the body
  pub takes_ranges : {E : Type 0} (old new : Contents D) (body : List ℕ) (request : SnapshotRead) (ranges : List ReadRange) (at : ℕ) (result : Result (List ℕ) E) → reads_snapshot_read body ≡ Ok request → ranges ≡ request.ranges
      → IfOk result (λ out. (who : ℕ) → Grants seen images faults moment since old (asks (ask.Read ranges)) who at out new)
      → IfOk result (λ out. (who : ℕ) → Grants seen images faults moment since old (wish_of_read ask.Read (readings.read_of body)) who at out new)
  takes_ranges old new body request ranges at result is same grants =
      subst (λ (r : Result (List ReadRange) ℕ). IfOk result (λ out. (who : ℕ) → Grants seen images faults moment since old (wish_of_read ask.Read r) who at out new))
      (sym (reading_is body request is ∙ ap (λ (rs : List ReadRange). Ok rs) (sym same))) grants

  -- a read of too many ranges
  pub read_refused : (s : Contents D) (body : List ℕ) (at : ℕ) (passed : Limit) (out : List ℕ) → (m : SnapshotRead) × (reads_snapshot_read body ≡ Ok m) × ((p : Profile) → read_limit m.ranges ≡ Some passed) → out ≡ limit_bytes passed
      → (who : ℕ) → Grants seen images faults moment since s (wish_of_read ask.Read (readings.read_of body)) who at out s
  read_refused s body at passed out (m, is, limit) told who =
      subst (λ (r : Result (List ReadRange) ℕ). Grants seen images faults moment since s (wish_of_read ask.Read r) who at out s) (sym (reading_is body m is))
      (read_limited_granted seen images faults moment since s who at m.ranges passed out (limit Narrow) told)
