-- A body that was refused is refused for the cause that access tells.
use Rattle.std.proofs.Common.{◌≡◌, refl, sym, ap, subst, ◌∙◌, ℕ, Bool, false, List, Option, Some, None, Result, Ok, Err}
use Rattle.std.specs.Option.{option_map_or}
use Rattle.std.specs.Result.{IsErrAnd}
use Rattle.dkv_base.specs.declared.codes.Limit.{Limit}
use Rattle.dkv_base.specs.declared.types.Profile.TheVariants.{Narrow}
use Rattle.dkv_base.specs.Limits.{read_limit, watch_limit}
use Rattle.dkv_wire.specs.FieldLists.{fields}
use Rattle.dkv_msgs.specs.declared.requests.RequestError.{RequestError}
use Rattle.dkv_msgs.specs.declared.requests.RequestError.TheVariants as error
use Rattle.dkv_msgs.specs.declared.types.SnapshotRead.{SnapshotRead}
use Rattle.dkv_msgs.specs.declared.types.Watch.{Watch}
use Rattle.dkv_msgs.specs.Messages as messages
use Rattle.dkv_msgs.specs.Places.{bad_snapshot_read, bad_watch}
use Rattle.dkv_msgs.specs.Readings.{unless_bad, reads_snapshot_read, reads_ranges, reads_watch, reads_keys}
use Rattle.dkv_msgs.specs.Requests.{IsRequest}
use Rattle.dkv_route.specs.declared.access.Cause.{Cause}
use Rattle.dkv_route.specs.declared.access.Cause.TheVariants as cause
use Rattle.dkv_route.specs.declared.bodies.Unplanned.{Unplanned}
use Rattle.dkv_route.specs.Access.{Wanted, read, watch, within}
use Rattle.dkv_route.specs.Plans.{IsWanted, unplanned_of}

-- by what the reader answered
by_error : {M X : Type 0} (limit : M → Option Limit) (wants : M → Wanted) (of : X → Wanted) (reading : Result M ℕ) (e : RequestError)
    → IsRequest (λ _ m. limit m) reading (Err e) → IsWanted of (within limit wants reading) (Err (unplanned_of e))
by_error limit wants of reading (error.Malformed place) is = ap (within limit wants) is
by_error limit wants of reading (error.Limit passed) (m, is, passes) =
    ap (within limit wants) is ∙ ap (λ (o : Option Limit). option_map_or (λ p. Err (cause.Limited p)) o (Ok (wants m))) (passes Narrow)
by_error limit wants of reading error.NoMemory is = tt

-- and by what is made of it
refused : {M X : Type 0} (limit : M → Option Limit) (wants : M → Wanted) (of : X → Wanted) (reading : Result M ℕ) (e : RequestError) (r : Result X Unplanned)
    → IsRequest (λ _ m. limit m) reading (Err e) → IsErrAnd r (λ u. u ≡ unplanned_of e) → IsWanted of (within limit wants reading) r
refused limit wants of reading e (Ok x) is made = absurd made
refused limit wants of reading e (Err u) is made =
    subst (λ (v : Unplanned). IsWanted of (within limit wants reading) (Err v)) (sym made) (by_error limit wants of reading e is)

ranges_of : (bad : Option ℕ) (m : SnapshotRead)
    → within read_limit read (unless_bad bad m.ranges) ≡ within (λ (r : SnapshotRead). read_limit r.ranges) (λ r. read r.ranges) (unless_bad bad m)
ranges_of None m = refl
ranges_of (Some place) m = refl

keys_of : (bad : Option ℕ) (m : Watch)
    → within watch_limit watch (unless_bad bad m.keys) ≡ within (λ (r : Watch). watch_limit r.keys) (λ r. watch r.keys) (unless_bad bad m)
keys_of None m = refl
keys_of (Some place) m = refl

-- a read that was refused
pub read_refused : (body : List ℕ) (e : RequestError) {X : Type 0} (of : X → Wanted) (r : Result X Unplanned)
    → IsRequest (λ _ (m : SnapshotRead). read_limit m.ranges) (reads_snapshot_read body) (Err e) → IsErrAnd r (λ u. u ≡ unplanned_of e)
    → IsWanted of (within read_limit read (reads_ranges body)) r
read_refused body e of r is made =
    subst (λ (a : Result Wanted Cause). IsWanted of a r) (sym (ranges_of (bad_snapshot_read 0 body) (messages.snapshot_read (fields 0 body))))
    (refused (λ (m : SnapshotRead). read_limit m.ranges) (λ m. read m.ranges) of (reads_snapshot_read body) e r is made)

-- a watch that was refused
pub watch_refused : (body : List ℕ) (e : RequestError) {X : Type 0} (of : X → Wanted) (r : Result X Unplanned)
    → IsRequest (λ _ (m : Watch). watch_limit m.keys) (reads_watch body) (Err e) → IsErrAnd r (λ u. u ≡ unplanned_of e)
    → IsWanted of (within watch_limit watch (reads_keys body)) r
watch_refused body e of r is made =
    subst (λ (a : Result Wanted Cause). IsWanted of a r) (sym (keys_of (bad_watch 0 body) (messages.watch (fields 0 body))))
    (refused (λ (m : Watch). watch_limit m.keys) (λ m. watch m.keys) of (reads_watch body) e r is made)

-- a text that names no id
pub no_id : (test : List ℕ → Bool) (found : Option (List ℕ)) → ¬ ((id : List ℕ) × (found ≡ Some id)) → false ≡ option_map_or test found false
no_id test None none = refl
no_id test (Some id) none = absurd (none (id, refl))
