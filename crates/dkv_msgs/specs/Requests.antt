-- What the body of a request asks for, or why it is refused before anything is built.
--     AreCounts counts fs      how many checks, mutations and enqueues a write of these fields has
--     write_counts w, read_counts m, watch_counts m      the first limit on counts that a request passes
--     IsRequest limit reading result      the request, or the bad place, or the limit that it passes first
use Rattle.std.specs.Prelude.{◌≡◌, ℕ, ◌+◌, ◌==◌, ◌||◌, nat_lt, List, [], ◌∷◌, length, Option, Some, None, Result, Ok, Err}
use Rattle.dkv_wire.specs.Wire.{Item}
use Rattle.dkv_base.specs.declared.codes.Limit.{Limit}
use Rattle.dkv_base.specs.declared.codes.Limit.TheVariants as limit
use Rattle.dkv_base.specs.declared.limits.TheConstants.{MAX_CHECKS, MAX_CHANGES, MAX_RANGES, MAX_WATCHED_KEYS}
use Rattle.dkv_base.specs.declared.types.AtomicWrite.{AtomicWrite}
use Rattle.dkv_base.specs.declared.types.Profile.{Profile}
use Rattle.dkv_base.specs.Limits.{first_some, when}
use Rattle.dkv_msgs.specs.declared.read_counts.WriteCounts.{WriteCounts}
use Rattle.dkv_msgs.specs.declared.requests.RequestError.{RequestError}
use Rattle.dkv_msgs.specs.declared.requests.RequestError.TheVariants as error
use Rattle.dkv_msgs.specs.declared.types.SnapshotRead.{SnapshotRead}
use Rattle.dkv_msgs.specs.declared.types.Watch.{Watch}
use Rattle.dkv_msgs.specs.ByField.{payloads}

-- how many payloads the three fields of a write have
pub record AreCounts (counts : WriteCounts) (fs : List Item) : Type 0 where
  pub checks : counts.checks ≡ length (payloads 1 fs)
  pub mutations : counts.mutations ≡ length (payloads 2 fs)
  pub enqueues : counts.enqueues ≡ length (payloads 3 fs)

-- the first limit that so many checks, mutations and enqueues pass
abbrev pub limit_of_counts : ℕ → ℕ → ℕ → Option Limit
limit_of_counts checks mutations enqueues = first_some (
    when (nat_lt MAX_CHECKS checks) limit.TooManyChecks
    ∷ when (nat_lt MAX_CHANGES (mutations + enqueues)) limit.TooManyMutations
    ∷ [])

-- the first limit on counts that a write passes
abbrev pub write_counts : AtomicWrite → Option Limit
write_counts w = limit_of_counts (length w.checks) (length w.mutations) (length w.enqueues)

-- the limit that so many ranges pass
abbrev pub limit_of_ranges : ℕ → Option Limit
limit_of_ranges n = first_some (when (nat_lt MAX_RANGES n) limit.TooManyRanges ∷ [])

-- the limit on counts that a read passes
abbrev pub read_counts : SnapshotRead → Option Limit
read_counts m = limit_of_ranges (length m.ranges)

-- the limit that so many watched keys pass
abbrev pub limit_of_keys : ℕ → Option Limit
limit_of_keys n = first_some (when ((n == 0) || nat_lt MAX_WATCHED_KEYS n) limit.WatchCount ∷ [])

-- the limit on counts that a watch passes
abbrev pub watch_counts : Watch → Option Limit
watch_counts m = limit_of_keys (length m.keys)

-- what a call answered is the request, or the bad place, or else the limit that it passes first, at any
-- profile; want of memory alone is free
abbrev pub IsRequest : {M : Type 0} → (Profile → M → Option Limit) → Result M ℕ → Result M RequestError → Type 0
IsRequest limit_at reading (Ok m) = reading ≡ Ok m
IsRequest limit_at reading (Err (error.Malformed at)) = reading ≡ Err at
IsRequest {M} limit_at reading (Err (error.Limit passed)) =
    (m : M) × (reading ≡ Ok m) × ((p : Profile) → limit_at p m ≡ Some passed)
IsRequest limit_at reading (Err error.NoMemory) = Unit {0}
