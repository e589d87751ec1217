-- A request that passes a count passes that limit first, at any profile.
use Rattle.std.proofs.Common.{◌≡◌, ℕ, ◌+◌, ◌<◌, Bool, true, false, List, [], ◌∷◌, length, Option, Some, None, Result, Ok, refl, sym, ap, ◌∙◌, arith}
use Rattle.std.specs.Prelude.{nat_lt, ◌||◌, ◌==◌}
use Rattle.std.proofs.lemmas.List.{length-map}
use Rattle.std.specs.Option.{option_or}
use Rattle.dkv_base.specs.declared.codes.Limit.{Limit}
use Rattle.dkv_base.specs.declared.codes.Limit.TheVariants as limit
use Rattle.dkv_base.specs.declared.limits.TheConstants.{MAX_CHECKS, MAX_CHANGES, MAX_RANGES, MAX_WATCHED_KEYS}
use Rattle.dkv_base.specs.declared.types.Profile.{Profile}
use Rattle.dkv_base.specs.Limits.{first_some, when, write_limit_at, read_limit, watch_limit}
use Rattle.dkv_wire.specs.Wire.{Item}
use Rattle.dkv_msgs.specs.ByField.{payloads}
use Rattle.dkv_msgs.specs.Messages.{each_of, read_range, snapshot_read, check, mutation, enqueue, atomic_write, watch_key, watch}
use Rattle.dkv_msgs.specs.Readings.{unless_bad}
use Rattle.dkv_msgs.specs.Requests.{AreCounts, limit_of_counts, limit_of_ranges, limit_of_keys}
use Rattle.dkv_msgs.specs.declared.read_counts.WriteCounts.{WriteCounts}

-- what has no bad place is read
pub read_whole : {M : Type 0} (bad : Option ℕ) (m : M) → bad ≡ None → unless_bad bad m ≡ Ok m
read_whole bad m is = ap (λ b. unless_bad b m) is

-- as many messages as payloads
counted : {X : Type 0} (read : List Item → X) (field : ℕ) (fs : List Item) (n : ℕ) → n ≡ length (payloads field fs) → length (each_of read field fs) ≡ n
counted read field fs n is = length-map (payloads field fs) _ ∙ sym is

first_of_one : (a rest : Option Limit) (l : Limit) → option_or a None ≡ Some l → option_or a rest ≡ Some l
first_of_one (Some a) rest l is = is
first_of_one None rest l is = absurd (cc is)

first_of_two : (a b rest : Option Limit) (l : Limit) → option_or a (option_or b None) ≡ Some l → option_or a (option_or b rest) ≡ Some l
first_of_two (Some a) b rest l is = is
first_of_two None (Some b) rest l is = is
first_of_two None None rest l is = absurd (cc is)

-- a write that passes a count
pub write_passes : (fs : List Item) (counts : WriteCounts) (passed : Limit) → AreCounts counts fs → limit_of_counts counts.checks counts.mutations counts.enqueues ≡ Some passed → (p : Profile) → write_limit_at p (atomic_write fs) ≡ Some passed
write_passes fs counts passed are is p =
    first_of_two (when (nat_lt MAX_CHECKS (length (each_of check 1 fs))) limit.TooManyChecks) (when (nat_lt MAX_CHANGES (length (each_of mutation 2 fs) + length (each_of enqueue 3 fs))) limit.TooManyMutations) _ passed
    (ap (λ (n : ℕ). limit_of_counts n (length (each_of mutation 2 fs)) (length (each_of enqueue 3 fs))) (counted check 1 fs counts.checks are.checks)
    ∙ ap (λ (n : ℕ). limit_of_counts counts.checks n (length (each_of enqueue 3 fs))) (counted mutation 2 fs counts.mutations are.mutations)
    ∙ ap (λ (n : ℕ). limit_of_counts counts.checks counts.mutations n) (counted enqueue 3 fs counts.enqueues are.enqueues)
    ∙ is)

-- a read of too many ranges
pub read_passes : (fs : List Item) (n : ℕ) (passed : Limit) → n ≡ length (payloads 1 fs) → limit_of_ranges n ≡ Some passed → read_limit (snapshot_read fs).ranges ≡ Some passed
read_passes fs n passed counts is =
    first_of_one (when (nat_lt MAX_RANGES (length (each_of read_range 1 fs))) limit.TooManyRanges) _ passed
    (ap limit_of_ranges (counted read_range 1 fs n counts) ∙ is)

-- a watch of no keys, or of too many
pub watch_passes : (fs : List Item) (n : ℕ) (passed : Limit) → n ≡ length (payloads 1 fs) → limit_of_keys n ≡ Some passed → watch_limit (watch fs).keys ≡ Some passed
watch_passes fs n passed counts is =
    first_of_one (when ((length (each_of watch_key 1 fs) == 0) || nat_lt MAX_WATCHED_KEYS (length (each_of watch_key 1 fs))) limit.WatchCount) _ passed
    (ap limit_of_keys (counted watch_key 1 fs n counts) ∙ is)
