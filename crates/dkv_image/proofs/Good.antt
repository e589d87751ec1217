-- What may stand in an image fits its fields.
use Rattle.std.proofs.Common.{◌≡◌, refl, ℕ, ◌^◌, ◌<◌, Bool, true, false, not, ◌&&◌, ◌||◌, ◌==◌, nat_lt, nat_le, List, [], ◌∷◌, length, Option, Some, None, arith}
use Rattle.std.specs.Prelude.{ℤ, pos, map, is_none}
use Rattle.std.specs.List.{AllByRecursion}
use Rattle.std.specs.Ordering.{int_eq}
use Rattle.std.proofs.lemmas.Bool.{ltb-false, leb-true, or_parts, and_parts}
use Rattle.std.proofs.lemmas.Bool.Decides.{Decides-int_eq}
use Rattle.dkv_base.specs.declared.types.Entry.{Entry}
use Rattle.dkv_base.specs.declared.codes.Limit.{Limit}
use Rattle.dkv_base.specs.declared.codes.Limit.TheVariants as limit
use Rattle.dkv_base.specs.declared.types.Message.{Message}
use Rattle.dkv_base.specs.Limits.{first_some, when, interval_limit, undelivered_limit, is_bad_key, mutation_limit, enqueue_limit, value_limit}
use Rattle.dkv_base.specs.declared.encodings.TheConstants.{V8, LE64, BYTES}
use Rattle.dkv_base.specs.State.{is_visible}
use Rattle.dkv_base.specs.declared.types.Profile.{Profile}
use Rattle.dkv_base.specs.declared.types.Profile.TheVariants.{Narrow, Wide}
use Rattle.dkv_base.specs.Profiles.{value_most}
use Rattle.dkv_image.specs.Image.{Bounds, is_good_entry, is_good_message, is_commit, set_of, enqueue_of, FitsEntry, FitsMessage}
use Rattle.dkv_image.proofs.Fields.{MessageFits}

-- no row of a list passes
pub no_row : (row : Option Limit) (rows : List (Option Limit)) → is_none (first_some (row ∷ rows)) ≡ true → (is_none row ≡ true) × (is_none (first_some rows) ≡ true)
no_row None rows is = (refl, is)
no_row (Some x) rows is = absurd (cc is)

pub not_when : (test : Bool) (x : Limit) → is_none (when test x) ≡ true → test ≡ false
not_when true x is = absurd (cc is)
not_when false x is = refl

value_small : (p : Profile) → value_most p < 2 ^ 32
value_small Narrow = omega arith
value_small Wide = omega arith

key_small : (key : List ℕ) → is_bad_key key ≡ false → length key < 2 ^ 32
key_small key good = omega (arith, ltb-false 2048 (length key) (or_parts _ _ good).1)

-- an encoding is 1, 2 or 3
pub encoding_is : (z : ℤ) → not (int_eq z V8 || int_eq z LE64 || int_eq z BYTES) ≡ false → (k : ℕ) × (z ≡ pos k) × (k < 256)
encoding_is z known =
    elim (int_eq z V8) as (λ v. int_eq z V8 ≡ v → not (v || int_eq z LE64 || int_eq z BYTES) ≡ false → (k : ℕ) × (z ≡ pos k) × (k < 256)) [
      | true ↦ λ is _. (1, (Decides-int_eq z V8).0 is, omega arith)
      | false ↦ λ _ others. elim (int_eq z LE64) as (λ v. int_eq z LE64 ≡ v → not (v || int_eq z BYTES) ≡ false → (k : ℕ) × (z ≡ pos k) × (k < 256)) [
        | true ↦ λ is _. (2, (Decides-int_eq z LE64).0 is, omega arith)
        | false ↦ λ _ last. elim (int_eq z BYTES) as (λ v. int_eq z BYTES ≡ v → not v ≡ false → (k : ℕ) × (z ≡ pos k) × (k < 256)) [
          | true ↦ λ is _. (3, (Decides-int_eq z BYTES).0 is, omega arith)
          | false ↦ λ _ none. absurd (cc none)
        ] refl last
      ] refl others
    ] refl known

pub record EntryFits (e : Entry) : Type 0 where
  pub key : length e.key < 2 ^ 32
  pub encoding : (k : ℕ) × (e.encoding ≡ pos k) × (k < 256)
  pub value : length e.bytes < 2 ^ 32
  pub commit : e.commit < 2 ^ 64
  pub expire : e.expire < 2 ^ 64

commit_small : (b : Bounds) (n : ℕ) → b.n < 2 ^ 64 → is_commit b n ≡ true → n < 2 ^ 64
commit_small b n small is = omega (arith, small, leb-true n b.n (and_parts (nat_le 1 n) (nat_le n b.n) is).1)

pub entry_fits : (b : Bounds) (e : Entry) → b.n < 2 ^ 64 → is_good_entry b e ≡ true → FitsEntry e → EntryFits e
entry_fits b e small good fits =
    let within = is_none (mutation_limit b.profile (set_of e)) in
    let first = and_parts within (is_commit b e.commit) (and_parts (within && is_commit b e.commit) (is_visible b.now e) good).0 in
    let long_row = when (nat_lt (value_most b.profile) (length e.bytes)) limit.ValueLength in
    let le64_row = when (int_eq e.encoding LE64 && not (length e.bytes == 8)) limit.Le64Length in
    let encoding_row = when (not (int_eq e.encoding V8 || int_eq e.encoding LE64 || int_eq e.encoding BYTES)) limit.Encoding in
    let key_row = when (is_bad_key e.key) limit.MutationKey in
    let key_on = no_row key_row (value_limit b.profile (set_of e) ∷ []) first.0 in
    let value_on = no_row (value_limit b.profile (set_of e)) [] key_on.1 in
    let encoding_on = no_row encoding_row (le64_row ∷ long_row ∷ []) value_on.0 in
    let long_on = no_row long_row [] (no_row le64_row (long_row ∷ []) encoding_on.1).1 in
    let short = ltb-false (value_most b.profile) (length e.bytes) (not_when (nat_lt (value_most b.profile) (length e.bytes)) limit.ValueLength long_on.0) in
    record {
      key = key_small e.key (not_when (is_bad_key e.key) limit.MutationKey key_on.0);
      encoding = encoding_is e.encoding (not_when (not (int_eq e.encoding V8 || int_eq e.encoding LE64 || int_eq e.encoding BYTES)) limit.Encoding encoding_on.0);
      value = omega (arith, short, value_small b.profile);
      commit = commit_small b e.commit small first.1;
      expire = fits.expire;
    }

intervals : (xs : List ℕ) → is_none (first_some (map interval_limit xs)) ≡ true → AllByRecursion (λ n. n < 2 ^ 32) xs
intervals [] is = tt
intervals (x ∷ xs) is =
    let on = no_row (interval_limit x) (map interval_limit xs) is in
    let most = ltb-false 3600000 x (not_when (nat_lt 3600000 x) limit.BackoffInterval on.0) in
    (omega (arith, most), intervals xs on.1)

keys : (xs : List (List ℕ)) → is_none (first_some (map undelivered_limit xs)) ≡ true → AllByRecursion (λ key. length key < 2 ^ 32) xs
keys [] is = tt
keys (x ∷ xs) is = let on = no_row (undelivered_limit x) (map undelivered_limit xs) is in (key_small x (not_when (is_bad_key x) limit.UndeliveredKey on.0), keys xs on.1)

pub message_fits : (b : Bounds) (m : Message) → b.n < 2 ^ 64 → is_good_message b m ≡ true → FitsMessage m → MessageFits m
message_fits b m small good fits =
    let within = is_none (enqueue_limit b.profile (enqueue_of m)) in
    let some = nat_lt 0 (length m.backoff) in
    let failing = and_parts (within && is_commit b m.id.commit && some) (nat_le m.fails (length m.backoff)) good in
    let first = and_parts within (is_commit b m.id.commit) (and_parts (within && is_commit b m.id.commit) some failing.0).0 in
    let payload_row = when (nat_lt (value_most b.profile) (length m.payload)) limit.PayloadLength in
    let count_row = when (nat_lt 10 (length m.backoff)) limit.BackoffCount in
    let each_row = first_some (map interval_limit m.backoff) in
    let keys_row = when (nat_lt 10 (length m.undelivered)) limit.UndeliveredCount in
    let key_row = first_some (map undelivered_limit m.undelivered) in
    let payload_on = no_row payload_row (count_row ∷ each_row ∷ keys_row ∷ key_row ∷ []) first.0 in
    let count_on = no_row count_row (each_row ∷ keys_row ∷ key_row ∷ []) payload_on.1 in
    let each_on = no_row each_row (keys_row ∷ key_row ∷ []) count_on.1 in
    let keys_on = no_row keys_row (key_row ∷ []) each_on.1 in
    let key_on = no_row key_row [] keys_on.1 in
    let backoff_most = ltb-false 10 (length m.backoff) (not_when (nat_lt 10 (length m.backoff)) limit.BackoffCount count_on.0) in
    let keys_most = ltb-false 10 (length m.undelivered) (not_when (nat_lt 10 (length m.undelivered)) limit.UndeliveredCount keys_on.0) in
    let payload_most = ltb-false (value_most b.profile) (length m.payload) (not_when (nat_lt (value_most b.profile) (length m.payload)) limit.PayloadLength payload_on.0) in
    record {
      commit = commit_small b m.id.commit small first.1;
      index = fits.index;
      due = fits.due;
      fails = omega (arith, leb-true m.fails (length m.backoff) failing.1, backoff_most);
      payload = omega (arith, payload_most, value_small b.profile);
      key_count = omega (arith, keys_most);
      keys = keys m.undelivered key_on.0;
      interval_count = omega (arith, backoff_most);
      intervals = intervals m.backoff each_on.0;
    }
