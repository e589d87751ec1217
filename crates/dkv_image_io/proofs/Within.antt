-- What may stand in an image is within the limits, so that its lengths fit their fields.
use Rattle.std.proofs.Common.{◌≡◌, ℕ, ◌^◌, ◌<◌, ◌≤◌, true, false, not, ◌&&◌, ◌||◌, ◌==◌, nat_lt, nat_le, List, [], ◌∷◌, length, ap, arith}
use Rattle.std.specs.Prelude.{pos, map, is_none}
use Rattle.std.specs.List.{AllByRecursion, list_all}
use Rattle.std.specs.Ordering.{int_eq}
use Rattle.std.proofs.lemmas.Bool.{ltb-false, or_parts, and_parts}
use Rattle.dkv_base.specs.declared.types.Entry.{Entry}
use Rattle.dkv_base.specs.declared.types.Message.{Message}
use Rattle.dkv_base.specs.declared.types.Profile.{Profile}
use Rattle.dkv_base.specs.declared.types.Profile.TheVariants.{Narrow, Wide}
use Rattle.dkv_base.specs.declared.codes.Limit.TheVariants as limit
use Rattle.dkv_base.specs.declared.encodings.TheConstants.{V8, LE64, BYTES}
use Rattle.dkv_base.specs.Limits.{first_some, when, from_zero, interval_limit, undelivered_limit, is_bad_key, mutation_limit, enqueue_limit, value_limit}
use Rattle.dkv_base.specs.Profiles.{value_most}
use Rattle.dkv_base.specs.State.{is_visible, is_in_key_order, is_in_id_order}
use Rattle.dkv_image.specs.Image.{Bounds, is_good_entry, is_good_message, is_commit, set_of, enqueue_of}
use Rattle.dkv_image_io.specs.Sizes.{IsShortKey, FitsLengths, FitsCounts, HasImage}
use Rattle.dkv_image.proofs.Good.{no_row, not_when, encoding_is}

key_most : (key : List ℕ) → is_bad_key key ≡ false → length key ≤ 2048
key_most key good = ltb-false 2048 (length key) (or_parts _ _ good).1

-- an entry's lengths
pub record EntryWithin (p : Profile) (e : Entry) : Type 0 where
  pub key : length e.key ≤ 2048
  pub encoding : (k : ℕ) × (e.encoding ≡ pos k) × (k < 256)
  pub value : length e.bytes ≤ value_most p

pub entry_within : (b : Bounds) (e : Entry) → is_good_entry b e ≡ true → EntryWithin b.profile e
entry_within b e good =
    let within = is_none (mutation_limit b.profile (set_of e)) in
    let first = and_parts within (is_commit b e.commit) (and_parts (within && is_commit b e.commit) (is_visible b.now e) good).0 in
    let long_row = when (nat_lt (value_most b.profile) (length e.bytes)) limit.ValueLength in
    let le64_row = when (int_eq e.encoding LE64 && not (length e.bytes == 8)) limit.Le64Length in
    let encoding_row = when (not (int_eq e.encoding V8 || int_eq e.encoding LE64 || int_eq e.encoding BYTES)) limit.Encoding in
    let key_on = no_row (when (is_bad_key e.key) limit.MutationKey) (value_limit b.profile (set_of e) ∷ []) first.0 in
    let value_on = no_row (value_limit b.profile (set_of e)) [] key_on.1 in
    let encoding_on = no_row encoding_row (le64_row ∷ long_row ∷ []) value_on.0 in
    let long_on = no_row long_row [] (no_row le64_row (long_row ∷ []) encoding_on.1).1 in
    record {
      key = key_most e.key (not_when (is_bad_key e.key) limit.MutationKey key_on.0);
      encoding = encoding_is e.encoding (not_when (not (int_eq e.encoding V8 || int_eq e.encoding LE64 || int_eq e.encoding BYTES)) limit.Encoding encoding_on.0);
      value = ltb-false (value_most b.profile) (length e.bytes) (not_when (nat_lt (value_most b.profile) (length e.bytes)) limit.ValueLength long_on.0);
    }

-- a message's lengths and counts
pub record MessageWithin (p : Profile) (m : Message) : Type 0 where
  pub payload : length m.payload ≤ value_most p
  pub key_count : length m.undelivered ≤ 10
  pub keys : AllByRecursion (λ key. length key ≤ 2048) m.undelivered
  pub interval_count : length m.backoff ≤ 10

keys_most : (xs : List (List ℕ)) → is_none (first_some (map undelivered_limit xs)) ≡ true → AllByRecursion (λ key. length key ≤ 2048) xs
keys_most [] is = tt
keys_most (x ∷ xs) is = let on = no_row (undelivered_limit x) (map undelivered_limit xs) is in (key_most x (not_when (is_bad_key x) limit.UndeliveredKey on.0), keys_most xs on.1)

pub message_within : (b : Bounds) (m : Message) → is_good_message b m ≡ true → MessageWithin b.profile m
message_within b m good =
    let within = is_none (enqueue_limit b.profile (enqueue_of m)) in
    let some = nat_lt 0 (length m.backoff) in
    let failing = and_parts (within && is_commit b m.id.commit && some) (nat_le m.fails (length m.backoff)) good in
    let first = and_parts within (is_commit b m.id.commit) (and_parts (within && is_commit b m.id.commit) some failing.0).0 in
    let payload_row = when (nat_lt (value_most b.profile) (length m.payload)) limit.PayloadLength in
    let count_row = when (nat_lt 10 (length m.backoff)) limit.BackoffCount in
    let each_row = first_some (map interval_limit m.backoff) in
    let keys_row = when (nat_lt 10 (length m.undelivered)) limit.UndeliveredCount in
    let key_row = first_some (map undelivered_limit m.undelivered) in
    let payload_on = no_row payload_row (count_row ∷ each_row ∷ keys_row ∷ key_row ∷ []) first.0 in
    let count_on = no_row count_row (each_row ∷ keys_row ∷ key_row ∷ []) payload_on.1 in
    let each_on = no_row each_row (keys_row ∷ key_row ∷ []) count_on.1 in
    let keys_on = no_row keys_row (key_row ∷ []) each_on.1 in
    let key_on = no_row key_row [] keys_on.1 in
    record {
      payload = ltb-false (value_most b.profile) (length m.payload) (not_when (nat_lt (value_most b.profile) (length m.payload)) limit.PayloadLength payload_on.0);
      key_count = ltb-false 10 (length m.undelivered) (not_when (nat_lt 10 (length m.undelivered)) limit.UndeliveredCount keys_on.0);
      keys = keys_most m.undelivered key_on.0;
      interval_count = ltb-false 10 (length m.backoff) (not_when (nat_lt 10 (length m.backoff)) limit.BackoffCount count_on.0);
    }

-- ---- the fields

value_small : (p : Profile) → value_most p < 2 ^ 32
value_small Narrow = omega arith
value_small Wide = omega arith

pub lengths_fit : (b : Bounds) (e : Entry) → is_good_entry b e ≡ true → FitsLengths e
lengths_fit b e good =
    let w = entry_within b e good in
    record {
      key = omega (arith, w.key);
      encoding = omega (arith, ap from_zero (w.encoding).1, (w.encoding).2);
      value = omega (arith, w.value, value_small b.profile);
    }

short_keys : (xs : List (List ℕ)) → AllByRecursion (λ key. length key ≤ 2048) xs → AllByRecursion IsShortKey xs
short_keys [] each = tt
short_keys (x ∷ xs) each = (omega (arith, each.0), short_keys xs each.1)

pub counts_fit : (b : Bounds) (m : Message) → is_good_message b m ≡ true → FitsCounts m
counts_fit b m good =
    let w = message_within b m good in
    record {
      payload = omega (arith, w.payload, value_small b.profile);
      key_count = omega (arith, w.key_count);
      keys = short_keys m.undelivered w.keys;
      interval_count = omega (arith, w.interval_count);
    }

-- ---- all of them

all_lengths : (b : Bounds) (es : List Entry) → list_all (is_good_entry b) es ≡ true → AllByRecursion FitsLengths es
all_lengths b [] good = tt
all_lengths b (e ∷ es) good = let parts = and_parts _ _ good in (lengths_fit b e parts.0, all_lengths b es parts.1)

all_counts : (b : Bounds) (ms : List Message) → list_all (is_good_message b) ms ≡ true → AllByRecursion FitsCounts ms
all_counts b [] good = tt
all_counts b (m ∷ ms) good = let parts = and_parts _ _ good in (counts_fit b m parts.0, all_counts b ms parts.1)

module _ (es : List Entry) (ms : List Message) (has : HasImage es ms) where
  first_three : (list_all (is_good_entry has.0) es && is_in_key_order es && list_all (is_good_message has.0) ms) ≡ true
  first_three = (and_parts _ (is_in_id_order ms) has.1).0

  pub image_order : is_in_id_order ms ≡ true
  image_order = (and_parts (list_all (is_good_entry has.0) es && is_in_key_order es && list_all (is_good_message has.0) ms) (is_in_id_order ms) has.1).1

  pub image_entries : AllByRecursion FitsLengths es
  image_entries = all_lengths has.0 es (and_parts (list_all (is_good_entry has.0) es) (is_in_key_order es) (and_parts _ (list_all (is_good_message has.0) ms) first_three).0).0

  pub image_messages : AllByRecursion FitsCounts ms
  image_messages = all_counts has.0 ms (and_parts (list_all (is_good_entry has.0) es && is_in_key_order es) (list_all (is_good_message has.0) ms) first_three).1
