-- A write within its limits has a spelling that is little longer than the bytes that it was read of.
use Rattle.std.proofs.Common.{◌≡◌, ℕ, ◌+◌, ◌*◌, ◌≤◌, cond, List, [], ◌∷◌, ◌++◌, length, map, Option, Some, None, Ok, refl, sym, ap, subst, arith, length-append}
use Rattle.std.specs.Prelude.{nat_lt, not}
use Rattle.std.specs.List.{flat_map, AllByRecursion}
use Rattle.std.specs.Option.{option_map_or}
use Rattle.std.proofs.lemmas.Bool.{ltb-false}
use Rattle.std.proofs.lemmas.List.{length-map}
use Rattle.dkv_base.proofs.ByteLists.{Below}
use Rattle.dkv_base.specs.declared.types.AtomicWrite.{AtomicWrite}
use Rattle.dkv_base.specs.declared.codes.Limit.TheVariants as limit
use Rattle.dkv_base.specs.declared.types.Profile.TheVariants.{Narrow}
use Rattle.dkv_msgs.specs.Laws.{SpellsShort}
use Rattle.dkv_base.specs.Limits.{first_some, when, is_known_kind, is_bad_mutation_key, is_kind, value_limit, check_limit, mutation_limit, interval_limit, undelivered_limit, enqueue_limit, all_bytes, key_bytes, write_limit}
use Rattle.dkv_base.specs.declared.kinds.TheConstants.{DELETE}
use Rattle.dkv_base.specs.Protobuf.{varint, delimited, number_field, bytes_field, numbers_field, unsigned}
use Rattle.dkv_base.specs.Spelling.{spell_check, spell_value, spell_mutation, spell_enqueue, spell_write}
use Rattle.dkv_wire.specs.Wire.{Item}
use Rattle.dkv_wire.specs.FieldLists.{fields, bad}
use Rattle.dkv_wire.proofs.Shortest.{size_rises, size_step, size_sum, span, Sized, sized}
use Rattle.dkv_msgs.specs.ByField.{payloads, last_number, last_bytes}
use Rattle.dkv_msgs.specs.Messages.{if_given, check, kv_value, mutation, enqueue, atomic_write}
use Rattle.dkv_msgs.specs.Places.{earlier, in_fields, embedded, packed, bad_mutation, bad_enqueue, bad_atomic_write}
use Rattle.dkv_msgs.specs.Readings.{unless_bad, reads_atomic_write}
use Rattle.dkv_msgs.specs.Spellings.{all_delimited}
use Rattle.dkv_msgs.proofs.Short.{AreSized, delimited_length, int32_short, int32_known, bytes_short, number_short, int64_short, texts_short, numbers_short, same_payloads}
use Rattle.dkv_msgs.proofs.WholePayloads.{all_weigh, combine, payloads_below, not_earlier, IsWhole, payloads_whole, both_none, not_when, each_within, known, known_is}

-- ---- messages

check_short : (text : List ℕ) → Below text → IsWhole bad text → length (spell_check (check (fields 0 text))) ≤ length text + 0
check_short text below whole =
    let fs = fields 0 text in
    let s = sized whole.0 0 text below whole.1 in
    omega (arith, bytes_short 1 fs s.each, bytes_short 2 fs s.each, all_weigh fs, s.total, length-append (bytes_field 1 (last_bytes 1 fs)) (bytes_field 2 (last_bytes 2 fs)))

-- the payloads of one message, joined
abbrev long : List (List ℕ) → ℕ
long [] = 0
long (t ∷ ts) = length t + long ts

span-append : (fs gs : List Item) → span (fs ++ gs) ≡ span fs + span gs
span-append [] gs = omega arith
span-append (f ∷ fs) gs = omega (arith, span-append fs gs)

sized-append : (fs gs : List Item) → AreSized fs → AreSized gs → AreSized (fs ++ gs)
sized-append [] gs x y = y
sized-append (f ∷ fs) gs x y = (x.0, sized-append fs gs x.1 y)

joined_sized : (texts : List (List ℕ)) → AllByRecursion Below texts → AllByRecursion (IsWhole bad) texts → Sized (flat_map (λ text. fields 0 text) texts) (long texts)
joined_sized [] below whole = record { each = tt; total = refl }
joined_sized (t ∷ ts) below whole =
    let first = sized whole.0.0 0 t below.0 whole.0.1 in
    let others = joined_sized ts below.1 whole.1 in
    let gs = flat_map (λ text. fields 0 text) ts in
    record { each = sized-append (fields 0 t) gs first.each others.each; total = omega (arith, span-append (fields 0 t) gs, first.total, others.total) }

-- several payloads have several tags and lengths
joined_length : (k : ℕ) (t : List ℕ) (ts : List (List ℕ)) → length (varint (k * 8 + 2)) + length (varint (long (t ∷ ts))) + long (t ∷ ts) ≤ length (flat_map (delimited k) (t ∷ ts))
joined_length k t [] =
    let e : length t + 0 ≡ length t = omega arith in
    omega (arith, delimited_length k t, length-append (delimited k t) [], ap (λ (n : ℕ). length (varint n)) e)
joined_length k t (u ∷ ts) = omega (arith, joined_length k u ts, delimited_length k t, size_sum (length t) (long (u ∷ ts)), length-append (delimited k t) (flat_map (delimited k) (u ∷ ts)))

value_short : (texts : List (List ℕ)) → AllByRecursion Below texts → AllByRecursion (IsWhole bad) texts
    → length (option_map_or (λ v. delimited 2 (spell_value v)) (if_given texts (kv_value (flat_map (λ text. fields 0 text) texts))) []) ≤ length (flat_map (delimited 2) texts) + 6
value_short [] below whole = omega arith
value_short (t ∷ ts) below whole =
    let fs = flat_map (λ text. fields 0 text) (t ∷ ts) in
    let s = joined_sized (t ∷ ts) below whole in
    let v = kv_value fs in
    let few : length (spell_value v) ≤ long (t ∷ ts) + 5 = omega (arith, bytes_short 1 fs s.each, number_short 2 fs s.each, int32_short 2 (last_number 2 fs), all_weigh fs, s.total, length-append (bytes_field 1 v.bytes) (number_field 2 (unsigned v.encoding))) in
    omega (arith, few, delimited_length 2 (spell_value v), size_rises (length (spell_value v)) (long (t ∷ ts) + 5) few, size_step (long (t ∷ ts)) 5 (omega arith), joined_length 2 t ts)

mutation_short : (text : List ℕ) → Below text → IsWhole bad_mutation text × (mutation_limit Narrow (mutation (fields 0 text)) ≡ None) → length (spell_mutation (mutation (fields 0 text))) ≤ length text + 6
mutation_short text below given =
    let whole = given.0 in
    let fs = fields 0 text in
    let m = mutation fs in
    let places = not_earlier (bad whole.0 text) (in_fields 2 (embedded bad) (fields whole.0 text)) whole.1 in
    let s = sized whole.0 0 text below places.0 in
    let wholes = subst (AllByRecursion (IsWhole bad)) (same_payloads 2 whole.0 0 text) (payloads_whole 2 bad (fields whole.0 text) places.1) in
    let row = both_none (when (not (is_known_kind m)) limit.MutationKind) (first_some (when (is_bad_mutation_key m) limit.MutationKey ∷ cond (is_kind DELETE m) None (value_limit Narrow m) ∷ [])) given.1 in
    let kind = known_is m.kind (not_when (not (known m.kind)) limit.MutationKind row.0) in
    let key = bytes_field 1 m.key in
    let value = option_map_or (λ v. delimited 2 (spell_value v)) m.value [] in
    let third = number_field 3 (unsigned m.kind) in
    let fourth = number_field 4 (unsigned m.expire_at_ms) in
    omega (
      arith,
      bytes_short 1 fs s.each,
      value_short (payloads 2 fs) (payloads_below 2 fs s.each) wholes,
      texts_short 2 fs s.each,
      int32_known 3 (last_number 3 fs) kind.0 kind.1,
      number_short 3 fs s.each,
      int64_short 4 fs s.each,
      all_weigh fs,
      s.total,
      length-append (key ++ value ++ third) fourth,
      length-append (key ++ value) third,
      length-append key value,
    )

enqueue_short : (text : List ℕ) → Below text → IsWhole bad_enqueue text × (enqueue_limit Narrow (enqueue (fields 0 text)) ≡ None) → length (spell_enqueue (enqueue (fields 0 text))) ≤ length text + 1
enqueue_short text below given =
    let whole = given.0 in
    let fs = fields 0 text in
    let q = enqueue fs in
    let places = not_earlier (bad whole.0 text) (in_fields 4 packed (fields whole.0 text)) whole.1 in
    let s = sized whole.0 0 text below places.0 in
    let later = first_some (map interval_limit q.backoff) ∷ when (nat_lt 10 (length q.undelivered)) limit.UndeliveredCount ∷ first_some (map undelivered_limit q.undelivered) ∷ [] in
    let first = both_none (when (nat_lt 65536 (length q.payload)) limit.PayloadLength) (first_some (when (nat_lt 10 (length q.backoff)) limit.BackoffCount ∷ later)) given.1 in
    let row = both_none (when (nat_lt 10 (length q.backoff)) limit.BackoffCount) (first_some later) first.1 in
    let few = ltb-false 10 (length q.backoff) (not_when (nat_lt 10 (length q.backoff)) limit.BackoffCount row.0) in
    let payload = bytes_field 1 q.payload in
    let deadline = number_field 2 (unsigned q.deadline_ms) in
    let undelivered = flat_map (delimited 3) q.undelivered in
    let backoff = numbers_field 4 q.backoff in
    omega (
      arith,
      bytes_short 1 fs s.each,
      int64_short 2 fs s.each,
      texts_short 3 fs s.each,
      numbers_short fs s.each few,
      all_weigh fs,
      s.total,
      length-append (payload ++ deadline ++ undelivered) backoff,
      length-append (payload ++ deadline) undelivered,
      length-append payload deadline,
    )

-- ---- messages in a row

texts_grow : {M : Type 0} (k extra grown : ℕ) (spell : M → List ℕ) (read : List ℕ → M) (texts : List (List ℕ)) → ((n : ℕ) → length (varint (n + extra)) ≤ length (varint n) + grown)
    → AllByRecursion (λ text. length (spell (read text)) ≤ length text + extra) texts → length (all_delimited k spell (map read texts)) ≤ length (flat_map (delimited k) texts) + (extra + grown) * length texts
texts_grow k extra grown spell read [] step each = omega arith
texts_grow k extra grown spell read (t ∷ ts) step each =
    let b = spell (read t) in
    omega (
      arith,
      texts_grow k extra grown spell read ts step each.1,
      each.0,
      step (length t),
      size_rises (length b) (length t + extra) each.0,
      delimited_length k b,
      delimited_length k t,
      length-append (delimited k b) (all_delimited k spell (map read ts)),
      length-append (delimited k t) (flat_map (delimited k) ts),
    )

read_is : (place : Option ℕ) (w v : AtomicWrite) → unless_bad place w ≡ Ok v → (place ≡ None) × (w ≡ v)
read_is None w v e = (refl, cc)
read_is (Some p) w v e = absurd cc

-- of the write that bytes are read as
record Within (w : AtomicWrite) : Type 0 where
  count : length w.mutations + length w.enqueues ≤ 1000
  mutations : first_some (map (mutation_limit Narrow) w.mutations) ≡ None
  enqueues : first_some (map (enqueue_limit Narrow) w.enqueues) ≡ None

within : (w : AtomicWrite) → write_limit w ≡ None → Within w
within w e =
    let totals = when (nat_lt 819200 (all_bytes w)) limit.TotalBytes ∷ when (nat_lt 81920 (key_bytes w)) limit.TotalKeyBytes ∷ [] in
    let enqueues = first_some (map (enqueue_limit Narrow) w.enqueues) in
    let mutations = first_some (map (mutation_limit Narrow) w.mutations) in
    let checks = first_some (map check_limit w.checks) in
    let many = when (nat_lt 1000 (length w.mutations + length w.enqueues)) limit.TooManyMutations in
    let a = both_none (when (nat_lt 100 (length w.checks)) limit.TooManyChecks) (first_some (many ∷ checks ∷ mutations ∷ enqueues ∷ totals)) e in
    let b = both_none many (first_some (checks ∷ mutations ∷ enqueues ∷ totals)) a.1 in
    let c = both_none checks (first_some (mutations ∷ enqueues ∷ totals)) b.1 in
    let d = both_none mutations (first_some (enqueues ∷ totals)) c.1 in
    record {
      count = ltb-false 1000 (length w.mutations + length w.enqueues) (not_when (nat_lt 1000 (length w.mutations + length w.enqueues)) limit.TooManyMutations b.0);
      mutations = d.0;
      enqueues = (both_none enqueues (first_some totals) d.1).0;
    }

same_size : (n : ℕ) → length (varint (n + 0)) ≤ length (varint n) + 0
same_size n = omega (arith, size_rises (n + 0) n (omega arith))

read_short : (body : List ℕ) → Below body → bad_atomic_write 0 body ≡ None → write_limit (atomic_write (fields 0 body)) ≡ None → length (spell_write (atomic_write (fields 0 body))) ≤ length body + 7000
read_short body below whole limits =
    let fs = fields 0 body in
    let w = atomic_write fs in
    let p0 = not_earlier (bad 0 body) (earlier (in_fields 1 (embedded bad) fs) (earlier (in_fields 2 (embedded bad_mutation) fs) (in_fields 3 (embedded bad_enqueue) fs))) whole in
    let p1 = not_earlier (in_fields 1 (embedded bad) fs) (earlier (in_fields 2 (embedded bad_mutation) fs) (in_fields 3 (embedded bad_enqueue) fs)) p0.1 in
    let p2 = not_earlier (in_fields 2 (embedded bad_mutation) fs) (in_fields 3 (embedded bad_enqueue) fs) p1.1 in
    let s = sized 0 0 body below p0.0 in
    let rows = within w limits in
    let cs = payloads 1 fs in
    let ms = payloads 2 fs in
    let qs = payloads 3 fs in
    let checks = combine cs check_short (payloads_below 1 fs s.each) (payloads_whole 1 bad fs p1.0) in
    let mutations = combine ms mutation_short (payloads_below 2 fs s.each) (combine ms (λ text a b. (a, b)) (payloads_whole 2 bad_mutation fs p2.0) (each_within (mutation_limit Narrow) (λ text. mutation (fields 0 text)) ms rows.mutations)) in
    let enqueues = combine qs enqueue_short (payloads_below 3 fs s.each) (combine qs (λ text a b. (a, b)) (payloads_whole 3 bad_enqueue fs p2.1) (each_within (enqueue_limit Narrow) (λ text. enqueue (fields 0 text)) qs rows.enqueues)) in
    let first = all_delimited 1 spell_check w.checks in
    let second = all_delimited 2 spell_mutation w.mutations in
    let third = all_delimited 3 spell_enqueue w.enqueues in
    omega (
      arith,
      texts_grow 1 0 0 spell_check (λ text. check (fields 0 text)) cs same_size checks,
      texts_grow 2 6 1 spell_mutation (λ text. mutation (fields 0 text)) ms (λ n. size_step n 6 (omega arith)) mutations,
      texts_grow 3 1 1 spell_enqueue (λ text. enqueue (fields 0 text)) qs (λ n. size_step n 1 (omega arith)) enqueues,
      texts_short 1 fs s.each,
      texts_short 2 fs s.each,
      texts_short 3 fs s.each,
      length-map ms (λ text. mutation (fields 0 text)),
      length-map qs (λ text. enqueue (fields 0 text)),
      rows.count,
      all_weigh fs,
      s.total,
      length-append (first ++ second) third,
      length-append first second,
    )

pub spells_short : SpellsShort reads_atomic_write
spells_short body w are read limits =
    let is = read_is (bad_atomic_write 0 body) (atomic_write (fields 0 body)) w read in
    subst (λ (v : AtomicWrite). length (spell_write v) ≤ length body + 7000) is.1 (read_short body are.each is.0 (subst (λ (v : AtomicWrite). write_limit v ≡ None) (sym is.1) limits))
