-- Each message is read back from its spelling.
use Rattle.std.proofs.Common.{◌≡◌, ℕ, ◌<◌, ◌^◌, List, [], ◌∷◌, ◌++◌, length, map, Option, Some, None, Result, Ok, refl, sym, ap, ◌∙◌, arith, length-append}
use Rattle.std.specs.Prelude.{All, IfSome}
use Rattle.std.specs.List.{flat_map, AllByRecursion}
use Rattle.std.proofs.lemmas.List.Elements.{recursion_from_All, All-from_recursion}
use Rattle.dkv_base.specs.declared.types.AtomicWrite.{AtomicWrite}
use Rattle.dkv_base.specs.declared.types.Enqueue.{Enqueue}
use Rattle.dkv_base.specs.declared.types.Mutation.{Mutation}
use Rattle.dkv_base.specs.declared.types.Value.{Value}
use Rattle.dkv_base.specs.Fits.{FitsValue, FitsMutation, FitsEnqueue, FitsWrite}
use Rattle.dkv_base.specs.Protobuf.{flag, unsigned, varint, number_field, bytes_field}
use Rattle.dkv_msgs.specs.Spellings.{all_delimited, spell_range, spell_ranges, spell_keys, spell_range_output, spell_snapshot_read_output, spell_atomic_write_output, spell_watch_key_output, spell_watch_output}
use Rattle.dkv_base.specs.Spelling.{spell_check, spell_mutation, spell_enqueue, spell_write}
use Rattle.dkv_wire.specs.Wire.{Content, ALen}
use Rattle.dkv_wire.specs.FieldLists.{fields, bad}
use Rattle.dkv_msgs.specs.declared.types.AtomicWriteOutput.{AtomicWriteOutput}
use Rattle.dkv_msgs.specs.declared.types.SnapshotRead.{SnapshotRead}
use Rattle.dkv_msgs.specs.declared.types.SnapshotReadOutput.{SnapshotReadOutput}
use Rattle.dkv_msgs.specs.declared.types.Watch.{Watch}
use Rattle.dkv_msgs.specs.declared.types.WatchOutput.{WatchOutput}
use Rattle.dkv_msgs.specs.ByField.{int32, truth}
use Rattle.dkv_msgs.specs.Fits.{RangeFits, ReadFits, ValueFits, MutationFits, EnqueueFits, WriteFits, EntryFits, ReadOutputFits, WriteOutputFits, KeyOutputFits, WatchOutputFits}
use Rattle.dkv_msgs.specs.Messages.{read_range, snapshot_read, check, mutation, enqueue, atomic_write, watch_key, watch, range_output, snapshot_read_output, atomic_write_output, watch_key_output, watch_output}
use Rattle.dkv_msgs.specs.Places.{bad_mutation, bad_enqueue, bad_range_output, bad_watch_key_output, bad_snapshot_read, bad_snapshot_read_output, bad_atomic_write, bad_atomic_write_output, bad_watch, bad_watch_output}
use Rattle.dkv_msgs.specs.Readings.{unless_bad, reads_snapshot_read, reads_snapshot_read_output, reads_atomic_write, reads_atomic_write_output, reads_watch, reads_watch_output}
use Rattle.dkv_msgs.proofs.Shown.{both, bytes_content, number_content, bytes_shown, number_shown, all_delimited_shown, bad_shown}
use Rattle.dkv_msgs.proofs.Back.{int32_back, unsigned32, flag_small, truth_back, bytes_back, number_back, numbers_back, packed_back, many_back}
use Rattle.dkv_msgs.proofs.BackEmbedded.{Max, one, two, three, four, eight, no_bad, range_back, check_back, key_back, enqueue_back, mutation_back, range_output_back, key_output_back, all_back}

abbrev Groups : Type 0
Groups = List (ℕ × List Content)

-- what is read where no place is bad
is_read : {M : Type 0} (place : Option ℕ) (m n : M) → place ≡ None → n ≡ m → unless_bad place n ≡ Ok m
is_read place m n good same = ap (λ (o : Option ℕ). unless_bad o n) good ∙ ap (λ m. Ok m) same

pub read_again : (m : SnapshotRead) → ReadFits m → length (spell_ranges m.ranges) < Max → reads_snapshot_read (spell_ranges m.ranges) ≡ Ok m
read_again m fits lt =
    let b = spell_ranges m.ranges in
    let gs : Groups = (1, map (λ r. ALen (spell_range r)) m.ranges) ∷ [] in
    let x = all_delimited_shown 1 spell_range m.ranges one lt in
    let ranges = many_back spell_range read_range bad 1 0 b gs m.ranges x refl (all_back 1 spell_range read_range bad RangeFits m.ranges range_back fits lt) in
    is_read (bad_snapshot_read 0 b) m (snapshot_read (fields 0 b)) (no_bad _ _ (bad_shown 0 b gs x) ranges.whole) (λ i. record { ranges = ranges.messages i })

pub watch_again : (m : Watch) → length (spell_keys m.keys) < Max → reads_watch (spell_keys m.keys) ≡ Ok m
watch_again m lt =
    let b = spell_keys m.keys in
    let gs : Groups = (1, map (λ key. ALen (bytes_field 1 key)) m.keys) ∷ [] in
    let x = all_delimited_shown 1 (bytes_field 1) m.keys one lt in
    let keys = many_back (bytes_field 1) watch_key bad 1 0 b gs m.keys x refl (all_back 1 (bytes_field 1) watch_key bad (λ key. Unit {0}) m.keys (λ key fits small. key_back key small) (λ k d at. tt) lt) in
    is_read (bad_watch 0 b) m (watch (fields 0 b)) (no_bad _ _ (bad_shown 0 b gs x) keys.whole) (λ i. record { keys = keys.messages i })

abbrev write_groups : AtomicWrite → Groups
write_groups w = (1, map (λ c. ALen (spell_check c)) w.checks) ∷ (2, map (λ m. ALen (spell_mutation m)) w.mutations) ∷ (3, map (λ q. ALen (spell_enqueue q)) w.enqueues) ∷ []

pub write_again : (w : AtomicWrite) → WriteFits w → length (spell_write w) < Max → reads_atomic_write (spell_write w) ≡ Ok w
write_again w fits lt =
    let b = spell_write w in
    let gs = write_groups w in
    let cs = all_delimited 1 spell_check w.checks in
    let ms = all_delimited 2 spell_mutation w.mutations in
    let qs = all_delimited 3 spell_enqueue w.enqueues in
    let x = both _ _ _ _ (both _ _ _ _ (all_delimited_shown 1 spell_check w.checks one) (all_delimited_shown 2 spell_mutation w.mutations two)) (all_delimited_shown 3 spell_enqueue w.enqueues three) lt in
    let small_cs : length cs < Max = omega (arith, lt, length-append (cs ++ ms) qs, length-append cs ms) in
    let small_ms : length ms < Max = omega (arith, lt, length-append (cs ++ ms) qs, length-append cs ms) in
    let small_qs : length qs < Max = omega (arith, lt, length-append (cs ++ ms) qs, length-append cs ms) in
    let checks = many_back spell_check check bad 1 0 b gs w.checks x refl (all_back 1 spell_check check bad (λ c. Unit {0}) w.checks (λ c fits small. check_back c small) (λ k d at. tt) small_cs) in
    let mutations = many_back spell_mutation mutation bad_mutation 2 0 b gs w.mutations x refl (all_back 2 spell_mutation mutation bad_mutation MutationFits w.mutations mutation_back fits.mutations small_ms) in
    let enqueues = many_back spell_enqueue enqueue bad_enqueue 3 0 b gs w.enqueues x refl (all_back 3 spell_enqueue enqueue bad_enqueue EnqueueFits w.enqueues enqueue_back fits.enqueues small_qs) in
    is_read (bad_atomic_write 0 b) w (atomic_write (fields 0 b))
    (no_bad _ _ (bad_shown 0 b gs x) (no_bad _ _ checks.whole (no_bad _ _ mutations.whole enqueues.whole)))
    (λ i. record { checks = checks.messages i; mutations = mutations.messages i; enqueues = enqueues.messages i })

abbrev read_output_groups : SnapshotReadOutput → Groups
read_output_groups m = (1, map (λ es. ALen (spell_range_output es)) m.ranges) ∷ (2, number_content (flag m.read_disabled)) ∷ (4, number_content (flag m.strong)) ∷ (8, number_content (unsigned m.status)) ∷ []

pub read_output_again : (m : SnapshotReadOutput) → ReadOutputFits m → length (spell_snapshot_read_output m) < Max → reads_snapshot_read_output (spell_snapshot_read_output m) ≡ Ok m
read_output_again m fits lt =
    let b = spell_snapshot_read_output m in
    let gs = read_output_groups m in
    let rs = all_delimited 1 spell_range_output m.ranges in
    let n2 = number_field 2 (flag m.read_disabled) in
    let n4 = number_field 4 (flag m.strong) in
    let n8 = number_field 8 (unsigned m.status) in
    let x = both _ _ _ _ (both _ _ _ _ (both _ _ _ _ (all_delimited_shown 1 spell_range_output m.ranges one) (number_shown 2 (flag m.read_disabled) two (flag_small m.read_disabled))) (number_shown 4 (flag m.strong) four (flag_small m.strong))) (number_shown 8 (unsigned m.status) eight (unsigned32 m.status fits.status)) lt in
    let small : length rs < Max = omega (arith, lt, length-append (rs ++ n2 ++ n4) n8, length-append (rs ++ n2) n4, length-append rs n2) in
    let ranges = many_back spell_range_output range_output bad_range_output 1 0 b gs m.ranges x refl (all_back 1 spell_range_output range_output bad_range_output (All EntryFits) m.ranges range_output_back fits.ranges small) in
    let read_disabled = ap truth (number_back 2 0 b gs (flag m.read_disabled) x refl) ∙ truth_back m.read_disabled in
    let strong = ap truth (number_back 4 0 b gs (flag m.strong) x refl) ∙ truth_back m.strong in
    let status = ap int32 (number_back 8 0 b gs (unsigned m.status) x refl) ∙ int32_back m.status fits.status in
    is_read (bad_snapshot_read_output 0 b) m (snapshot_read_output (fields 0 b)) (no_bad _ _ (bad_shown 0 b gs x) ranges.whole)
    (λ i. record { ranges = ranges.messages i; read_disabled = read_disabled i; strong = strong i; status = status i })

abbrev write_output_groups : AtomicWriteOutput → Groups
write_output_groups m = (1, number_content (unsigned m.status)) ∷ (2, bytes_content m.versionstamp) ∷ (4, bytes_content (flat_map varint m.failed_checks)) ∷ []

pub write_output_again : (m : AtomicWriteOutput) → WriteOutputFits m → length (spell_atomic_write_output m) < Max → reads_atomic_write_output (spell_atomic_write_output m) ≡ Ok m
write_output_again m fits lt =
    let b = spell_atomic_write_output m in
    let gs = write_output_groups m in
    let x = both _ _ _ _ (both _ _ _ _ (number_shown 1 (unsigned m.status) one (unsigned32 m.status fits.status)) (bytes_shown 2 m.versionstamp two)) (bytes_shown 4 (flat_map varint m.failed_checks) four) lt in
    let small = recursion_from_All (λ n. n < 2 ^ 32) m.failed_checks fits.failed_checks in
    let status = ap int32 (number_back 1 0 b gs (unsigned m.status) x refl) ∙ int32_back m.status fits.status in
    let versionstamp = bytes_back 2 0 b gs m.versionstamp x refl in
    let failed_checks = numbers_back 4 0 b gs m.failed_checks x refl small in
    is_read (bad_atomic_write_output 0 b) m (atomic_write_output (fields 0 b)) (no_bad _ _ (bad_shown 0 b gs x) (packed_back 4 0 b gs m.failed_checks x refl small))
    (λ i. record { status = status i; versionstamp = versionstamp i; failed_checks = failed_checks i })

abbrev watch_output_groups : WatchOutput → Groups
watch_output_groups m = (1, number_content (unsigned m.status)) ∷ (2, map (λ k. ALen (spell_watch_key_output k)) m.keys) ∷ []

pub watch_output_again : (m : WatchOutput) → WatchOutputFits m → length (spell_watch_output m) < Max → reads_watch_output (spell_watch_output m) ≡ Ok m
watch_output_again m fits lt =
    let b = spell_watch_output m in
    let gs = watch_output_groups m in
    let ks = all_delimited 2 spell_watch_key_output m.keys in
    let x = both _ _ _ _ (number_shown 1 (unsigned m.status) one (unsigned32 m.status fits.status)) (all_delimited_shown 2 spell_watch_key_output m.keys two) lt in
    let small : length ks < Max = omega (arith, lt, length-append (number_field 1 (unsigned m.status)) ks) in
    let keys = many_back spell_watch_key_output watch_key_output bad_watch_key_output 2 0 b gs m.keys x refl (all_back 2 spell_watch_key_output watch_key_output bad_watch_key_output KeyOutputFits m.keys key_output_back fits.keys small) in
    let status = ap int32 (number_back 1 0 b gs (unsigned m.status) x refl) ∙ int32_back m.status fits.status in
    is_read (bad_watch_output 0 b) m (watch_output (fields 0 b)) (no_bad _ _ (bad_shown 0 b gs x) keys.whole)
    (λ i. record { status = status i; keys = keys.messages i })

-- what was written is read back, as memory holds it
pub written_back : {M : Type 0} (reads : List ℕ → Result M ℕ) (spelled written : List ℕ) (m : M) → written ≡ spelled → length written < 2 ^ 63 → (length spelled < Max → reads spelled ≡ Ok m) → reads written ≡ Ok m
written_back reads spelled written m is held again = ap reads is ∙ again (omega (arith, held, ap length is))

ok_is : {M : Type 0} (m n : M) → (let r : Result M ℕ = Ok m in r ≡ Ok n) → m ≡ n
ok_is m n e = cc

-- one spelling reads as one message
pub one_message : {M : Type 0} (reads : List ℕ → Result M ℕ) (a b : List ℕ) (m n : M) → length a < 2 ^ 63 → a ≡ b → (length a < Max → reads a ≡ Ok m) → (length b < Max → reads b ≡ Ok n) → m ≡ n
one_message reads a b m n held same x y = ok_is m n (sym (x (omega (arith, held))) ∙ ap reads same ∙ y (omega (arith, held, ap length same)))

-- a write that fits its types has numbers that do
pub numbers_fit : (w : AtomicWrite) → FitsWrite w → WriteFits w
numbers_fit w fits = record {
  mutations = All-from_recursion MutationFits w.mutations (mutations_fit w.mutations fits.mutations.each);
  enqueues = All-from_recursion EnqueueFits w.enqueues (enqueues_fit w.enqueues fits.enqueues.each);
}
  where
    value_fits : (o : Option Value) → IfSome o FitsValue → IfSome o ValueFits
    value_fits None fits = tt
    value_fits (Some v) fits = fits.encoding

    mutations_fit : (ms : List Mutation) → AllByRecursion FitsMutation ms → AllByRecursion MutationFits ms
    mutations_fit [] fits = tt
    mutations_fit (m ∷ ms) fits = (record { value = value_fits m.value fits.0.value; kind = fits.0.kind; expire_at_ms = fits.0.expire_at_ms }, mutations_fit ms fits.1)

    enqueues_fit : (qs : List Enqueue) → AllByRecursion FitsEnqueue qs → AllByRecursion EnqueueFits qs
    enqueues_fit [] fits = tt
    enqueues_fit (q ∷ qs) fits = (record { deadline_ms = fits.0.deadline_ms; backoff = All-from_recursion (λ n. n < 2 ^ 32) q.backoff fits.0.backoff.each }, enqueues_fit qs fits.1)
