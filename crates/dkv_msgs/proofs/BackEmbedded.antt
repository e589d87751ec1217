-- Each message that stands inside others is read back from its spelling.
use Rattle.std.proofs.Common.{◌≡◌, ℕ, ◌<◌, ◌^◌, List, [], ◌∷◌, ◌++◌, length, map, Option, Some, None, refl, ap, ◌∙◌, arith, lit≤, length-append}
use Rattle.std.specs.Prelude.{All, IfSome}
use Rattle.std.specs.List.{flat_map, AllByRecursion}
use Rattle.std.specs.Option.{option_map_or}
use Rattle.std.proofs.lemmas.List.Elements.{recursion_from_All}
use Rattle.dkv_base.specs.declared.types.Check.{Check}
use Rattle.dkv_base.specs.declared.types.Enqueue.{Enqueue}
use Rattle.dkv_base.specs.declared.types.Mutation.{Mutation}
use Rattle.dkv_base.specs.declared.types.ReadRange.{ReadRange}
use Rattle.dkv_base.specs.declared.types.Value.{Value}
use Rattle.dkv_base.specs.Protobuf.{flag, unsigned, varint, delimited, number_field, bytes_field}
use Rattle.dkv_msgs.specs.Spellings.{all_delimited, spell_range, spell_kv_entry, spell_range_output, spell_watch_key_output}
use Rattle.dkv_base.specs.Spelling.{spell_check, spell_value, spell_mutation, spell_enqueue}
use Rattle.dkv_wire.specs.Wire.{Item, Content, ALen, IsFieldNumber}
use Rattle.dkv_wire.specs.FieldLists.{bad}
use Rattle.dkv_msgs.specs.declared.types.KvEntry.{KvEntry}
use Rattle.dkv_msgs.specs.declared.types.WatchKeyOutput.{WatchKeyOutput}
use Rattle.dkv_msgs.specs.Fits.{RangeFits, ValueFits, MutationFits, EnqueueFits, EntryFits, KeyOutputFits}
use Rattle.dkv_msgs.specs.ByField.{int32, int64, truth}
use Rattle.dkv_msgs.specs.Messages.{read_range, check, kv_value, mutation, enqueue, watch_key, kv_entry, range_output, watch_key_output}
use Rattle.dkv_msgs.specs.Places.{earlier, bad_mutation, bad_enqueue, bad_range_output, bad_watch_key_output}
use Rattle.dkv_msgs.proofs.Shown.{Shown, both, bytes_content, number_content, bytes_shown, number_shown, all_delimited_shown, all_delimited_small, bad_shown}
use Rattle.dkv_msgs.proofs.Back.{int32_back, int64_back, unsigned32, unsigned64, flag_small, truth_back, bytes_back, number_back, numbers_back, packed_back, payloads_back, Back, many_back, option_content, OptionBack, option_shown, one_back}

abbrev pub Max : ℕ
Max = 18446744073709551616

abbrev Groups : Type 0
Groups = List (ℕ × List Content)

pub one : IsFieldNumber 1
one = (lit≤ tt, lit≤ tt)

pub two : IsFieldNumber 2
two = (lit≤ tt, lit≤ tt)

pub three : IsFieldNumber 3
three = (lit≤ tt, lit≤ tt)

pub four : IsFieldNumber 4
four = (lit≤ tt, lit≤ tt)

pub eight : IsFieldNumber 8
eight = (lit≤ tt, lit≤ tt)

pub no_bad : (a b : Option ℕ) → a ≡ None → b ≡ None → earlier a b ≡ None
no_bad a b x y = ap (λ (o : Option ℕ). earlier o b) x ∙ y

-- ---- messages of one level

abbrev range_groups : ReadRange → Groups
range_groups r = (1, bytes_content r.start) ∷ (2, bytes_content r.end) ∷ (3, number_content (unsigned r.limit)) ∷ (4, number_content (flag r.reverse)) ∷ []

range_shown : (r : ReadRange) → RangeFits r → Shown (spell_range r) (range_groups r)
range_shown r fits = both _ _ _ _ (both _ _ _ _ (both _ _ _ _ (bytes_shown 1 r.start one) (bytes_shown 2 r.end two)) (number_shown 3 (unsigned r.limit) three (unsigned32 r.limit fits))) (number_shown 4 (flag r.reverse) four (flag_small r.reverse))

pub range_back : (r : ReadRange) → RangeFits r → length (spell_range r) < Max → Back spell_range read_range bad r
range_back r fits lt =
    let x = range_shown r fits lt in
    let b = spell_range r in
    let gs = range_groups r in
    record {
      message = λ at.
          let s = bytes_back 1 at b gs r.start x refl in
          let e = bytes_back 2 at b gs r.end x refl in
          let l = ap int32 (number_back 3 at b gs (unsigned r.limit) x refl) ∙ int32_back r.limit fits in
          let v = ap truth (number_back 4 at b gs (flag r.reverse) x refl) ∙ truth_back r.reverse in
          λ i. record { start = s i; end = e i; limit = l i; reverse = v i };
      whole = λ at. bad_shown at b gs x;
    }

abbrev check_groups : Check → Groups
check_groups c = (1, bytes_content c.key) ∷ (2, bytes_content c.versionstamp) ∷ []

pub check_back : (c : Check) → length (spell_check c) < Max → Back spell_check check bad c
check_back c lt =
    let b = spell_check c in
    let gs = check_groups c in
    let x = both _ _ _ _ (bytes_shown 1 c.key one) (bytes_shown 2 c.versionstamp two) lt in
    record {
      message = λ at.
          let key = bytes_back 1 at b gs c.key x refl in
          let versionstamp = bytes_back 2 at b gs c.versionstamp x refl in
          λ i. record { key = key i; versionstamp = versionstamp i };
      whole = λ at. bad_shown at b gs x;
    }

abbrev value_groups : Value → Groups
value_groups v = (1, bytes_content v.bytes) ∷ (2, number_content (unsigned v.encoding)) ∷ []

pub value_back : (v : Value) → ValueFits v → length (spell_value v) < Max → Back spell_value kv_value bad v
value_back v fits lt =
    let b = spell_value v in
    let gs = value_groups v in
    let x = both _ _ _ _ (bytes_shown 1 v.bytes one) (number_shown 2 (unsigned v.encoding) two (unsigned32 v.encoding fits)) lt in
    record {
      message = λ at.
          let bytes = bytes_back 1 at b gs v.bytes x refl in
          let encoding = ap int32 (number_back 2 at b gs (unsigned v.encoding) x refl) ∙ int32_back v.encoding fits in
          λ i. record { bytes = bytes i; encoding = encoding i };
      whole = λ at. bad_shown at b gs x;
    }

-- a watched key is a message of one field
pub key_back : (key : List ℕ) → length (bytes_field 1 key) < Max → Back (bytes_field 1) watch_key bad key
key_back key lt =
    let b = bytes_field 1 key in
    let x = bytes_shown 1 key one lt in
    record { message = λ at. bytes_back 1 at b ((1, bytes_content key) ∷ []) key x refl; whole = λ at. bad_shown at b ((1, bytes_content key) ∷ []) x }

abbrev entry_groups : KvEntry → Groups
entry_groups e = (1, bytes_content e.key) ∷ (2, bytes_content e.value) ∷ (3, number_content (unsigned e.encoding)) ∷ (4, bytes_content e.versionstamp) ∷ []

entry_shown : (e : KvEntry) → EntryFits e → Shown (spell_kv_entry e) (entry_groups e)
entry_shown e fits = both _ _ _ _ (both _ _ _ _ (both _ _ _ _ (bytes_shown 1 e.key one) (bytes_shown 2 e.value two)) (number_shown 3 (unsigned e.encoding) three (unsigned32 e.encoding fits))) (bytes_shown 4 e.versionstamp four)

pub entry_back : (e : KvEntry) → EntryFits e → length (spell_kv_entry e) < Max → Back spell_kv_entry kv_entry bad e
entry_back e fits lt =
    let x = entry_shown e fits lt in
    let b = spell_kv_entry e in
    let gs = entry_groups e in
    record {
      message = λ at.
          let key = bytes_back 1 at b gs e.key x refl in
          let value = bytes_back 2 at b gs e.value x refl in
          let encoding = ap int32 (number_back 3 at b gs (unsigned e.encoding) x refl) ∙ int32_back e.encoding fits in
          let versionstamp = bytes_back 4 at b gs e.versionstamp x refl in
          λ i. record { key = key i; value = value i; encoding = encoding i; versionstamp = versionstamp i };
      whole = λ at. bad_shown at b gs x;
    }

abbrev enqueue_groups : Enqueue → Groups
enqueue_groups q = (1, bytes_content q.payload) ∷ (2, number_content (unsigned q.deadline_ms)) ∷ (3, map (λ text. ALen text) q.undelivered) ∷ (4, bytes_content (flat_map varint q.backoff)) ∷ []

enqueue_shown : (q : Enqueue) → EnqueueFits q → Shown (spell_enqueue q) (enqueue_groups q)
enqueue_shown q fits =
    both _ _ _ _ (both _ _ _ _ (both _ _ _ _ (bytes_shown 1 q.payload one) (number_shown 2 (unsigned q.deadline_ms) two (unsigned64 q.deadline_ms fits.deadline_ms))) (all_delimited_shown 3 (λ text. text) q.undelivered three)) (bytes_shown 4 (flat_map varint q.backoff) four)

pub enqueue_back : (q : Enqueue) → EnqueueFits q → length (spell_enqueue q) < Max → Back spell_enqueue enqueue bad_enqueue q
enqueue_back q fits lt =
    let x = enqueue_shown q fits lt in
    let b = spell_enqueue q in
    let gs = enqueue_groups q in
    let small = recursion_from_All (λ n. n < 2 ^ 32) q.backoff fits.backoff in
    record {
      message = λ at.
          let payload = bytes_back 1 at b gs q.payload x refl in
          let deadline_ms = ap int64 (number_back 2 at b gs (unsigned q.deadline_ms) x refl) ∙ int64_back q.deadline_ms fits.deadline_ms in
          let undelivered = payloads_back 3 at b gs q.undelivered x refl in
          let backoff = numbers_back 4 at b gs q.backoff x refl small in
          λ i. record { payload = payload i; deadline_ms = deadline_ms i; undelivered = undelivered i; backoff = backoff i };
      whole = λ at. no_bad _ _ (bad_shown at b gs x) (packed_back 4 at b gs q.backoff x refl small);
    }

-- ---- messages with others inside

-- of all that fit, from a spelling of them all
pub all_back : {M : Type 0} (k : ℕ) (spell : M → List ℕ) (read : List Item → M) (bad_message : ℕ → List ℕ → Option ℕ) (Fits : M → Type 0) (ms : List M) → ((m : M) → Fits m → length (spell m) < Max → Back spell read bad_message m)
    → All Fits ms → length (all_delimited k spell ms) < Max → AllByRecursion (Back spell read bad_message) ms
all_back {M = M} k spell read bad_message Fits ms back fits lt = each ms (recursion_from_All Fits ms fits) (all_delimited_small k spell ms Max lt)
  where
    each : (ms : List M) → AllByRecursion Fits ms → AllByRecursion (λ m. length (spell m) < Max) ms → AllByRecursion (Back spell read bad_message) ms
    each [] fits small = tt
    each (m ∷ ms) fits small = (back m fits.0 small.0, each ms fits.1 small.1)

option_is_back : {M : Type 0} (k : ℕ) (spell : M → List ℕ) (read : List Item → M) (bad_message : ℕ → List ℕ → Option ℕ) (Fits : M → Type 0) (o : Option M) → ((m : M) → Fits m → length (spell m) < Max → Back spell read bad_message m)
    → IfSome o Fits → length (option_map_or (λ m. delimited k (spell m)) o []) < Max → OptionBack spell read bad_message o
option_is_back k spell read bad_message Fits None back fits lt = tt
option_is_back k spell read bad_message Fits (Some m) back fits lt = back m fits (all_delimited_small k spell (m ∷ []) Max (omega (arith, lt, length-append (delimited k (spell m)) []))).0

abbrev mutation_groups : Mutation → Groups
mutation_groups m = (1, bytes_content m.key) ∷ (2, option_content spell_value m.value) ∷ (3, number_content (unsigned m.kind)) ∷ (4, number_content (unsigned m.expire_at_ms)) ∷ []

mutation_shown : (m : Mutation) → MutationFits m → Shown (spell_mutation m) (mutation_groups m)
mutation_shown m fits =
    both _ _ _ _ (both _ _ _ _ (both _ _ _ _ (bytes_shown 1 m.key one) (option_shown spell_value 2 m.value two)) (number_shown 3 (unsigned m.kind) three (unsigned32 m.kind fits.kind))) (number_shown 4 (unsigned m.expire_at_ms) four (unsigned64 m.expire_at_ms fits.expire_at_ms))

pub mutation_back : (m : Mutation) → MutationFits m → length (spell_mutation m) < Max → Back spell_mutation mutation bad_mutation m
mutation_back m fits lt =
    let x = mutation_shown m fits lt in
    let b = spell_mutation m in
    let gs = mutation_groups m in
    let inner = option_map_or (λ v. delimited 2 (spell_value v)) m.value [] in
    let small : length inner < Max = omega (arith, lt, length-append (bytes_field 1 m.key) inner, length-append (bytes_field 1 m.key ++ inner) (number_field 3 (unsigned m.kind)), length-append (bytes_field 1 m.key ++ inner ++ number_field 3 (unsigned m.kind)) (number_field 4 (unsigned m.expire_at_ms))) in
    let back = option_is_back 2 spell_value kv_value bad ValueFits m.value value_back fits.value small in
    record {
      message = λ at.
          let key = bytes_back 1 at b gs m.key x refl in
          let value = (one_back spell_value kv_value bad 2 at b gs m.value x refl back).message in
          let kind = ap int32 (number_back 3 at b gs (unsigned m.kind) x refl) ∙ int32_back m.kind fits.kind in
          let expire_at_ms = ap int64 (number_back 4 at b gs (unsigned m.expire_at_ms) x refl) ∙ int64_back m.expire_at_ms fits.expire_at_ms in
          λ i. record { key = key i; value = value i; kind = kind i; expire_at_ms = expire_at_ms i };
      whole = λ at. no_bad _ _ (bad_shown at b gs x) (one_back spell_value kv_value bad 2 at b gs m.value x refl back).whole;
    }

pub range_output_back : (es : List KvEntry) → All EntryFits es → length (spell_range_output es) < Max → Back spell_range_output range_output bad_range_output es
range_output_back es fits lt =
    let x = all_delimited_shown 1 spell_kv_entry es one lt in
    let b = spell_range_output es in
    let gs : Groups = (1, map (λ e. ALen (spell_kv_entry e)) es) ∷ [] in
    let back = all_back 1 spell_kv_entry kv_entry bad EntryFits es entry_back fits lt in
    record {
      message = λ at. (many_back spell_kv_entry kv_entry bad 1 at b gs es x refl back).messages;
      whole = λ at. no_bad _ _ (bad_shown at b gs x) (many_back spell_kv_entry kv_entry bad 1 at b gs es x refl back).whole;
    }

abbrev key_output_groups : WatchKeyOutput → Groups
key_output_groups k = (1, number_content (flag k.changed)) ∷ (2, option_content spell_kv_entry k.entry) ∷ []

pub key_output_back : (k : WatchKeyOutput) → KeyOutputFits k → length (spell_watch_key_output k) < Max → Back spell_watch_key_output watch_key_output bad_watch_key_output k
key_output_back k fits lt =
    let b = spell_watch_key_output k in
    let gs = key_output_groups k in
    let x = both _ _ _ _ (number_shown 1 (flag k.changed) one (flag_small k.changed)) (option_shown spell_kv_entry 2 k.entry two) lt in
    let inner = option_map_or (λ e. delimited 2 (spell_kv_entry e)) k.entry [] in
    let small : length inner < Max = omega (arith, lt, length-append (number_field 1 (flag k.changed)) inner) in
    let back = option_is_back 2 spell_kv_entry kv_entry bad EntryFits k.entry entry_back fits small in
    record {
      message = λ at.
          let changed = ap truth (number_back 1 at b gs (flag k.changed) x refl) ∙ truth_back k.changed in
          let entry = (one_back spell_kv_entry kv_entry bad 2 at b gs k.entry x refl back).message in
          λ i. record { changed = changed i; entry = entry i };
      whole = λ at. no_bad _ _ (bad_shown at b gs x) (one_back spell_kv_entry kv_entry bad 2 at b gs k.entry x refl back).whole;
    }
