-- At the narrow profile, what a state may hold is what an image of it may hold.
use Rattle.std.proofs.Common.{◌≡◌, refl, sym, ◌∙◌, ap, ℕ, Bool, true, false, ◌&&◌, not, List, [], ◌∷◌, length, map, Option, Some, None, inl, inr, arith}
use Rattle.std.specs.Prelude.{◌==◌, nat_lt, nat_le, is_none}
use Rattle.std.specs.List.{list_all}
use Rattle.std.specs.Option.{option_or}
use Rattle.std.proofs.lemmas.Bool.{and_parts, and_from, cases_lt, lt-ltb, le-ltb, le-leb, lt-leb}
use Rattle.std.specs.Ordering.{int_eq}
use Rattle.dkv_base.specs.declared.types.Entry.{Entry}
use Rattle.dkv_base.specs.declared.codes.Limit.{Limit}
use Rattle.dkv_base.specs.declared.codes.Limit.TheVariants as limit
use Rattle.dkv_base.specs.declared.types.Message.{Message}
use Rattle.dkv_base.specs.declared.types.Profile.TheVariants.{Narrow}
use Rattle.dkv_base.specs.Limits.{is_encoding, first_some, when, is_bad_key, interval_limit, undelivered_limit, enqueue_limit}
use Rattle.dkv_base.specs.declared.encodings.TheConstants.{LE64}
use Rattle.dkv_base.specs.State.{is_visible, is_in_id_order}
use Rattle.dkv_base.specs.Sound.{is_good_key, is_number, is_stored, is_schedule, is_payload, is_waiting}
use Rattle.dkv_base.specs.After.{after}
use Rattle.dkv_base.proofs.StaysSound.{after_is_sound}
use Rattle.dkv_image.specs.Image.{bounds, is_good_entry, is_good_message, enqueue_of}
use Rattle.dkv_image.specs.Laws.{SoundIsImage, ImageIsSound, AfterIsImage}

le_is : (n m : ℕ) → not (nat_lt m n) ≡ nat_le n m
le_is n m = elim (cases_lt m n) [
  | inl lt ↦ ap (λ v. not v) (lt-ltb m n lt) ∙ sym (lt-leb n m lt)
  | inr le ↦ ap (λ v. not v) (le-ltb m n le) ∙ sym (le-leb n m le)
]

some_is : (n : ℕ) → nat_lt 0 n ≡ nat_le 1 n
some_is n = elim (cases_lt 0 n) [
  | inl lt ↦ lt-ltb 0 n lt ∙ sym (le-leb 1 n (omega (arith, lt)))
  | inr le ↦ le-ltb 0 n le ∙ sym (lt-leb 1 n (omega (arith, le)))
]

-- ---- entries

entry_shape : (a b c d : Bool) → is_none (first_some (when false limit.MutationKind ∷ when a limit.MutationKey
    ∷ first_some (when false limit.NoValue ∷ when (not b) limit.Encoding ∷ when c limit.Le64Length ∷ when false limit.V8Operand ∷ when false limit.BytesOperand ∷ when d limit.ValueLength ∷ []) ∷ []))
    ≡ (not a && (b && not c && not d))
entry_shape true b c d = refl
entry_shape false false c d = refl
entry_shape false true true d = refl
entry_shape false true false true = refl
entry_shape false true false false = refl

pub entry_is : (n now : ℕ) (e : Entry) → is_good_entry (record { profile = Narrow; n = n; now = now }) e ≡ (is_stored n e && is_visible now e)
entry_is n now e =
    let known = is_encoding e.encoding in
    let short = int_eq e.encoding LE64 && not (length e.bytes == 8) in
    let rest = λ (v : Bool). v && is_number n e.commit && is_visible now e in
    ap rest (entry_shape (is_bad_key e.key) known short (nat_lt 65536 (length e.bytes)))
    ∙ ap (λ (v : Bool). not (is_bad_key e.key) && (known && not short && v) && is_number n e.commit && is_visible now e) (le_is (length e.bytes) 65536)

entries_are : (n now : ℕ) (es : List Entry) → list_all (is_good_entry (record { profile = Narrow; n = n; now = now })) es ≡ list_all (λ e. is_stored n e && is_visible now e) es
entries_are n now [] = refl
entries_are n now (e ∷ es) = λ i. entry_is n now e i && entries_are n now es i

both_all : {X : Type 0} (f g : X → Bool) (xs : List X) → list_all f xs ≡ true → list_all g xs ≡ true → list_all (λ x. f x && g x) xs ≡ true
both_all f g [] a b = refl
both_all f g (x ∷ xs) a b =
    let p = and_parts _ _ a in
    let q = and_parts _ _ b in
    and_from _ _ (and_from _ _ p.0 q.0) (both_all f g xs p.1 q.1)

all_both : {X : Type 0} (f g : X → Bool) (xs : List X) → list_all (λ x. f x && g x) xs ≡ true → (list_all f xs ≡ true) × (list_all g xs ≡ true)
all_both f g [] a = (refl, refl)
all_both f g (x ∷ xs) a =
    let p = and_parts _ _ a in
    let here = and_parts _ _ p.0 in
    let rest = all_both f g xs p.1 in
    (and_from _ _ here.0 rest.0, and_from _ _ here.1 rest.1)

-- ---- messages

none_or : (o p : Option Limit) → is_none (option_or o p) ≡ (is_none o && is_none p)
none_or None p = refl
none_or (Some x) p = refl

none_when : (test : Bool) (x : Limit) → is_none (when test x) ≡ not test
none_when true x = refl
none_when false x = refl

intervals_are : (ns : List ℕ) → is_none (first_some (map interval_limit ns)) ≡ list_all (λ n. nat_le n 3600000) ns
intervals_are [] = refl
intervals_are (n ∷ ns) =
    none_or (interval_limit n) (first_some (map interval_limit ns))
    ∙ (λ i. (none_when (nat_lt 3600000 n) limit.BackoffInterval ∙ le_is n 3600000) i && intervals_are ns i)

keys_are : (keys : List (List ℕ)) → is_none (first_some (map undelivered_limit keys)) ≡ list_all is_good_key keys
keys_are [] = refl
keys_are (key ∷ keys) =
    none_or (undelivered_limit key) (first_some (map undelivered_limit keys))
    ∙ (λ i. none_when (is_bad_key key) limit.UndeliveredKey i && keys_are keys i)

message_shape : (p q r : Bool) (i u : Option Limit) → is_none (first_some (when p limit.PayloadLength ∷ when q limit.BackoffCount ∷ i ∷ when r limit.UndeliveredCount ∷ u ∷ []))
    ≡ (not p && (not q && (is_none i && (not r && is_none u))))
message_shape true q r i u = refl
message_shape false true r i u = refl
message_shape false false r (Some x) u = refl
message_shape false false true None u = refl
message_shape false false false None (Some x) = refl
message_shape false false false None None = refl

-- the parts of what an enqueue may have, in the order of its limits
abbrev enqueue_parts : Message → Bool
enqueue_parts m = nat_le (length m.payload) 65536 && (nat_le (length m.backoff) 10 && (list_all (λ n. nat_le n 3600000) m.backoff && (nat_le (length m.undelivered) 10 && list_all is_good_key m.undelivered)))

enqueue_is : (m : Message) → is_none (enqueue_limit Narrow (enqueue_of m)) ≡ enqueue_parts m
enqueue_is m =
    message_shape (nat_lt 65536 (length m.payload)) (nat_lt 10 (length m.backoff)) (nat_lt 10 (length m.undelivered)) (first_some (map interval_limit m.backoff)) (first_some (map undelivered_limit m.undelivered))
    ∙ (λ i. le_is (length m.payload) 65536 i && (le_is (length m.backoff) 10 i && (intervals_are m.backoff i && (le_is (length m.undelivered) 10 i && keys_are m.undelivered i))))

pub message_good : (n now : ℕ) (m : Message) → is_waiting n m ≡ true → is_good_message (record { profile = Narrow; n = n; now = now }) m ≡ true
message_good n now m is =
    let outer = and_parts (is_payload m && is_number n m.id.commit) _ is in
    let inner = and_parts (is_payload m) (is_number n m.id.commit) outer.0 in
    let scheduled = and_parts _ (is_schedule m.backoff) inner.0 in
    let keys = and_parts _ (list_all is_good_key m.undelivered) scheduled.0 in
    let counts = and_parts (nat_le (length m.payload) 65536) _ keys.0 in
    let schedule = and_parts _ (list_all (λ k. nat_le k 3600000) m.backoff) scheduled.1 in
    let lengths = and_parts (nat_le 1 (length m.backoff)) _ schedule.0 in
    let parts : enqueue_parts m ≡ true = and_from _ _ counts.0 (and_from _ _ lengths.1 (and_from _ _ schedule.1 (and_from _ _ counts.1 keys.1))) in
    and_from _ _ (and_from _ _ (and_from _ _ (enqueue_is m ∙ parts) inner.1) (some_is (length m.backoff) ∙ lengths.0)) outer.1

pub message_waits : (n now : ℕ) (m : Message) → is_good_message (record { profile = Narrow; n = n; now = now }) m ≡ true → is_waiting n m ≡ true
message_waits n now m is =
    let last = and_parts _ (nat_le m.fails (length m.backoff)) is in
    let some = and_parts _ (nat_lt 0 (length m.backoff)) last.0 in
    let made = and_parts _ (is_number n m.id.commit) some.0 in
    let parts = and_parts (nat_le (length m.payload) 65536) _ (sym (enqueue_is m) ∙ made.0) in
    let count = and_parts (nat_le (length m.backoff) 10) _ parts.1 in
    let intervals = and_parts (list_all (λ k. nat_le k 3600000) m.backoff) _ count.1 in
    let keys = and_parts (nat_le (length m.undelivered) 10) (list_all is_good_key m.undelivered) intervals.1 in
    and_from _ _ (and_from _ _
    (and_from _ _ (and_from _ _ (and_from _ _ parts.0 keys.0) keys.1) (and_from _ _ (and_from _ _ (sym (some_is (length m.backoff)) ∙ some.1) count.0) intervals.0))
    made.1) last.1

each : {X : Type 0} (f g : X → Bool) → ((x : X) → f x ≡ true → g x ≡ true) → (xs : List X) → list_all f xs ≡ true → list_all g xs ≡ true
each f g so [] all = refl
each f g so (x ∷ xs) all = let p = and_parts _ _ all in and_from _ _ (so x p.0) (each f g so xs p.1)

-- ---- states

pub sound_is_image : SoundIsImage
sound_is_image s sound =
    let entries = entries_are s.number s.moment s.entries ∙ both_all (is_stored s.number) (is_visible s.moment) s.entries sound.entries sound.visible in
    and_from _ _ (and_from _ _ (and_from _ _ entries sound.key_order) (each (is_waiting s.number) (is_good_message (bounds Narrow s)) (message_good s.number s.moment) s.messages sound.messages)) sound.id_order

pub image_is_sound : ImageIsSound
image_is_sound s moment is =
    let ids = and_parts _ (is_in_id_order s.messages) is in
    let messages = and_parts _ (list_all (is_good_message (bounds Narrow s)) s.messages) ids.0 in
    let entries = and_parts (list_all (is_good_entry (bounds Narrow s)) s.entries) _ messages.0 in
    let parts = all_both (is_stored s.number) (is_visible s.moment) s.entries (sym (entries_are s.number s.moment s.entries) ∙ entries.0) in
    record {
      moment = moment;
      key_order = entries.1;
      entries = parts.0;
      visible = parts.1;
      id_order = ids.1;
      messages = each (is_good_message (bounds Narrow s)) (is_waiting s.number) (message_waits s.number s.moment) s.messages messages.1;
    }

pub after_is_image : AfterIsImage Narrow
after_is_image base cs moment is legal =
    sound_is_image (after base cs) (after_is_sound base cs (image_is_sound base moment is) legal)
