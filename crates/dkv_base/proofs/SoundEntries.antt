-- One commit keeps entries in order and within the limits.
use Rattle.std.proofs.Common.{◌≡◌, ℕ, ◌+◌, ◌≤◌, Bool, true, false, cond, ◌&&◌, List, [], ◌∷◌, length, filter, Option, Some, None, Err, refl, max, min}
use Rattle.std.specs.Prelude.{◌%◌, ◌^◌, nat_le, fold, find, option_map}
use Rattle.std.specs.List.{list_all}
use Rattle.std.specs.Option.{option_map_or}
use Rattle.std.specs.Int.{w64, from_le_bytes}
use Rattle.std.specs.Result.{result_unwrap_or}
use Rattle.std.specs.Ordering.{int_eq}
use Rattle.std.proofs.lemmas.Bool.{and_parts, and_from, le-leb}
use Rattle.dkv_base.specs.declared.types.Commit.{Commit}
use Rattle.dkv_base.specs.declared.types.Entry.{Entry}
use Rattle.dkv_base.specs.declared.types.Message.{Message}
use Rattle.dkv_base.specs.declared.types.Mutation.{Mutation}
use Rattle.dkv_base.specs.declared.types.Value.{Value}
use Rattle.dkv_base.specs.Limits.{is_kind, operand, write_limit, mutation_limit}
use Rattle.dkv_base.specs.State.{put, without, visible, is_visible, entry_at, is_in_key_order, entry_cmp}
use Rattle.dkv_base.specs.Messages.{exhausted, moment_of}
use Rattle.dkv_base.specs.Writes.{stored, stored_key, new_value, combined, le64_value, acted, mutated, mutated_from}
use Rattle.dkv_base.specs.After.{changed, undelivered, payload_entry}
use Rattle.dkv_base.specs.Sound.{is_good_key, is_good_value, is_stored, is_payload}
use Rattle.dkv_base.proofs.KeyOrder.{is_in_key_order-put}
use Rattle.dkv_base.specs.declared.encodings.TheConstants.{V8, LE64}
use Rattle.dkv_base.specs.declared.kinds.TheConstants.{DELETE, SUM, MAX, MIN}
use Rattle.dkv_base.specs.declared.limits.TheConstants.{MAX_VALUE_BYTES, MAX_UNDELIVERED}
use Rattle.dkv_base.specs.declared.types.Profile.TheVariants.{Narrow}
use Rattle.dkv_base.proofs.Lists.{all-filter, all_of_filter}
use Rattle.dkv_base.proofs.Risings.{all-put_in, rising-filter}
use Rattle.dkv_base.specs.declared.types.Commit.TheVariants as commit
use Rattle.dkv_base.proofs.WithinLimits.{NoneOf, within, Stores, stores}

-- ---- entries

-- the entries are in order, within the limits and of commits up to n
pub record Held (n : ℕ) (es : List Entry) : Type 0 where
  pub order : is_in_key_order es ≡ true
  pub stored : list_all (is_stored n) es ≡ true

pub record Good (n t : ℕ) (es : List Entry) : Type 0 where
  pub held : Held n es
  pub visible : list_all (is_visible t) es ≡ true

Held-filter : (n : ℕ) (p : Entry → Bool) (es : List Entry) → Held n es → Held n (filter p es)
Held-filter n p es g = record { order = rising-filter entry_cmp p es g.order; stored = all-filter _ p es g.stored }

Held-put : (n : ℕ) (e : Entry) (es : List Entry) → is_stored n e ≡ true → Held n es → Held n (put e es)
Held-put n e es s g = record { order = is_in_key_order-put e es g.order; stored = all-put_in entry_cmp _ e es s g.stored }

pub good_seen : (n t : ℕ) (es : List Entry) → Held n es → Good n t (visible t es)
good_seen n t es g = record { held = Held-filter n (is_visible t) es g; visible = all_of_filter (is_visible t) es }

stored_entry : (n : ℕ) (key : List ℕ) (v : Value) (k expire : ℕ) → is_good_key key ≡ true → is_good_value v ≡ true → 1 ≤ k → k ≤ n
    → is_stored n (record { key = key; bytes = v.bytes; encoding = v.encoding; commit = k; expire = expire }) ≡ true
stored_entry n key v k expire a b low high =
    and_from (is_good_key key && is_good_value v) _ (and_from (is_good_key key) _ a b) (and_from (nat_le 1 k) _ (le-leb _ _ low) (le-leb _ _ high))

abbrev IfGoodValue : Option Value → Type 0
IfGoodValue None = Unit {0}
IfGoodValue (Some v) = is_good_value v ≡ true

abbrev IfHeld : ℕ → Option (List Entry) → Type 0
IfHeld n None = Unit {0}
IfHeld n (Some es) = Held n es

abbrev IfGood : ℕ → ℕ → Option (List Entry) → Type 0
IfGood n t None = Unit {0}
IfGood n t (Some es) = Good n t es

good_combined : (f : ℕ → ℕ → ℕ) (old : Option Entry) (v : Value) → is_good_value v ≡ true → IfGoodValue (combined f old v)
good_combined f None v g = g
good_combined f (Some e) v g =
    elim (int_eq e.encoding LE64) as (λ b. IfGoodValue (cond b (Some (le64_value (f (from_le_bytes w64 e.bytes) (from_le_bytes w64 v.bytes)))) None)) [ true ↦ refl | false ↦ tt ]

good_new_value : (m : Mutation) (old : Option Entry) → is_good_value (operand m) ≡ true → IfGoodValue (new_value m old)
good_new_value m old g =
    elim (is_kind SUM m) as (λ b. IfGoodValue (cond b (combined (λ a b. (a + b) % 2 ^ 64) old (operand m)) (cond (is_kind MAX m) (combined max old (operand m)) (cond (is_kind MIN m) (combined min old (operand m)) (Some (operand m)))))) [
      | true ↦ good_combined (λ a b. (a + b) % 2 ^ 64) old (operand m) g
      | false ↦ elim (is_kind MAX m) as (λ b. IfGoodValue (cond b (combined max old (operand m)) (cond (is_kind MIN m) (combined min old (operand m)) (Some (operand m))))) [
        | true ↦ good_combined max old (operand m) g
        | false ↦ elim (is_kind MIN m) as (λ b. IfGoodValue (cond b (combined min old (operand m)) (Some (operand m)))) [
          | true ↦ good_combined min old (operand m) g
          | false ↦ g
        ]
      ]
    ]

held_map : (n k : ℕ) (m : Mutation) (es : List Entry) (o : Option Value) → Stores m → 1 ≤ k → k ≤ n → Held n es → IfGoodValue o → IfHeld n (option_map (λ v. put (stored m k v) es) o)
held_map n k m es None s low high g h = tt
held_map n k m es (Some v) s low high g h = Held-put n (stored m k v) es (stored_entry n (stored_key m k) v k (stored m k v).expire (s.key k) h low high) g

held_acted : (n k : ℕ) (m : Mutation) (es : List Entry) → mutation_limit Narrow m ≡ None → 1 ≤ k → k ≤ n → Held n es → IfHeld n (acted m k es)
held_acted n k m es e low high g =
    elim (is_kind DELETE m) as (λ b. is_kind DELETE m ≡ b → IfHeld n (cond b (Some (without m.key es)) (option_map (λ v. put (stored m k v) es) (new_value m (entry_at m.key es))))) [
      | true ↦ λ h. Held-filter n _ es g
      | false ↦ λ h. let s = stores m e h in held_map n k m es (new_value m (entry_at m.key es)) s low high g (good_new_value m (entry_at m.key es) s.value)
    ] refl

good_visible : (n t : ℕ) (o : Option (List Entry)) → IfHeld n o → IfGood n t (option_map (visible t) o)
good_visible n t None g = tt
good_visible n t (Some es) g = good_seen n t es g

good_rest : (n k t i : ℕ) (ms : List Mutation) (d : List Entry) → Good n t d → ((left : List Entry) → Good n t left → Good n t (result_unwrap_or (mutated_from (i + 1) ms k t left) d))
    → (o : Option (List Entry)) → IfGood n t o → Good n t (result_unwrap_or (option_map_or (mutated_from (i + 1) ms k t) o (Err i)) d)
good_rest n k t i ms d h goes None a = h
good_rest n k t i ms d h goes (Some left) a = goes left a

good_mutated : (n k t i : ℕ) (ms : List Mutation) (es d : List Entry) → NoneOf (mutation_limit Narrow) ms → 1 ≤ k → k ≤ n → Good n t es → Good n t d
    → Good n t (result_unwrap_or (mutated_from i ms k t es) d)
good_mutated n k t i [] es d l low high g h = g
good_mutated n k t i (m ∷ ms) es d l low high g h =
    good_rest n k t i ms d h (λ left a. good_mutated n k t (i + 1) ms left d l.1 low high a h) (mutated m k t es)
    (good_visible n t (acted m k es) (held_acted n k m es l.0 low high g.held))

-- a message with good keys and a payload within the limit
good_payloads : (n k t : ℕ) (m : Message) (keys : List (List ℕ)) (es : List Entry) → nat_le (length m.payload) MAX_VALUE_BYTES ≡ true → list_all is_good_key keys ≡ true → 1 ≤ k → k ≤ n → Good n t es
    → Good n t (fold (λ left key. put (payload_entry m k key) left) es keys)
good_payloads n k t m [] es a b low high g = g
good_payloads n k t m (key ∷ keys) es a b low high g =
    let parts = and_parts (is_good_key key) (list_all is_good_key keys) b in
    good_payloads n k t m keys _ a parts.1 low high (record {
      held = Held-put n (payload_entry m k key) es (stored_entry n key (record { bytes = m.payload; encoding = V8 }) k 0 parts.0 a low high) g.held;
      visible = all-put_in entry_cmp _ (payload_entry m k key) es refl g.visible;
    })

abbrev IfPayload : Option Message → Type 0
IfPayload None = Unit {0}
IfPayload (Some m) = is_payload m ≡ true

found_payload : (p : Message → Bool) (ms : List Message) → list_all is_payload ms ≡ true → IfPayload (find p ms)
found_payload p [] h = tt
found_payload p (m ∷ ms) h =
    let parts = and_parts (is_payload m) (list_all is_payload ms) h in
    elim (p m) as (λ b. IfPayload (cond b (Some m) (find p ms))) [ true ↦ parts.0 | false ↦ found_payload p ms parts.1 ]

-- what the commit asks for is within the limits
abbrev pub Asks : Commit → Type 0
Asks (commit.Wrote who at w) = write_limit w ≡ None
Asks (commit.Acked who at id) = Unit {0}
Asks (commit.Failed who at id) = Unit {0}

abbrev pub AllAsk : List Commit → Type 0
AllAsk [] = Unit {0}
AllAsk (c ∷ cs) = Asks c × AllAsk cs

good_undelivered : (n k t : ℕ) (es : List Entry) (o : Option Message) → 1 ≤ k → k ≤ n → Good n t es → IfPayload o → Good n t (option_map_or (λ m. undelivered m k es) o es)
good_undelivered n k t es None low high g h = g
good_undelivered n k t es (Some m) low high g h =
    let a = and_parts (nat_le (length m.payload) MAX_VALUE_BYTES && nat_le (length m.undelivered) MAX_UNDELIVERED && list_all is_good_key m.undelivered) _ h in
    let b = and_parts (nat_le (length m.payload) MAX_VALUE_BYTES && nat_le (length m.undelivered) MAX_UNDELIVERED) (list_all is_good_key m.undelivered) a.0 in
    good_payloads n k t m m.undelivered es (and_parts (nat_le (length m.payload) MAX_VALUE_BYTES) _ b.0).0 b.1 low high g

pub good_changed : (n k : ℕ) (ms : List Message) (c : Commit) (es : List Entry) → Asks c → list_all is_payload ms ≡ true → 1 ≤ k → k ≤ n → Good n (moment_of c) es → Good n (moment_of c) (changed k ms c es)
good_changed n k ms (commit.Wrote who at w) es a h low high g = good_mutated n k at 0 w.mutations es es (within w a).mutations low high g g
good_changed n k ms (commit.Acked who at id) es a h low high g = g
good_changed n k ms (commit.Failed who at id) es a h low high g = good_undelivered n k at es (exhausted id ms) low high g (found_payload _ ms h)
