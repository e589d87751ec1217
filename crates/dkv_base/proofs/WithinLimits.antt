-- What a write within its limits has: good keys, and values and payloads within theirs.
use Rattle.std.proofs.Common.{◌≡◌, ℕ, ◌≤◌, Bool, true, false, cond, not, ◌&&◌, List, [], ◌∷◌, ◌++◌, length, map, Option, Some, None, refl, sym, ap, ◌∙◌, arith, length-append}
use Rattle.std.specs.Prelude.{nat_lt, ◌==◌}
use Rattle.std.specs.Option.{option_or}
use Rattle.std.specs.Ordering.{int_eq}
use Rattle.std.proofs.lemmas.Bool.{and_from, or_from, not-false, not_from_false, le-leb, ltb-false, le-ltb, ne_eqb}
use Rattle.dkv_base.specs.declared.types.AtomicWrite.{AtomicWrite}
use Rattle.dkv_base.specs.declared.codes.Limit.{Limit}
use Rattle.dkv_base.specs.declared.types.Mutation.{Mutation}
use Rattle.dkv_base.specs.Stamps.{suffix}
use Rattle.dkv_base.specs.Limits.{is_kind, operand, is_bad_key, when, first_some, write_limit, check_limit, mutation_limit, value_limit, is_bad_mutation_key, enqueue_limit, is_known_kind, is_known_encoding, is_arithmetic, has_encoding, is_encoding}
use Rattle.dkv_base.specs.Writes.{stored_key}
use Rattle.dkv_base.specs.Sound.{is_good_key, is_good_value}
use Rattle.dkv_base.specs.declared.encodings.TheConstants.{V8, LE64, BYTES}
use Rattle.dkv_base.specs.declared.kinds.TheConstants.{DELETE, SET_STAMPED}
use Rattle.dkv_base.specs.declared.limits.TheConstants.{MAX_KEY_BYTES, MAX_STAMPED_KEY_BYTES, LE64_BYTES, MAX_VALUE_BYTES}
use Rattle.dkv_base.specs.declared.types.Profile.TheVariants.{Narrow}

-- ---- what a write within its limits has

pub none_parts : {X : Type 0} (a b : Option X) → option_or a b ≡ None → (a ≡ None) × (b ≡ None)
none_parts None b e = (refl, e)
none_parts (Some x) b e = absurd (cc)

pub when_none : (b : Bool) (l : Limit) → when b l ≡ None → b ≡ false
when_none true l e = absurd (cc)
when_none false l e = refl

-- no limit is passed by any of them
abbrev pub NoneOf : {X : Type 0} → (X → Option Limit) → List X → Type 0
NoneOf f [] = Unit {0}
NoneOf f (x ∷ xs) = (f x ≡ None) × NoneOf f xs

pub none_of : {X : Type 0} (f : X → Option Limit) (xs : List X) → first_some (map f xs) ≡ None → NoneOf f xs
none_of f [] e = tt
none_of f (x ∷ xs) e = let parts = none_parts (f x) (first_some (map f xs)) e in (parts.0, none_of f xs parts.1)

pub record WithinLimits (w : AtomicWrite) : Type 0 where
  pub mutations : NoneOf (mutation_limit Narrow) w.mutations
  pub enqueues : NoneOf (enqueue_limit Narrow) w.enqueues

pub within : (w : AtomicWrite) → write_limit w ≡ None → WithinLimits w
within w e =
    let a = (none_parts _ _ e).1 in
    let b = (none_parts _ _ a).1 in
    let c = (none_parts (first_some (map check_limit w.checks)) _ b).1 in
    let d = none_parts (first_some (map (mutation_limit Narrow) w.mutations)) _ c in
    record { mutations = none_of (mutation_limit Narrow) w.mutations d.0; enqueues = none_of (enqueue_limit Narrow) w.enqueues (none_parts (first_some (map (enqueue_limit Narrow) w.enqueues)) _ d.1).0 }

suffix-length : (n : ℕ) → length (suffix n) ≡ 22
unfolding suffix
suffix-length n = refl

good_key : (key : List ℕ) → 1 ≤ length key → length key ≤ MAX_KEY_BYTES → is_good_key key ≡ true
good_key key low high = not_from_false _ (or_from _ _ (ne_eqb (length key) 0 (λ e. omega (arith, low, e))) (le-ltb MAX_KEY_BYTES (length key) high))

good_key_of : (m : Mutation) (n : ℕ) → is_bad_mutation_key m ≡ false → is_good_key (stored_key m n) ≡ true
good_key_of m n e =
    elim (is_kind SET_STAMPED m) as (λ b. cond b (nat_lt MAX_STAMPED_KEY_BYTES (length m.key)) (is_bad_key m.key) ≡ false → is_good_key (cond b (m.key ++ suffix n) m.key) ≡ true) [
      | true ↦ λ h. good_key (m.key ++ suffix n) (omega (arith, length-append m.key (suffix n), suffix-length n)) (omega (arith, length-append m.key (suffix n), suffix-length n, ltb-false MAX_STAMPED_KEY_BYTES (length m.key) h))
      | false ↦ λ h. not_from_false (is_bad_key m.key) h
    ] e

-- a mutation that stores something has a good key and a good value
pub record Stores (m : Mutation) : Type 0 where
  pub key : (n : ℕ) → is_good_key (stored_key m n) ≡ true
  pub value : is_good_value (operand m) ≡ true

value_within : (m : Mutation) → value_limit Narrow m ≡ None → is_good_value (operand m) ≡ true
value_within m e =
    let a = (none_parts _ _ e).1 in
    let b = none_parts (when (not (is_known_encoding m)) _) _ a in
    let c = none_parts (when (has_encoding LE64 m && not (length (operand m).bytes == LE64_BYTES)) _) _ b.1 in
    let d = (none_parts (when (is_arithmetic m && has_encoding V8 m) _) _ c.1).1 in
    let f = (none_parts (when (is_arithmetic m && has_encoding BYTES m) _) _ d).1 in
    let g = (none_parts (when (nat_lt MAX_VALUE_BYTES (length (operand m).bytes)) _) None f).0 in
    and_from (is_encoding (operand m).encoding && not (int_eq (operand m).encoding LE64 && not (length (operand m).bytes == LE64_BYTES))) _
    (and_from (is_encoding (operand m).encoding) _ (not-false _ (when_none _ _ b.0)) (not_from_false _ (when_none _ _ c.0)))
    (le-leb _ _ (ltb-false _ _ (when_none _ _ g)))

pub stores : (m : Mutation) → mutation_limit Narrow m ≡ None → is_kind DELETE m ≡ false → Stores m
stores m e keeps =
    let a = (none_parts (when (not (is_known_kind m)) _) _ e).1 in
    let b = none_parts (when (is_bad_mutation_key m) _) _ a in
    let c = (none_parts (cond (is_kind DELETE m) None (value_limit Narrow m)) None b.1).0 in
    record {
      key = λ n. good_key_of m n (when_none _ _ b.0);
      value = value_within m (sym (ap (λ t. cond t None (value_limit Narrow m)) keeps) ∙ c);
    }
