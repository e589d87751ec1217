-- No commit leaves an entry of commit 0.
use Rattle.std.proofs.Common.{◌≡◌, ℕ, ◌+◌, true, false, cond, ◌&&◌, List, [], ◌∷◌, Option, Some, None, Err, ap, ◌∙◌, arith}
use Rattle.std.specs.Prelude.{nat_le, fold, option_map}
use Rattle.std.specs.List.{list_all}
use Rattle.std.specs.Option.{option_map_or}
use Rattle.std.specs.Result.{result_unwrap_or}
use Rattle.std.proofs.lemmas.Bool.{and_parts, le-leb}
use Rattle.dkv_base.specs.declared.types.Commit.{Commit}
use Rattle.dkv_base.specs.declared.types.Commit.TheVariants as commit
use Rattle.dkv_base.specs.declared.types.Entry.{Entry}
use Rattle.dkv_base.specs.declared.types.Message.{Message}
use Rattle.dkv_base.specs.declared.types.Mutation.{Mutation}
use Rattle.dkv_base.specs.declared.types.Value.{Value}
use Rattle.dkv_base.specs.After.{after, changed, payload_entry, undelivered}
use Rattle.dkv_base.specs.Limits.{is_kind}
use Rattle.dkv_base.specs.Messages.{exhausted, moment_of}
use Rattle.dkv_base.specs.Sound.{is_stored, is_good_key, is_good_value}
use Rattle.dkv_base.specs.State.{State, put, without, visible, is_visible, entry_at, entry_cmp}
use Rattle.dkv_base.specs.Writes.{stored, new_value, acted, mutated, mutated_from}
use Rattle.dkv_base.specs.declared.kinds.TheConstants.{DELETE}
use Rattle.dkv_base.proofs.AfterNothing.{FailsFit}
use Rattle.dkv_base.proofs.Lists.{all-filter, all_weaker}
use Rattle.dkv_base.proofs.Risings.{all-put_in}
use Rattle.dkv_hub.specs.Frames.{are_committed}
use Rattle.dkv_core.specs.Cores.{Change, applied}
use Rattle.dkv_core.proofs.OneCommit.{entries-one}

-- the entries of a sound state
pub committed-sound : (n : ℕ) (es : List Entry) → list_all (is_stored n) es ≡ true → are_committed es ≡ true
committed-sound n es h =
    all_weaker (is_stored n) (λ e. nat_le 1 e.commit) (λ e is.
    let number = (and_parts (is_good_key e.key && is_good_value (record { bytes = e.bytes; encoding = e.encoding })) _ is).1 in
    (and_parts (nat_le 1 e.commit) _ number).0) es h

put_one : (e : Entry) (es : List Entry) → nat_le 1 e.commit ≡ true → are_committed es ≡ true → are_committed (put e es) ≡ true
put_one e es one h = all-put_in entry_cmp (λ (f : Entry). nat_le 1 f.commit) e es one h

abbrev IfCommitted : Option (List Entry) → Type 0
IfCommitted None = Unit {0}
IfCommitted (Some es) = are_committed es ≡ true

put_value : (k : ℕ) (m : Mutation) (es : List Entry) (o : Option Value) → nat_le 1 k ≡ true → are_committed es ≡ true → IfCommitted (option_map (λ v. put (stored m k v) es) o)
put_value k m es None one h = tt
put_value k m es (Some v) one h = put_one (stored m k v) es one h

committed-acted : (k : ℕ) (m : Mutation) (es : List Entry) → nat_le 1 k ≡ true → are_committed es ≡ true → IfCommitted (acted m k es)
committed-acted k m es one h =
    elim (is_kind DELETE m) as (λ b. IfCommitted (cond b (Some (without m.key es)) (option_map (λ v. put (stored m k v) es) (new_value m (entry_at m.key es))))) [
      | true ↦ all-filter (λ (e : Entry). nat_le 1 e.commit) _ es h
      | false ↦ put_value k m es (new_value m (entry_at m.key es)) one h
    ]

seen_of : (t : ℕ) (o : Option (List Entry)) → IfCommitted o → IfCommitted (option_map (visible t) o)
seen_of t None h = tt
seen_of t (Some es) h = all-filter (λ (e : Entry). nat_le 1 e.commit) (is_visible t) es h

rest_of : (k t i : ℕ) (ms : List Mutation) (d : List Entry) → are_committed d ≡ true
    → ((left : List Entry) → are_committed left ≡ true → are_committed (result_unwrap_or (mutated_from (i + 1) ms k t left) d) ≡ true)
    → (o : Option (List Entry)) → IfCommitted o → are_committed (result_unwrap_or (option_map_or (mutated_from (i + 1) ms k t) o (Err i)) d) ≡ true
rest_of k t i ms d h goes None a = h
rest_of k t i ms d h goes (Some left) a = goes left a

committed-mutated : (k t i : ℕ) (ms : List Mutation) (es d : List Entry) → nat_le 1 k ≡ true → are_committed es ≡ true → are_committed d ≡ true
    → are_committed (result_unwrap_or (mutated_from i ms k t es) d) ≡ true
committed-mutated k t i [] es d one h g = h
committed-mutated k t i (m ∷ ms) es d one h g =
    rest_of k t i ms d g (λ left a. committed-mutated k t (i + 1) ms left d one a g) (mutated m k t es) (seen_of t (acted m k es) (committed-acted k m es one h))

committed-payloads : (k : ℕ) (m : Message) (keys : List (List ℕ)) (es : List Entry) → nat_le 1 k ≡ true → are_committed es ≡ true
    → are_committed (fold (λ left key. put (payload_entry m k key) left) es keys) ≡ true
committed-payloads k m [] es one h = h
committed-payloads k m (key ∷ keys) es one h = committed-payloads k m keys _ one (put_one (payload_entry m k key) es one h)

committed-undelivered : (k : ℕ) (es : List Entry) (o : Option Message) → nat_le 1 k ≡ true → are_committed es ≡ true → are_committed (option_map_or (λ m. undelivered m k es) o es) ≡ true
committed-undelivered k es None one h = h
committed-undelivered k es (Some m) one h = committed-payloads k m m.undelivered es one h

committed-changed : (k : ℕ) (ms : List Message) (c : Commit) (es : List Entry) → nat_le 1 k ≡ true → are_committed es ≡ true → are_committed (changed k ms c es) ≡ true
committed-changed k ms (commit.Wrote who at w) es one h = committed-mutated k at 0 w.mutations es es one h h
committed-changed k ms (commit.Acked who at id) es one h = h
committed-changed k ms (commit.Failed who at id) es one h = committed-undelivered k es (exhausted id ms) one h

-- after one commit more
pub committed-after : (s : State) (c : Commit) → FailsFit s.messages → are_committed s.entries ≡ true → are_committed (after s (c ∷ [])).entries ≡ true
committed-after s c fit h =
    ap are_committed (entries-one s c fit)
    ∙ committed-changed (s.number + 1) s.messages c (visible (moment_of c) s.entries) (le-leb 1 (s.number + 1) (omega arith)) (all-filter (λ (e : Entry). nat_le 1 e.commit) (is_visible (moment_of c)) s.entries h)

-- what was prepared makes such a state
pub committed-applied : (p : Change) (s : State) (c : Commit) → FailsFit s.messages → are_committed s.entries ≡ true → applied p s ≡ after s (c ∷ []) → are_committed (applied p s).entries ≡ true
committed-applied p s c fit h makes = ap (λ (x : State). are_committed x.entries) makes ∙ committed-after s c fit h
