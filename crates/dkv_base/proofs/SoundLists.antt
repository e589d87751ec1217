-- Lists of commits keep entries and messages within the limits.
use Rattle.std.proofs.Common.{◌≡◌, ℕ, ◌+◌, ◌≤◌, true, false, cond, not, ◌&&◌, List, [], ◌∷◌, ◌++◌, length, map, filter, refl, ◌∙◌, arith, length-append}
use Rattle.std.specs.Prelude.{nat_le}
use Rattle.std.specs.List.{list_any, list_all}
use Rattle.std.proofs.lemmas.Bool.{and_parts, and_from, leb-true, le-leb}
use Rattle.std.proofs.lemmas.List.Folds.{list_all-append}
use Rattle.dkv_base.specs.declared.types.Commit.{Commit}
use Rattle.dkv_base.specs.declared.types.Enqueue.{Enqueue}
use Rattle.dkv_base.specs.declared.types.Entry.{Entry}
use Rattle.dkv_base.specs.declared.types.Message.{Message}
use Rattle.dkv_base.specs.declared.types.Value.{Value}
use Rattle.dkv_base.specs.State.{State}
use Rattle.dkv_base.specs.Messages.{pending, known, as_after, is_pending, made_from, made_by, enqueues_of, moment_of, acks}
use Rattle.dkv_base.specs.After.{entries_from, entries_after, moment_after}
use Rattle.dkv_base.specs.Sound.{IsSound, is_good_key, is_good_value, is_number, is_stored, is_payload, is_waiting}
use Rattle.dkv_base.proofs.SoundEntries.{Good, good_seen, AllAsk, good_changed}
use Rattle.dkv_base.proofs.SoundMessages.{payloads_known, payloads_pending, AllAsk-push}

-- ---- the entries of whole lists

good_from : (base : State) (n t : ℕ) (before : List Commit) (es : List Entry) (cs : List Commit) → IsSound base → AllAsk before → AllAsk cs
    → base.number + length before + length cs ≤ n → Good n t es → Good n (moment_after t cs) (entries_from base before es cs)
good_from base n t before es [] sound a b le g = g
good_from base n t before es (c ∷ cs) sound a b le g =
    good_from base n (moment_of c) (before ++ c ∷ []) _ cs sound (AllAsk-push before c a b.0) b.1 (omega (arith, le, length-append before (c ∷ [])))
    (good_changed n _ (pending base before) c _ b.0 (payloads_pending base before sound a) (omega arith) (omega (arith, le)) (good_seen n (moment_of c) es g.held))

stored_more : (n k : ℕ) (es : List Entry) → n ≤ k → list_all (is_stored n) es ≡ true → list_all (is_stored k) es ≡ true
stored_more n k [] le h = refl
stored_more n k (e ∷ es) le h =
    let parts = and_parts (is_stored n e) (list_all (is_stored n) es) h in
    let value : Value = record { bytes = e.bytes; encoding = e.encoding } in
    let number = and_parts (is_good_key e.key && is_good_value value) (is_number n e.commit) parts.0 in
    let bounds = and_parts (nat_le 1 e.commit) (nat_le e.commit n) number.1 in
    and_from (is_stored k e) _ (and_from (is_good_key e.key && is_good_value value) _ number.0
    (and_from (nat_le 1 e.commit) _ bounds.0 (le-leb _ _ (omega (arith, le, leb-true e.commit n bounds.1))))) (stored_more n k es le parts.1)

pub good_after : (base : State) (cs : List Commit) → IsSound base → AllAsk cs → Good (base.number + length cs) (moment_after base.moment cs) (entries_after base cs)
good_after base cs sound a = good_from base _ base.moment [] base.entries cs sound tt a (omega arith)
    (record { held = record { order = sound.key_order; stored = stored_more base.number _ base.entries (omega arith) sound.entries }; visible = sound.visible })

-- ---- the messages that wait

number_made_from : (n k i : ℕ) (qs : List Enqueue) → 1 ≤ k → k ≤ n → list_all (λ m. is_number n m.id.commit) (made_from k i qs) ≡ true
number_made_from n k i [] low high = refl
number_made_from n k i (q ∷ qs) low high = and_from (is_number n k) _ (and_from (nat_le 1 k) _ (le-leb _ _ low) (le-leb _ _ high)) (number_made_from n k (i + 1) qs low high)

number_made_by : (n k : ℕ) (cs : List Commit) → 1 ≤ k → k + length cs ≤ n + 1 → list_all (λ m. is_number n m.id.commit) (made_by k cs) ≡ true
number_made_by n k [] low le = refl
number_made_by n k (c ∷ cs) low le =
    list_all-append (λ m. is_number n m.id.commit) (made_from k 0 (enqueues_of c)) (made_by (k + 1) cs)
    ∙ and_from _ _ (number_made_from n k 0 (enqueues_of c) low (omega (arith, le))) (number_made_by n (k + 1) cs (omega arith) (omega (arith, le)))

number_base : (n k : ℕ) (ms : List Message) → n ≤ k → list_all (is_waiting n) ms ≡ true → list_all (λ m. is_number k m.id.commit) ms ≡ true
number_base n k [] le h = refl
number_base n k (m ∷ ms) le h =
    let parts = and_parts (is_waiting n m) (list_all (is_waiting n) ms) h in
    let number = and_parts (nat_le 1 m.id.commit) (nat_le m.id.commit n) (and_parts (is_payload m) (is_number n m.id.commit) (and_parts (is_payload m && is_number n m.id.commit) _ parts.0).0).1 in
    and_from (is_number k m.id.commit) _ (and_from (nat_le 1 m.id.commit) _ number.0 (le-leb _ _ (omega (arith, le, leb-true m.id.commit n number.1)))) (number_base n k ms le parts.1)

waiting_from : (n : ℕ) (cs : List Commit) (ms : List Message) → list_all is_payload ms ≡ true → list_all (λ m. is_number n m.id.commit) ms ≡ true
    → list_all (is_waiting n) (map (λ m. as_after m cs) (filter (is_pending cs) ms)) ≡ true
waiting_from n cs [] a b = refl
waiting_from n cs (m ∷ ms) a b =
    let payload = and_parts (is_payload m) (list_all is_payload ms) a in
    let number = and_parts (is_number n m.id.commit) (list_all (λ k. is_number n k.id.commit) ms) b in
    elim (is_pending cs m) as (λ t. is_pending cs m ≡ t → list_all (is_waiting n) (map (λ k. as_after k cs) (cond t (m ∷ filter (is_pending cs) ms) (filter (is_pending cs) ms))) ≡ true) [
      | true ↦ λ e. and_from (is_waiting n (as_after m cs)) _
          (and_from (is_payload m && is_number n m.id.commit) _ (and_from (is_payload m) _ payload.0 number.0) (and_parts (not (list_any (acks m.id) cs)) _ e).1)
          (waiting_from n cs ms payload.1 number.1)
      | false ↦ λ e. waiting_from n cs ms payload.1 number.1
    ] refl

pub waiting_after : (base : State) (cs : List Commit) → IsSound base → AllAsk cs → list_all (is_waiting (base.number + length cs)) (pending base cs) ≡ true
waiting_after base cs sound a = waiting_from _ cs (known base cs) (payloads_known base cs sound a)
    (list_all-append (λ m. is_number (base.number + length cs) m.id.commit) base.messages (made_by (base.number + 1) cs)
    ∙ and_from _ _ (number_base base.number _ base.messages (omega arith) sound.messages) (number_made_by _ (base.number + 1) cs (omega arith) (omega arith)))
