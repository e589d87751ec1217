-- What a core keeps of its messages: none is of a later commit, and none has failed too often.
use Rattle.std.proofs.Common.{◌≡◌, ℕ, ◌+◌, ◌≤◌, true, false, cond, not, ◌&&◌, List, [], ◌∷◌, ◌++◌, length, map, filter, Option, Some, None, refl, sym, ap, ◌∙◌, arith}
use Rattle.std.specs.Prelude.{nat_le, ◌==◌}
use Rattle.std.specs.List.{list_all}
use Rattle.std.proofs.lemmas.Bool.{and_parts, and_from, le-leb, leb-true, eqb-true, eq-eqb, false≢true}
use Rattle.std.proofs.lemmas.List.Folds.{list_all-append}
use Rattle.dkv_base.specs.declared.types.Message.{Message}
use Rattle.dkv_base.specs.declared.types.MsgId.{MsgId}
use Rattle.dkv_base.specs.declared.limits.TheConstants.{MAX_VALUE_BYTES, MAX_UNDELIVERED}
use Rattle.dkv_base.specs.Sound.{is_schedule, is_payload, is_number, is_waiting, is_good_key}
use Rattle.dkv_base.specs.State.{same_id}
use Rattle.dkv_base.proofs.Lists.{all-filter}
use Rattle.dkv_base.proofs.AfterNothing.{FailsFit}
use Rattle.dkv_queue.specs.Rows.{has_schedule, with_failure}
use Rattle.dkv_core.specs.Cores.{is_kept, is_made_by}
use Rattle.dkv_core.specs.Settling.{is_last_failure, after_ack, after_failure, after_settlement}
use Rattle.dkv_core.specs.declared.prepared.Settled.{Settled}

pub fits : (n : ℕ) (ms : List Message) → list_all (is_kept n) ms ≡ true → FailsFit ms
fits n [] h = tt
fits n (m ∷ ms) h = let parts = and_parts (is_kept n m) _ h in ((and_parts (nat_le m.id.commit n) _ parts.0).1, fits n ms parts.1)

pub early : (n : ℕ) (ms : List Message) → list_all (is_kept n) ms ≡ true → list_all (λ m. nat_le m.id.commit n) ms ≡ true
early n [] h = refl
early n (m ∷ ms) h = let parts = and_parts (is_kept n m) _ h in and_from (nat_le m.id.commit n) _ (and_parts (nat_le m.id.commit n) _ parts.0).0 (early n ms parts.1)

kept_later : (n k : ℕ) (ms : List Message) → n ≤ k → list_all (is_kept n) ms ≡ true → list_all (is_kept k) ms ≡ true
kept_later n k [] le h = refl
kept_later n k (m ∷ ms) le h =
    let parts = and_parts (is_kept n m) _ h in
    let both = and_parts (nat_le m.id.commit n) _ parts.0 in
    and_from (is_kept k m) _ (and_from (nat_le m.id.commit k) _ (le-leb m.id.commit k (omega (arith, le, leb-true m.id.commit n both.0))) both.1) (kept_later n k ms le parts.1)

-- one failure more, where it isn't one too many
one_more : (n at : ℕ) (id : MsgId) (m : Message) → is_kept n m ≡ true → not (is_last_failure id m) ≡ true → is_kept n (cond (same_id id m.id) (with_failure at m) m) ≡ true
one_more n at id m h other =
    elim (same_id id m.id) as (λ b. not (b && (m.fails == length m.backoff)) ≡ true → is_kept n (cond b (with_failure at m) m) ≡ true) [
      | true ↦ λ left.
          let both = and_parts (nat_le m.id.commit n) _ h in
          and_from (nat_le m.id.commit n) _ both.0 (le-leb (m.fails + 1) (length m.backoff) (rise m.fails (length m.backoff) (leb-true m.fails (length m.backoff) both.1) (λ same. false≢true (ap not (sym (eq-eqb m.fails (length m.backoff) same)) ∙ left))))
      | false ↦ λ left. h
    ] other
  where
    rise : (k l : ℕ) → k ≤ l → (k ≡ l → ⊥) → k + 1 ≤ l
    rise k l le unlike = omega (arith, le, unlike)

kept-failure : (n at : ℕ) (id : MsgId) (ms : List Message) → list_all (is_kept n) ms ≡ true → list_all (is_kept n) (after_failure id at ms) ≡ true
kept-failure n at id [] h = refl
kept-failure n at id (m ∷ ms) h =
    let parts = and_parts (is_kept n m) _ h in
    let rest = kept-failure n at id ms parts.1 in
    elim (not (is_last_failure id m)) as (λ b. not (is_last_failure id m) ≡ b → list_all (is_kept n) (map (λ k. cond (same_id id k.id) (with_failure at k) k) (cond b (m ∷ filter (λ k. not (is_last_failure id k)) ms) (filter (λ k. not (is_last_failure id k)) ms))) ≡ true) [
      | true ↦ λ left. and_from (is_kept n (cond (same_id id m.id) (with_failure at m) m)) _ (one_more n at id m parts.0 left) rest
      | false ↦ λ last. rest
    ] refl

kept-settled : (n at : ℕ) (t : Option Settled) (ms : List Message) → list_all (is_kept n) ms ≡ true → list_all (is_kept n) (after_settlement t at ms) ≡ true
kept-settled n at None ms h = h
kept-settled n at (Some t) ms h =
    elim t.done as (λ b. list_all (is_kept n) (cond b (after_ack t.id ms) (after_failure t.id at ms)) ≡ true) [
      | true ↦ all-filter (is_kept n) (λ m. not (same_id t.id m.id)) ms h
      | false ↦ kept-failure n at t.id ms h
    ]

kept-made : (n : ℕ) (ms : List Message) → list_all (is_made_by n) ms ≡ true → list_all (is_kept n) ms ≡ true
kept-made n [] h = refl
kept-made n (m ∷ ms) h =
    let parts = and_parts (is_made_by n m) _ h in
    let fit = and_parts ((m.id.commit == n) && is_schedule m.backoff) _ parts.0 in
    let commit = (and_parts (m.id.commit == n) _ fit.0).0 in
    and_from (is_kept n m) _ (and_from (nat_le m.id.commit n) _ (le-leb m.id.commit n (omega (arith, eqb-true m.id.commit n commit))) fit.1) (kept-made n ms parts.1)

-- after a commit they are kept
pub kept-applied : (n at : ℕ) (t : Option Settled) (ms added : List Message) → list_all (is_kept n) ms ≡ true → list_all (is_made_by (n + 1)) added ≡ true
    → list_all (is_kept (n + 1)) (after_settlement t at ms ++ added) ≡ true
kept-applied n at t ms added h made =
    list_all-append (is_kept (n + 1)) (after_settlement t at ms) added
    ∙ and_from _ _ (kept_later n (n + 1) (after_settlement t at ms) (omega arith) (kept-settled n at t ms h)) (kept-made (n + 1) added made)

-- those of an earlier commit stay so after what settles one of them
pub early-settled : (n at : ℕ) (t : Option Settled) (ms : List Message) → list_all (is_kept n) ms ≡ true → list_all (λ m. nat_le m.id.commit n) (after_settlement t at ms) ≡ true
early-settled n at t ms h = early n (after_settlement t at ms) (kept-settled n at t ms h)

-- the messages of a sound state
pub kept-sound : (n : ℕ) (ms : List Message) → list_all (is_waiting n) ms ≡ true → list_all (is_kept n) ms ≡ true
kept-sound n [] h = refl
kept-sound n (m ∷ ms) h =
    let parts = and_parts (is_waiting n m) _ h in
    let fit = and_parts (is_payload m && is_number n m.id.commit) _ parts.0 in
    let number = (and_parts (is_payload m) _ fit.0).1 in
    and_from (is_kept n m) _ (and_from (nat_le m.id.commit n) _ (and_parts (nat_le 1 m.id.commit) _ number).1 fit.1) (kept-sound n ms parts.1)

pub schedules-sound : (n : ℕ) (ms : List Message) → list_all (is_waiting n) ms ≡ true → list_all has_schedule ms ≡ true
schedules-sound n [] h = refl
schedules-sound n (m ∷ ms) h =
    let parts = and_parts (is_waiting n m) _ h in
    let fit = and_parts (is_payload m && is_number n m.id.commit) _ parts.0 in
    let payload = (and_parts (is_payload m) _ fit.0).0 in
    let schedule = (and_parts (nat_le (length m.payload) MAX_VALUE_BYTES && nat_le (length m.undelivered) MAX_UNDELIVERED && list_all is_good_key m.undelivered) (is_schedule m.backoff) payload).1 in
    and_from (has_schedule m) _ (and_from (is_schedule m.backoff) _ schedule fit.1) (schedules-sound n ms parts.1)
