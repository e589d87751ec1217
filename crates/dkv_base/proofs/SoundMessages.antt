-- What commits make is within the limits.
use Rattle.std.proofs.Common.{◌≡◌, ℕ, ◌+◌, true, false, ◌&&◌, List, [], ◌∷◌, ◌++◌, length, map, filter, Option, Some, None, refl, ◌∙◌, arith}
use Rattle.std.specs.Prelude.{nat_le, nat_lt, is_none}
use Rattle.std.specs.List.{list_all}
use Rattle.std.proofs.lemmas.Bool.{and_parts, and_from, not_from_false, le-leb, ltb-false, false≢true}
use Rattle.std.proofs.lemmas.List.Folds.{list_all-append}
use Rattle.dkv_base.specs.declared.types.Commit.{Commit}
use Rattle.dkv_base.specs.declared.types.Enqueue.{Enqueue}
use Rattle.dkv_base.specs.declared.codes.Limit.{Limit}
use Rattle.dkv_base.specs.declared.types.Message.{Message}
use Rattle.dkv_base.specs.Limits.{when, first_some, write_limit, enqueue_limit, interval_limit, undelivered_limit}
use Rattle.dkv_base.specs.State.{State, is_empty, seen}
use Rattle.dkv_base.specs.Messages.{pending, known, as_after, is_pending, made, made_from, made_by, enqueues_of, moment_of, schedule_of}
use Rattle.dkv_base.specs.Writes.{failing}
use Rattle.dkv_base.specs.After.{after, is_legal_from, is_legal_in, may_make}
use Rattle.dkv_base.specs.Sound.{IsSound, is_good_key, is_number, is_schedule, is_payload, is_waiting}
use Rattle.dkv_base.specs.declared.limits.TheConstants.{MAX_VALUE_BYTES}
use Rattle.dkv_base.specs.declared.types.Profile.TheVariants.{Narrow}
use Rattle.dkv_base.proofs.Lists.{all-filter}
use Rattle.dkv_base.specs.declared.moments.TheConstants.{MAX_MOMENT}
use Rattle.dkv_base.specs.declared.types.Commit.TheVariants as commit
use Rattle.dkv_base.proofs.WithinLimits.{none_parts, when_none, NoneOf, none_of, within}
use Rattle.dkv_base.proofs.SoundEntries.{Asks, AllAsk}

-- ---- messages

good_interval : (backoff : List ℕ) → NoneOf interval_limit backoff → list_all (λ interval. nat_le interval 3600000) backoff ≡ true
good_interval [] h = refl
good_interval (x ∷ xs) h = and_from (nat_le x 3600000) _ (le-leb _ _ (ltb-false 3600000 x (when_none _ _ h.0))) (good_interval xs h.1)

good_keys : (keys : List (List ℕ)) → NoneOf undelivered_limit keys → list_all is_good_key keys ≡ true
good_keys [] h = refl
good_keys (x ∷ xs) h = and_from (is_good_key x) _ (not_from_false _ (when_none _ _ h.0)) (good_keys xs h.1)

good_schedule : (backoff : List ℕ) → nat_lt 10 (length backoff) ≡ false → NoneOf interval_limit backoff → is_schedule (schedule_of backoff) ≡ true
good_schedule [] few h = refl
good_schedule (x ∷ xs) few h =
    and_from (nat_le 1 (length (x ∷ xs)) && nat_le (length (x ∷ xs)) 10) _ (and_from (nat_le 1 (length (x ∷ xs))) _ (le-leb 1 (length (x ∷ xs)) (omega arith)) (le-leb _ _ (ltb-false 10 (length (x ∷ xs)) few)))
    (good_interval (x ∷ xs) h)

pub payload_made : (n i : ℕ) (q : Enqueue) → enqueue_limit Narrow q ≡ None → is_payload (made n i q) ≡ true
payload_made n i q e =
    let a = none_parts (when (nat_lt MAX_VALUE_BYTES (length q.payload)) _) _ e in
    let b = none_parts (when (nat_lt 10 (length q.backoff)) _) _ a.1 in
    let c = none_parts (first_some (map interval_limit q.backoff)) _ b.1 in
    let d = none_parts (when (nat_lt 10 (length q.undelivered)) _) _ c.1 in
    let f = (none_parts (first_some (map undelivered_limit q.undelivered)) None d.1).0 in
    and_from (nat_le (length q.payload) MAX_VALUE_BYTES && nat_le (length q.undelivered) 10 && list_all is_good_key q.undelivered) _
    (and_from (nat_le (length q.payload) MAX_VALUE_BYTES && nat_le (length q.undelivered) 10) _
    (and_from (nat_le (length q.payload) MAX_VALUE_BYTES) _ (le-leb _ _ (ltb-false _ _ (when_none _ _ a.0))) (le-leb _ _ (ltb-false _ _ (when_none _ _ d.0))))
    (good_keys q.undelivered (none_of undelivered_limit q.undelivered f)))
    (good_schedule q.backoff (when_none _ _ b.0) (none_of interval_limit q.backoff c.0))

pub payloads_made : (n i : ℕ) (qs : List Enqueue) → NoneOf (enqueue_limit Narrow) qs → list_all is_payload (made_from n i qs) ≡ true
payloads_made n i [] h = refl
payloads_made n i (q ∷ qs) h = and_from (is_payload (made n i q)) _ (payload_made n i q h.0) (payloads_made n (i + 1) qs h.1)

asked_enqueues : (c : Commit) → Asks c → NoneOf (enqueue_limit Narrow) (enqueues_of c)
asked_enqueues (commit.Wrote who at w) a = (within w a).enqueues
asked_enqueues (commit.Acked who at id) a = tt
asked_enqueues (commit.Failed who at id) a = tt

payloads_by : (k : ℕ) (cs : List Commit) → AllAsk cs → list_all is_payload (made_by k cs) ≡ true
payloads_by k [] a = refl
payloads_by k (c ∷ cs) a =
    list_all-append is_payload (made_from k 0 (enqueues_of c)) (made_by (k + 1) cs)
    ∙ and_from _ _ (payloads_made k 0 (enqueues_of c) (asked_enqueues c a.0)) (payloads_by (k + 1) cs a.1)

payloads_base : (n : ℕ) (ms : List Message) → list_all (is_waiting n) ms ≡ true → list_all is_payload ms ≡ true
payloads_base n [] h = refl
payloads_base n (m ∷ ms) h =
    let parts = and_parts (is_waiting n m) (list_all (is_waiting n) ms) h in
    and_from (is_payload m) _ (and_parts (is_payload m) (is_number n m.id.commit) (and_parts (is_payload m && is_number n m.id.commit) _ parts.0).0).0 (payloads_base n ms parts.1)

pub payloads_known : (base : State) (cs : List Commit) → IsSound base → AllAsk cs → list_all is_payload (known base cs) ≡ true
payloads_known base cs sound a =
    list_all-append is_payload base.messages (made_by (base.number + 1) cs)
    ∙ and_from _ _ (payloads_base base.number base.messages sound.messages) (payloads_by (base.number + 1) cs a)

payloads_map : (cs : List Commit) (ms : List Message) → list_all is_payload ms ≡ true → list_all is_payload (map (λ m. as_after m cs) ms) ≡ true
payloads_map cs [] h = refl
payloads_map cs (m ∷ ms) h = let parts = and_parts (is_payload m) (list_all is_payload ms) h in and_from (is_payload m) _ parts.0 (payloads_map cs ms parts.1)

pub payloads_pending : (base : State) (cs : List Commit) → IsSound base → AllAsk cs → list_all is_payload (pending base cs) ≡ true
payloads_pending base cs sound a = payloads_map cs (filter (is_pending cs) (known base cs)) (all-filter is_payload (is_pending cs) (known base cs) (payloads_known base cs sound a))

pub AllAsk-push : (cs : List Commit) (c : Commit) → AllAsk cs → Asks c → AllAsk (cs ++ c ∷ [])
AllAsk-push [] c a b = (b, tt)
AllAsk-push (d ∷ cs) c a b = (a.0, AllAsk-push cs c a.1 b)

no_limit : (o : Option Limit) → is_none o ≡ true → o ≡ None
no_limit None e = refl
no_limit (Some l) e = absurd (false≢true e)

asks_made : (s : State) (c : Commit) → may_make s c ≡ true → Asks c
asks_made s (commit.Wrote who at w) e =
    no_limit (write_limit w) (and_parts (is_none (write_limit w)) _ (and_parts (is_none (write_limit w) && is_empty (failing w (seen s at))) _ e).0).0
asks_made s (commit.Acked who at id) e = tt
asks_made s (commit.Failed who at id) e = tt

pub asks_legal : (base : State) (before cs : List Commit) → is_legal_from base before cs ≡ true → AllAsk cs
asks_legal base before [] e = tt
asks_legal base before (c ∷ cs) e =
    let parts = and_parts (is_legal_in (after base before) c) (is_legal_from base (before ++ c ∷ []) cs) e in (
      asks_made (after base before) c (and_parts (nat_le (after base before).moment (moment_of c) && nat_le (moment_of c) MAX_MOMENT) (may_make (after base before) c) parts.0).1,
      asks_legal base (before ++ c ∷ []) cs parts.1,
    )
