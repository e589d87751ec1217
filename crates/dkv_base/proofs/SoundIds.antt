-- The ids of messages stay in order.
use Rattle.std.proofs.Common.{◌≡◌, ℕ, ◌+◌, ◌≤◌, ◌<◌, Bool, true, cond, List, [], ◌∷◌, ◌++◌, map, filter, refl, ap, ◌∙◌, arith}
use Rattle.std.specs.Prelude.{◌==◌}
use Rattle.std.specs.List.{list_all}
use Rattle.std.specs.Ordering.{is_lt, nat_cmp, ordering_then}
use Rattle.std.specs.declared.cmp.Ordering.TheVariants.{Less, Equal, Greater}
use Rattle.std.proofs.lemmas.Bool.{and_parts, and_from, lt-ltb, le-ltb, eq-eqb}
use Rattle.std.proofs.lemmas.List.Folds.{list_all-append}
use Rattle.dkv_base.specs.declared.types.Commit.{Commit}
use Rattle.dkv_base.specs.declared.types.Enqueue.{Enqueue}
use Rattle.dkv_base.specs.declared.types.Message.{Message}
use Rattle.dkv_base.specs.declared.types.MsgId.{MsgId}
use Rattle.dkv_base.specs.State.{State, is_in_id_order, id_cmp, message_cmp}
use Rattle.dkv_base.specs.Messages.{pending, known, as_after, is_pending, made_from, made_by, enqueues_of}
use Rattle.dkv_base.specs.Sound.{IsSound}
use Rattle.dkv_base.proofs.Risings.{rising-filter}
use Rattle.dkv_base.proofs.ComposedMessages.{IdsAbove, IdsUpTo, IdsAbove-made_by}
use Rattle.dkv_base.proofs.Composes.{sound_ids}

-- ---- ids

pub id_below_commit : (a b : MsgId) → a.commit < b.commit → is_lt (id_cmp a b) ≡ true
id_below_commit a b lt = ap (λ t. is_lt (ordering_then (cond t Less (cond (a.commit == b.commit) Equal Greater)) (nat_cmp a.index b.index))) (lt-ltb a.commit b.commit lt)

id_below_index : (n i j : ℕ) → i < j → is_lt (ordering_then (nat_cmp n n) (nat_cmp i j)) ≡ true
id_below_index n i j lt =
    ap (λ t. is_lt (ordering_then (cond t Less (cond (n == n) Equal Greater)) (nat_cmp i j))) (le-ltb n n (omega arith))
    ∙ ap (λ t. is_lt (ordering_then (cond t Equal Greater) (nat_cmp i j))) (eq-eqb n n refl)
    ∙ ap (λ t. is_lt (cond t Less (cond (i == j) Equal Greater))) (lt-ltb i j lt)

-- the id is below all of the list
abbrev is_first : MsgId → List Message → Bool
is_first id ms = list_all (λ k. is_lt (id_cmp id k.id)) ms

first_above : (n : ℕ) (id : MsgId) (ms : List Message) → id.commit ≤ n → IdsAbove n ms → is_first id ms ≡ true
first_above n id [] le a = refl
first_above n id (m ∷ ms) le a = and_from (is_lt (id_cmp id m.id)) _ (id_below_commit id m.id (omega (arith, le, a.0))) (first_above n id ms le a.1)

first_made : (n i j : ℕ) (qs : List Enqueue) → i < j → is_first (record { commit = n; index = i }) (made_from n j qs) ≡ true
first_made n i j [] lt = refl
first_made n i j (q ∷ qs) lt = and_from _ _ (id_below_index n i j lt) (first_made n i (j + 1) qs (omega (arith, lt)))

pub order_made_from : (n i : ℕ) (qs : List Enqueue) → is_in_id_order (made_from n i qs) ≡ true
order_made_from n i [] = refl
order_made_from n i (q ∷ qs) = and_from _ _ (first_made n i (i + 1) qs (omega arith)) (order_made_from n (i + 1) qs)

pub order-append : (n : ℕ) (ms ks : List Message) → IdsUpTo n ms → IdsAbove n ks → is_in_id_order ms ≡ true → is_in_id_order ks ≡ true → is_in_id_order (ms ++ ks) ≡ true
order-append n [] ks a b g h = h
order-append n (m ∷ ms) ks a b g h =
    let parts = and_parts (is_first m.id ms) (is_in_id_order ms) g in
    and_from (is_first m.id (ms ++ ks)) _
    (list_all-append (λ k. is_lt (id_cmp m.id k.id)) ms ks ∙ and_from (is_first m.id ms) _ parts.0 (first_above n m.id ks a.0 b))
    (order-append n ms ks a.1 b parts.1 h)

up_to_made_from : (n i : ℕ) (qs : List Enqueue) → IdsUpTo n (made_from n i qs)
up_to_made_from n i [] = tt
up_to_made_from n i (q ∷ qs) = (omega arith, up_to_made_from n (i + 1) qs)

order_made_by : (k : ℕ) (cs : List Commit) → is_in_id_order (made_by k cs) ≡ true
order_made_by k [] = refl
order_made_by k (c ∷ cs) =
    order-append k (made_from k 0 (enqueues_of c)) (made_by (k + 1) cs) (up_to_made_from k 0 (enqueues_of c)) (IdsAbove-made_by k (k + 1) cs (omega arith))
    (order_made_from k 0 (enqueues_of c)) (order_made_by (k + 1) cs)

first-map : (id : MsgId) (cs : List Commit) (ms : List Message) → is_first id ms ≡ true → is_first id (map (λ m. as_after m cs) ms) ≡ true
first-map id cs [] h = refl
first-map id cs (m ∷ ms) h =
    let parts = and_parts (is_lt (id_cmp id m.id)) (is_first id ms) h in
    and_from (is_lt (id_cmp id m.id)) _ parts.0 (first-map id cs ms parts.1)

order-map : (cs : List Commit) (ms : List Message) → is_in_id_order ms ≡ true → is_in_id_order (map (λ m. as_after m cs) ms) ≡ true
order-map cs [] h = refl
order-map cs (m ∷ ms) h =
    let parts = and_parts (is_first m.id ms) (is_in_id_order ms) h in
    and_from (is_first m.id (map (λ k. as_after k cs) ms)) _ (first-map m.id cs ms parts.0) (order-map cs ms parts.1)

pub order_pending : (base : State) (cs : List Commit) → IsSound base → is_in_id_order (pending base cs) ≡ true
order_pending base cs sound =
    order-map cs (filter (is_pending cs) (known base cs)) (rising-filter message_cmp (is_pending cs) (known base cs)
    (order-append base.number base.messages (made_by (base.number + 1) cs) (sound_ids base sound) (IdsAbove-made_by base.number (base.number + 1) cs (omega arith))
    sound.id_order (order_made_by (base.number + 1) cs)))
