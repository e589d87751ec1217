-- Messages that are added behind those that are there.
use Rattle.std.proofs.Common.{◌≡◌, ℕ, ◌+◌, ◌<◌, Bool, true, false, cond, ◌&&◌, List, [], ◌∷◌, ◌++◌, map, filter, Some, None, length, take, suc, get_or, refl, sym, ap, ◌∙◌, arith, add-zero}
use Rattle.std.specs.Prelude.{nat_le, ◌==◌}
use Rattle.std.specs.List.{list_all}
use Rattle.std.specs.Ordering.{is_lt, match_ordering, ordering_reverse}
use Rattle.std.specs.declared.cmp.Ordering.{Ordering}
use Rattle.std.specs.declared.cmp.Ordering.TheVariants.{Less, Equal, Greater}
use Rattle.std.specs.Cmp.{IsTotalOrder, then_total, on_total, nat_cmp_total}
use Rattle.std.proofs.lemmas.Bool.{and_parts, and_from, leb-true, eqb-true}
use Rattle.std.proofs.lemmas.List.{append-nil, map-append, take_more, length-take}
use Rattle.std.proofs.lemmas.List.Elements.{filter-append}
use Rattle.std.proofs.lemmas.List.Folds.{list_all-append}
use Rattle.dkv_base.specs.declared.types.Enqueue.{Enqueue}
use Rattle.dkv_base.specs.declared.types.Message.{Message}
use Rattle.dkv_base.specs.Messages.{made, made_from}
use Rattle.dkv_base.specs.Sound.{is_schedule}
use Rattle.dkv_base.specs.State.{id_cmp, is_in_id_order}
use Rattle.dkv_base.proofs.SoundIds.{id_below_commit}
use Rattle.dkv_queue.specs.declared.row.Row.{Row}
use Rattle.dkv_queue.specs.Rows.{messages_of, row_at, row_cmp, added, has_schedule, out_of}
use Rattle.dkv_core.specs.Cores.{is_made_by}
use Rattle.dkv_core.specs.Rows.{is_above}
use Rattle.dkv_core.proofs.OneCommit.{same_id-turned}
use Rattle.dkv_base.proofs.IdOrder.{id_above}

row_total : IsTotalOrder row_cmp
row_total = then_total (on_total (λ r. r.message.id.commit) nat_cmp_total) (on_total (λ r. r.message.id.index) nat_cmp_total)

abbrev new_row : Message → Row
new_row m = record { message = m; out = false }

-- what ranks below it, it ranks above
above_it : (m : Message) (r : Row) → is_lt (id_cmp r.message.id m.id) ≡ true → row_cmp (new_row m) r ≡ Greater
above_it m r below = row_total.antisymm (new_row m) r ∙ ap ordering_reverse (less (row_cmp r (new_row m)) below)
  where
    less : (o : Ordering) → is_lt o ≡ true → o ≡ Less
    less Less h = refl
    less Equal h = absurd (cc h)
    less Greater h = absurd (cc h)

added-last : (m : Message) (rows : List Row) → is_above (messages_of rows) m ≡ true → added m rows ≡ rows ++ new_row m ∷ []
added-last m [] above = refl
added-last m (r ∷ rows) above =
    let parts = and_parts (is_lt (id_cmp r.message.id m.id)) _ above in
    (λ i. match_ordering (above_it m r parts.0 i) (new_row m ∷ r ∷ rows) (new_row m ∷ rows) (r ∷ added m rows)) ∙ ap (λ s. r ∷ s) (added-last m rows parts.1)

-- its id is new
pub absent : (m : Message) (rows : List Row) → is_above (messages_of rows) m ≡ true → row_at m.id rows ≡ None
absent m [] above = refl
absent m (r ∷ rows) above =
    let parts = and_parts (is_lt (id_cmp r.message.id m.id)) _ above in
    (λ i. cond ((same_id-turned m.id r.message.id ∙ id_above r.message.id m.id parts.0) i) (Some r) (row_at m.id rows)) ∙ absent m rows parts.1

pub messages-added : (m : Message) (rows : List Row) → is_above (messages_of rows) m ≡ true → messages_of (added m rows) ≡ messages_of rows ++ m ∷ []
messages-added m rows above = ap messages_of (added-last m rows above) ∙ map-append (λ r. r.message) rows (new_row m ∷ [])

pub out-added : (m : Message) (rows : List Row) → is_above (messages_of rows) m ≡ true → out_of (added m rows) ≡ out_of rows
out-added m rows above =
    ap out_of (added-last m rows above)
    ∙ ap (map (λ r. r.message.id)) (filter-append (λ r. r.out) rows (new_row m ∷ []) ∙ append-nil (filter (λ r. r.out) rows))

-- ---- one after the other

order_before : (ys : List Message) (m : Message) (zs : List Message) → is_in_id_order (ys ++ m ∷ zs) ≡ true → is_above ys m ≡ true
order_before [] m zs order = refl
order_before (y ∷ ys) m zs order =
    let parts = and_parts (list_all (λ k. is_lt (id_cmp y.id k.id)) (ys ++ m ∷ zs)) _ order in
    and_from (is_lt (id_cmp y.id m.id)) _ (among ys parts.0) (order_before ys m zs parts.1)
  where
    among : (ks : List Message) → list_all (λ k. is_lt (id_cmp y.id k.id)) (ks ++ m ∷ zs) ≡ true → is_lt (id_cmp y.id m.id) ≡ true
    among [] h = (and_parts (is_lt (id_cmp y.id m.id)) _ h).0
    among (k ∷ ks) h = among ks (and_parts (is_lt (id_cmp y.id k.id)) _ h).1

pub all_next : (p : Message → Bool) (ys : List Message) (m : Message) (zs : List Message) → list_all p (ys ++ m ∷ zs) ≡ true → p m ≡ true
all_next p [] m zs h = (and_parts (p m) _ h).0
all_next p (y ∷ ys) m zs h = all_next p ys m zs (and_parts (p y) _ h).1

-- the next message is above those that were there and those that were added
pub above_next : (ms ys : List Message) (m : Message) (zs : List Message) → list_all (is_above ms) (ys ++ m ∷ zs) ≡ true → is_in_id_order (ys ++ m ∷ zs) ≡ true → is_above (ms ++ ys) m ≡ true
above_next ms ys m zs above order =
    list_all-append (λ k. is_lt (id_cmp k.id m.id)) ms ys ∙ and_from (is_above ms m) _ (all_next (is_above ms) ys m zs above) (order_before ys m zs order)

-- ---- messages of the next commit

-- they are above all of earlier commits
pub above_earlier : (n : ℕ) (ms added : List Message) → list_all (λ m. nat_le m.id.commit n) ms ≡ true → list_all (is_made_by (n + 1)) added ≡ true → list_all (is_above ms) added ≡ true
above_earlier n ms [] early made = refl
above_earlier n ms (m ∷ added) early made =
    let parts = and_parts (is_made_by (n + 1) m) _ made in
    let schedule = and_parts ((m.id.commit == n + 1) && is_schedule m.backoff) _ parts.0 in
    let commit = (and_parts (m.id.commit == n + 1) _ schedule.0).0 in
    and_from (is_above ms m) _ (all ms early (eqb-true m.id.commit (n + 1) commit)) (above_earlier n ms added early parts.1)
  where
    all : (ks : List Message) → list_all (λ k. nat_le k.id.commit n) ks ≡ true → m.id.commit ≡ n + 1 → is_above ks m ≡ true
    all [] h is = refl
    all (k ∷ ks) h is =
        let ps = and_parts (nat_le k.id.commit n) _ h in
        and_from (is_lt (id_cmp k.id m.id)) _ (id_below_commit k.id m.id (omega (arith, leb-true k.id.commit n ps.0, is))) (all ks ps.1 is)

pub made_schedules : (n : ℕ) (added : List Message) → list_all (is_made_by n) added ≡ true → list_all has_schedule added ≡ true
made_schedules n [] made = refl
made_schedules n (m ∷ added) made =
    let parts = and_parts (is_made_by n m) _ made in
    let fits = and_parts ((m.id.commit == n) && is_schedule m.backoff) _ parts.0 in
    let schedule = (and_parts (m.id.commit == n) _ fits.0).1 in
    and_from (has_schedule m) _ (and_from (is_schedule m.backoff) _ schedule fits.1) (made_schedules n added parts.1)

-- ---- the messages of a write

made_from-last : (n i : ℕ) (qs : List Enqueue) (q : Enqueue) → made_from n i (qs ++ q ∷ []) ≡ made_from n i qs ++ made n (i + length qs) q ∷ []
made_from-last n i [] q = ap (λ k. made n k q ∷ []) (sym (add-zero i))
made_from-last n i (p ∷ qs) q = ap (λ ms. made n i p ∷ ms) (made_from-last n (i + 1) qs q ∙ ap (λ k. made_from n (i + 1) qs ++ made n k q ∷ []) (one_later i (length qs)))
  where
    one_later : (a b : ℕ) → a + 1 + b ≡ a + suc b
    one_later a b = omega arith

-- the message of the next enqueue
pub made_next : (n i : ℕ) (qs : List Enqueue) (q : Enqueue) → i < length qs → q ≡ get_or qs i q → made_from n 0 (take (i + 1) qs) ≡ made_from n 0 (take i qs) ++ made n i q ∷ []
made_next n i qs q lt is =
    ap (made_from n 0) (take_more qs i q lt ∙ ap (λ p. take i qs ++ p ∷ []) (sym is))
    ∙ made_from-last n 0 (take i qs) q
    ∙ ap (λ k. made_from n 0 (take i qs) ++ made n k q ∷ []) (counted i qs lt)
  where
    counted : (k : ℕ) (ps : List Enqueue) → k < length ps → 0 + length (take k ps) ≡ k
    counted k ps le = omega (arith, length-take k ps)

-- above no messages each one is
pub above_none : (ms : List Message) → list_all (is_above []) ms ≡ true
above_none [] = refl
above_none (m ∷ ms) = above_none ms
