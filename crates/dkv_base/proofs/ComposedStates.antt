-- The state after two lists of commits is the state after the second, from the state after the first.
use Rattle.std.proofs.Common.{◌≡◌, ℕ, ◌+◌, suc, List, [], ◌∷◌, ◌++◌, length, map, filter, refl, sym, ap, ◌∙◌, arith, append_assoc, length-append, add_assoc, add-zero}
use Rattle.std.proofs.lemmas.List.{append-nil, map-append}
use Rattle.std.proofs.lemmas.List.Elements.{filter-append}
use Rattle.std.proofs.lemmas.List.Sums.{fold-append}
use Rattle.dkv_base.specs.declared.types.Commit.{Commit}
use Rattle.dkv_base.specs.declared.types.Entry.{Entry}
use Rattle.dkv_base.specs.State.{State, visible}
use Rattle.dkv_base.specs.Messages.{moment_of, as_after, is_pending, pending, known, made_from, made_by, enqueues_of}
use Rattle.dkv_base.specs.After.{after, entries_from, entries_next, entries_after, changed}
use Rattle.dkv_base.proofs.ComposedMessages.{as_after-append, is_pending-append, two_passes, SettlesUpTo, IdsAbove, untouched_list, IdsAbove-made_by}

-- ---- the messages after two lists

made_by-append : (k : ℕ) (cs ds : List Commit) → made_by k (cs ++ ds) ≡ made_by k cs ++ made_by (k + length cs) ds
made_by-append k [] ds = ap (λ n. made_by n ds) (sym (add-zero k))
made_by-append k (c ∷ cs) ds =
    ap (λ ms. made_from k 0 (enqueues_of c) ++ ms) (made_by-append (k + 1) cs ds)
    ∙ sym (append_assoc (made_from k 0 (enqueues_of c)) (made_by (k + 1) cs) _)
    ∙ ap (λ n. made_from k 0 (enqueues_of c) ++ made_by (k + 1) cs ++ made_by n ds) (one_later k (length cs))
  where
    one_later : (k n : ℕ) → k + 1 + n ≡ k + suc n
    one_later k n = omega arith

pub pending-append : (base : State) (cs ds : List Commit) → SettlesUpTo (base.number + length cs) cs
    → pending base (cs ++ ds) ≡ pending (after base cs) ds
pending-append base cs ds s =
    let made = made_by (base.number + length cs + 1) ds in
    let later : IdsAbove (base.number + length cs) made = IdsAbove-made_by _ _ ds (omega arith) in
    ap (λ ms. map (λ m. as_after m (cs ++ ds)) (filter (is_pending (cs ++ ds)) (base.messages ++ ms)))
    (made_by-append (base.number + 1) cs ds ∙ ap (λ n. made_by (base.number + 1) cs ++ made_by n ds) (moved base.number (length cs)))
    ∙ ap (λ ms. map (λ m. as_after m (cs ++ ds)) (filter (is_pending (cs ++ ds)) ms)) (sym (append_assoc base.messages (made_by (base.number + 1) cs) made))
    ∙ ap (map (λ m. as_after m (cs ++ ds))) (filter-append (is_pending (cs ++ ds)) (known base cs) made)
    ∙ map-append (λ m. as_after m (cs ++ ds)) _ _
    ∙ (λ i. two_passes (is_pending (cs ++ ds)) (is_pending cs) (is_pending ds) (λ m. as_after m cs) (λ m. as_after m ds) (λ m. as_after m (cs ++ ds))
    (λ m. is_pending-append m cs ds) (λ m. as_after-append m cs ds) (known base cs) i
    ++ untouched_list _ cs ds s made later i)
    ∙ sym (map-append (λ m. as_after m ds) (filter (is_pending ds) (pending base cs)) (filter (is_pending ds) made))
    ∙ ap (map (λ m. as_after m ds)) (sym (filter-append (is_pending ds) (pending base cs) made))
  where
    moved : (n k : ℕ) → n + 1 + k ≡ n + k + 1
    moved n k = omega arith

-- ---- the entries after two lists

entries_from-append : (base : State) (before : List Commit) (es : List Entry) (cs ds : List Commit)
    → entries_from base before es (cs ++ ds) ≡ entries_from base (before ++ cs) (entries_from base before es cs) ds
entries_from-append base before es [] ds = ap (λ b. entries_from base b es ds) (sym (append-nil before))
entries_from-append base before es (c ∷ cs) ds =
    entries_from-append base (before ++ c ∷ []) (entries_next base before es c) cs ds
    ∙ ap (λ b. entries_from base b (entries_from base (before ++ c ∷ []) (entries_next base before es c) cs) ds) (append_assoc before (c ∷ []) cs)

-- the numbers and the messages of a later base are those that count on
number_after : (base : State) (cs ds : List Commit) → base.number + length (cs ++ ds) ≡ base.number + length cs + length ds
number_after base cs ds = ap (λ k. base.number + k) (length-append cs ds) ∙ sym (add_assoc base.number (length cs) (length ds))

entries_shift : (base : State) (cs : List Commit) → SettlesUpTo (base.number + length cs) cs → (done : List Commit) (es : List Entry) (ds : List Commit)
    → entries_from base (cs ++ done) es ds ≡ entries_from (after base cs) done es ds
entries_shift base cs s done es [] = refl
entries_shift base cs s done es (d ∷ ds) =
    (λ i. entries_from base (append_assoc cs done (d ∷ []) i)
    (changed (number_after base cs done i + 1) (pending-append base cs done s i) d (visible (moment_of d) es)) ds)
    ∙ entries_shift base cs s (done ++ d ∷ []) (entries_next (after base cs) done es d) ds

pub entries_after-append : (base : State) (cs ds : List Commit) → SettlesUpTo (base.number + length cs) cs
    → entries_after base (cs ++ ds) ≡ entries_after (after base cs) ds
entries_after-append base cs ds s =
    entries_from-append base [] base.entries cs ds
    ∙ ap (λ b. entries_from base b (entries_after base cs) ds) (sym (append-nil cs))
    ∙ entries_shift base cs s [] (entries_after base cs) ds

pub after-append : (base : State) (cs ds : List Commit) → SettlesUpTo (base.number + length cs) cs
    → after base (cs ++ ds) ≡ after (after base cs) ds
after-append base cs ds s = λ i. record {
  number = number_after base cs ds i;
  moment = fold-append (λ _ c. moment_of c) base.moment cs ds i;
  entries = entries_after-append base cs ds s i;
  messages = pending-append base cs ds s i;
}
