-- The block of a key: where a search by halves ends, and that a look-up, a put and a removal change no other.
use Rattle.std.proofs.Common.{◌≡◌, ℕ, zero, suc, ◌+◌, ◌-◌, eqb, ◌<◌, ◌≤◌, Bool, true, false, not, List, [], ◌∷◌, ◌++◌, length, take, drop, set, get_or, append_assoc, refl, sym, ap, ◌∙◌, subst, arith}
use Rattle.std.specs.List.{list_all, insert, remove}
use Rattle.std.specs.List.Sorted.{IsPartitionedBy}
use Rattle.std.specs.Ordering.{is_lt, is_le}
use Rattle.std.specs.declared.cmp.Ordering.{Ordering}
use Rattle.std.specs.declared.cmp.Ordering.TheVariants.{Less, Equal, Greater}
use Rattle.std.proofs.lemmas.Bool.{and_parts, and_from}
use Rattle.std.proofs.lemmas.List.{length-append, take-set, drop-set-lt}
use Rattle.std.proofs.lemmas.List.Concat.{flat_map-append}
use Rattle.dkv_base.specs.declared.types.Entry.{Entry}
use Rattle.dkv_base.specs.State.{key_cmp, entry_at, put, without, is_empty, is_in_key_order}
use Rattle.dkv_base.proofs.RankedLists as ranked
use Rattle.dkv_table.specs.Places.{is_below, is_above, marker}
use Rattle.dkv_table.specs.Blocks.{joined, is_filled, begins_upto, AreBlocks, IsSeat, IsDivided}
use Rattle.dkv_table.proofs.Keys.{entry_total, same_key, le-turned, le-lt}
use Rattle.dkv_table.proofs.Edits.{around, set_parts}
use Rattle.dkv_table.proofs.Lists.{all_of_take, all_of_drop}
use Rattle.dkv_table.proofs.Parts.{all-back, all-both, in_order-back, before, entry_at-behind, entry_at-before, put-behind, put-before, without-behind, without-before}

-- the entries of blocks and of those behind them
pub joined-parts : (bs : List (List Entry)) (b : List Entry) (cs : List (List Entry)) → joined (bs ++ b ∷ cs) ≡ joined bs ++ (b ++ joined cs)
joined-parts bs b cs = flat_map-append (λ c. c) bs (b ∷ cs)

-- those before a block, its own, and those behind it
pub joined-around : (bs : List (List Entry)) (at : ℕ) (d : List Entry) → at < length bs → joined bs ≡ joined (take at bs) ++ (get_or bs at d ++ joined (drop (suc at) bs))
joined-around bs at d lt = ap joined (around bs at d lt) ∙ joined-parts (take at bs) (get_or bs at d) (drop (suc at) bs)

-- a list that isn't empty has an item
pub some_of : {X : Type 0} (xs : List X) → eqb (length xs) 0 ≡ false → 0 < length xs
some_of [] none = absurd (cc none)
some_of (x ∷ xs) none = omega arith

true_of : (b : Bool) → not b ≡ false → b ≡ true
true_of true h = refl
true_of false h = sym h

module _ (key : List ℕ) where
  -- where the first block begins above the key, all blocks are above it
  above_all : (bs : List (List Entry)) (d : List Entry) → is_in_key_order (joined bs) ≡ true → list_all is_filled bs ≡ true → (0 < length bs → begins_upto key (get_or bs 0 d) ≡ false) → list_all (is_above key) (joined bs) ≡ true
  above_all [] d order filled begins = refl
  above_all ([] ∷ bs) d order filled begins = absurd (cc filled)
  above_all ((y ∷ ys) ∷ bs) d order filled begins =
      let higher : is_above key y ≡ true = true_of _ (sym (le-turned key y.key) ∙ begins (omega arith)) in
      and_from _ _ higher (ranked.all_above-lt entry_total (marker key) y (ys ++ joined bs) higher (and_parts _ _ order).0)

  lower : (xs : List Entry) (y : Entry) (o : Ordering) → key_cmp y.key key ≡ o → is_le o ≡ true → list_all (is_below y.key) xs ≡ true → list_all (is_below key) xs ≡ true
  lower xs y Less e le all = ranked.all_below-lt entry_total (marker key) y xs (ap is_lt e) all
  lower xs y Equal e le all = subst (λ k. list_all (is_below k) xs ≡ true) (same_key _ _ e) all
  lower xs y Greater e le all = absurd (cc le)

  below_part : (xs b rest : List Entry) → is_in_key_order (xs ++ (b ++ rest)) ≡ true → begins_upto key b ≡ true → list_all (is_below key) xs ≡ true
  below_part xs [] rest order upto = absurd (cc upto)
  below_part xs (y ∷ ys) rest order upto = lower xs y (key_cmp y.key key) refl upto (before xs y (ys ++ rest) order)

  -- the blocks before one that begins at the key or below it are below it
  below_all : (bs : List (List Entry)) (at : ℕ) (d : List Entry) → is_in_key_order (joined bs) ≡ true → at < length bs → begins_upto key (get_or bs at d) ≡ true → list_all (is_below key) (joined (take at bs)) ≡ true
  below_all bs at d order lt upto =
      below_part (joined (take at bs)) (get_or bs at d) (joined (drop (suc at) bs)) (subst (λ es. is_in_key_order es ≡ true) (joined-around bs at d lt) order) upto

  -- no block that begins above the key comes before one that doesn't
  pub begins_apart : (bs : List (List Entry)) → is_in_key_order (joined bs) ≡ true → list_all is_filled bs ≡ true → IsPartitionedBy (begins_upto key) bs
  begins_apart [] order filled i j d le lt upto = absurd (omega arith)
  begins_apart (b ∷ bs) order filled zero zero d le lt upto = upto
  begins_apart ([] ∷ bs) order filled zero (suc j) d le lt upto = absurd (cc filled)
  begins_apart ((y ∷ ys) ∷ bs) order filled zero (suc j) d le lt upto = le-lt _ (and_parts _ _ (below_all ((y ∷ ys) ∷ bs) (suc j) d order lt upto)).0
  begins_apart (b ∷ bs) order filled (suc i) zero d le lt upto = absurd (omega arith)
  begins_apart (b ∷ bs) order filled (suc i) (suc j) d le lt upto = begins_apart bs (in_order-back b (joined bs) order) (and_parts _ _ filled).1 i j d (omega arith) (omega arith) upto

  all_drop : (bs : List (List Entry)) (n : ℕ) → is_in_key_order (joined bs) ≡ true → list_all is_filled bs ≡ true → (is_in_key_order (joined (drop n bs)) ≡ true) × (list_all is_filled (drop n bs) ≡ true)
  all_drop bs zero order filled = (order, filled)
  all_drop [] (suc n) order filled = (refl, refl)
  all_drop (b ∷ bs) (suc n) order filled = all_drop bs n (in_order-back b (joined bs) order) (and_parts _ _ filled).1

  first_of_drop : (bs : List (List Entry)) (n : ℕ) (d : List Entry) → get_or (drop n bs) 0 d ≡ get_or bs n d
  first_of_drop bs zero d = refl
  first_of_drop [] (suc n) d = refl
  first_of_drop (b ∷ bs) (suc n) d = first_of_drop bs n d

  length_of_drop : (bs : List (List Entry)) (n : ℕ) → 0 < length (drop n bs) → n < length bs
  length_of_drop bs zero lt = lt
  length_of_drop [] (suc n) lt = absurd (omega arith)
  length_of_drop (b ∷ bs) (suc n) lt = let more = length_of_drop bs n lt in omega arith

  above_from : (bs : List (List Entry)) (r : ℕ) → AreBlocks bs → ((k : ℕ) (d : List Entry) → r ≤ k → k < length bs → begins_upto key (get_or bs k d) ≡ false) → list_all (is_above key) (joined (drop r bs)) ≡ true
  above_from bs r are later =
      let parts = all_drop bs r are.in_order are.filled in
      above_all (drop r bs) [] parts.0 parts.1 (λ lt. ap (begins_upto key) (first_of_drop bs r []) ∙ later r [] (omega arith) (length_of_drop bs r lt))

  -- the last block that begins at the key or below it is the key's, or the first where none does
  pub seat_of : (bs : List (List Entry)) (r at : ℕ) → at ≡ r - 1 → 0 < length bs → AreBlocks bs → r ≤ length bs
      → ((k : ℕ) (d : List Entry) → k < r → begins_upto key (get_or bs k d) ≡ true) → ((k : ℕ) (d : List Entry) → r ≤ k → k < length bs → begins_upto key (get_or bs k d) ≡ false) → IsSeat key bs at
  seat_of [] r at is some are le earlier later = absurd (omega arith)
  seat_of (b ∷ bs) zero at is some are le earlier later =
      let first : 0 ≡ at = omega arith in
      subst (IsSeat key (b ∷ bs)) first (record { in_range = some; below = refl; above = all-back (is_above key) b (joined bs) (above_from (b ∷ bs) 0 are later) })
  seat_of (b ∷ bs) (suc s) at is some are le earlier later =
      let last : s ≡ at = omega arith in
      subst (IsSeat key (b ∷ bs)) last (record {
        in_range = omega arith;
        below = below_all (b ∷ bs) s [] are.in_order (omega arith) (earlier s [] (omega arith));
        above = above_from (b ∷ bs) (suc s) are later;
      })

module _ (key : List ℕ) (bs : List (List Entry)) (at : ℕ) (d : List Entry) (seat : IsSeat key bs at) where
  abbrev front : List Entry
  front = joined (take at bs)

  abbrev block : List Entry
  block = get_or bs at d

  abbrev back : List Entry
  back = joined (drop (suc at) bs)

  -- the key is looked up in its block
  pub entry_at-seat : entry_at key (joined bs) ≡ entry_at key block
  entry_at-seat =
      ap (entry_at key) (joined-around bs at d seat.in_range) ∙ entry_at-behind key front (block ++ back) seat.below ∙ entry_at-before key block back seat.above

  -- an entry with the key is put there
  pub put-seat : (e : Entry) → e.key ≡ key → put e (joined bs) ≡ front ++ (put e block ++ back)
  put-seat e is =
      ap (put e) (joined-around bs at d seat.in_range)
      ∙ put-behind e front (block ++ back) (subst (λ k. list_all (is_below k) front ≡ true) (sym is) seat.below)
      ∙ ap (λ es. front ++ es) (put-before e block back (subst (λ k. list_all (is_above k) back ≡ true) (sym is) seat.above))

  -- and it is taken out there
  pub without-seat : without key (joined bs) ≡ front ++ (without key block ++ back)
  without-seat =
      ap (without key) (joined-around bs at d seat.in_range) ∙ without-behind key front (block ++ back) seat.below
      ∙ ap (λ es. front ++ es) (without-before key block back seat.above)

  length-joined : length (joined bs) ≡ length front + (length block + length back)
  length-joined = ap length (joined-around bs at d seat.in_range) ∙ length-append front (block ++ back) ∙ ap (λ n. length front + n) (length-append block back)

  module _ (new : List Entry) where
    joined-set : joined (set bs at new) ≡ front ++ (new ++ back)
    joined-set = ap joined (set_parts bs at new seat.in_range) ∙ joined-parts (take at bs) new (drop (suc at) bs)

    -- a block that took the entry
    pub put-set : (e : Entry) → e.key ≡ key → new ≡ put e block → joined (set bs at new) ≡ put e (joined bs)
    put-set e same is = joined-set ∙ ap (λ es. front ++ (es ++ back)) is ∙ sym (put-seat e same)

    -- a block without the key's entry
    pub without-set : new ≡ without key block → joined (set bs at new) ≡ without key (joined bs)
    without-set is = joined-set ∙ ap (λ es. front ++ (es ++ back)) is ∙ sym without-seat

    -- another block makes as many more, or fewer
    pub length-set : length (joined (set bs at new)) + length block ≡ length (joined bs) + length new
    length-set =
        let after : length (joined (set bs at new)) ≡ length front + (length new + length back) = ap length joined-set ∙ length-append front (new ++ back) ∙ ap (λ n. length front + n) (length-append new back) in
        let before = length-joined in
        omega (arith, after, before)

    -- none is empty where the new one isn't
    pub filled-set : list_all is_filled bs ≡ true → is_filled new ≡ true → list_all is_filled (set bs at new) ≡ true
    filled-set filled is =
        rw (set_parts bs at new seat.in_range) (all-both is_filled (take at bs) (new ∷ drop (suc at) bs) (all_of_take is_filled bs at filled) (and_from _ _ is (all_of_drop is_filled bs (suc at) filled)))

    -- the block taken out
    removed : remove (set bs at new) at ≡ take at bs ++ drop (suc at) bs
    removed = λ i. take-set bs at new i ++ drop-set-lt (suc at) bs at new (omega arith) i

    joined-removed : joined (remove (set bs at new) at) ≡ front ++ back
    joined-removed = ap joined removed ∙ flat_map-append (λ c. c) (take at bs) (drop (suc at) bs)

    -- where nothing is left in it, the others have all that is left
    pub without-removed : new ≡ without key block → new ≡ [] → joined (remove (set bs at new) at) ≡ without key (joined bs)
    without-removed is none = joined-removed ∙ ap (λ es. front ++ (es ++ back)) (sym none ∙ is) ∙ sym without-seat

    pub length-removed : length (joined (remove (set bs at new) at)) + length block ≡ length (joined bs)
    length-removed =
        let after : length (joined (remove (set bs at new) at)) ≡ length front + length back = ap length joined-removed ∙ length-append front back in
        let before = length-joined in
        omega (arith, after, before)

    pub filled-removed : list_all is_filled bs ≡ true → list_all is_filled (remove (set bs at new) at) ≡ true
    filled-removed filled = rw removed (all-both is_filled (take at bs) (drop (suc at) bs) (all_of_take is_filled bs at filled) (all_of_drop is_filled bs (suc at) filled))

  module _ (e : Entry) (cs : List (List Entry)) (two : IsDivided e at bs cs) where
    joined-two : joined cs ≡ front ++ ((two.lower ++ two.upper) ++ back)
    joined-two =
        ap joined two.parts ∙ joined-parts (take at bs) two.lower (two.upper ∷ drop (suc at) bs) ∙ ap (λ es. front ++ es) (sym (append_assoc two.lower two.upper back))

    -- a block that was divided
    pub put-divided : e.key ≡ key → joined cs ≡ put e (joined bs)
    put-divided same = joined-two ∙ ap (λ es. front ++ (es ++ back)) (two.content d) ∙ sym (put-seat e same)

    pub length-divided : length (joined cs) ≡ length (joined bs) + 1
    length-divided =
        let after : length (joined cs) ≡ length front + ((length two.lower + length two.upper) + length back) =
        ap length joined-two ∙ length-append front ((two.lower ++ two.upper) ++ back)
        ∙ ap (λ n. length front + n) (length-append (two.lower ++ two.upper) back ∙ ap (λ n. n + length back) (length-append two.lower two.upper)) in
        let before = length-joined in
        let more = two.len d in
        omega (arith, after, before, more)

    pub filled-divided : list_all is_filled bs ≡ true → list_all is_filled cs ≡ true
    filled-divided filled =
        rw two.parts (all-both is_filled (take at bs) (two.lower ∷ two.upper ∷ drop (suc at) bs) (all_of_take is_filled bs at filled) (and_from _ _ two.lower_filled (and_from _ _ two.upper_filled (all_of_drop is_filled bs (suc at) filled))))

-- an insert behind a block that was set
pub insert-set : (bs : List (List Entry)) (at : ℕ) (low up : List Entry) → at < length bs → insert (set bs at low) (suc at) up ≡ take at bs ++ low ∷ up ∷ drop (suc at) bs
insert-set [] at low up lt = absurd (omega arith)
insert-set (b ∷ bs) zero low up lt = refl
insert-set (b ∷ bs) (suc at) low up lt = ap (λ cs. b ∷ cs) (insert-set bs at low up (omega arith))

-- no items
pub none_of : (es : List Entry) → is_empty es ≡ true → es ≡ []
none_of [] is = refl
none_of (e ∷ es) is = absurd (cc is)

-- what was set is there
pub set_here : (bs : List (List Entry)) (at : ℕ) (new d : List Entry) → at < length bs → get_or (set bs at new) at d ≡ new
set_here [] at new d lt = absurd (omega arith)
set_here (b ∷ bs) zero new d lt = refl
set_here (b ∷ bs) (suc at) new d lt = set_here bs at new d (omega arith)
