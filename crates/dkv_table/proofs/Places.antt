-- What a search by halves ends at.
use Rattle.std.proofs.Common.{◌≡◌, ℕ, zero, suc, ◌<◌, true, List, [], ◌∷◌, length, take, drop, get_or, Result, Ok, Err, IfOk, IfErr, refl, sym, ap, subst, arith, add-one}
use Rattle.std.specs.List.{list_all, HoldsAt}
use Rattle.std.specs.List.Sorted.{IsSearchInRange, IsBinarySearchResult, IsNonDecreasingBy, IsSortedBy}
use Rattle.std.specs.Ordering.{is_lt, is_le, ordering_index}
use Rattle.std.specs.Cmp.Lexicographic.{nat_list_cmp_total}
use Rattle.std.proofs.lemmas.Bool.{and_parts, and_from}
use Rattle.std.proofs.lemmas.List.Sorted.{searchable_from_sorted}
use Rattle.dkv_base.specs.declared.types.Entry.{Entry}
use Rattle.dkv_base.specs.State.{key_cmp, is_in_key_order}
use Rattle.dkv_table.specs.Places.{is_below, is_above, is_from, IsAt, IsGap, IsStart}
use Rattle.dkv_base.proofs.Lists.{all_at, all_weaker}
use Rattle.dkv_base.proofs.Ranks.{greater, less}
use Rattle.dkv_table.proofs.Keys.{same_key, le-lt, itself}
use Rattle.dkv_table.proofs.Lists.{all-take, all-drop}

-- no entry's key is below that of the one before it
sorted : (es : List Entry) → is_in_key_order es ≡ true → IsSortedBy (λ a b. is_lt (key_cmp a.key b.key)) es
sorted es order k d low lt = rw add-one (ap is_lt (greater nat_list_cmp_total (get_or es k d).key (get_or es (suc k) d).key (rises es k d order (omega arith))))
  where
    rises : (es : List Entry) (k : ℕ) (d : Entry) → is_in_key_order es ≡ true → suc k < length es → is_lt (key_cmp (get_or es k d).key (get_or es (suc k) d).key) ≡ true
    rises [] k d order lt = absurd (omega arith)
    rises (e ∷ es) zero d order lt = all_at _ es 0 d (and_parts _ _ order).0 (omega arith)
    rises (e ∷ es) (suc k) d order lt = rises es k d (and_parts _ _ order).1 (omega arith)

-- the comparisons with a key rise along the entries, as a search by halves asks
comparisons_rise : (es : List Entry) (key : List ℕ) → is_in_key_order es ≡ true → IsNonDecreasingBy (λ e. ordering_index (key_cmp e.key key)) es
comparisons_rise es key order = searchable_from_sorted nat_list_cmp_total (λ (e : Entry). e.key) es key (sorted es order)

-- where an entry has the key, those before it are below, and those behind it above
pub at_place : (key : List ℕ) (es : List Entry) (at : ℕ) → is_in_key_order es ≡ true → at < length es → HoldsAt (λ e. e.key ≡ key) es at → IsAt key es at
at_place key es at order lt here = record { in_range = lt; below = below es at order lt here; here = here; above = above es at order lt here }
  where
    below : (es : List Entry) (at : ℕ) → is_in_key_order es ≡ true → at < length es → HoldsAt (λ e. e.key ≡ key) es at → list_all (is_below key) (take at es) ≡ true
    below [] at order lt here = absurd (omega arith)
    below (e ∷ es) zero order lt here = refl
    below (e ∷ es) (suc at) order lt here =
        and_from _ _ (subst (λ q. is_lt (key_cmp e.key q) ≡ true) (here e) (all_at _ es at e (and_parts _ _ order).0 (omega arith)))
        (below es at (and_parts _ _ order).1 (omega arith) here)

    above : (es : List Entry) (at : ℕ) → is_in_key_order es ≡ true → at < length es → HoldsAt (λ e. e.key ≡ key) es at → list_all (is_above key) (drop (suc at) es) ≡ true
    above [] at order lt here = absurd (omega arith)
    above (e ∷ es) zero order lt here = subst (λ q. list_all (is_above q) es ≡ true) (here e) (and_parts _ _ order).0
    above (e ∷ es) (suc at) order lt here = above es at (and_parts _ _ order).1 (omega arith) here

-- a search by halves ends at the key's entry, or where it would go
pub searched : (key : List ℕ) (es : List Entry) → is_in_key_order es ≡ true → (r : Result ℕ ℕ) → IsSearchInRange r (length es) → IsBinarySearchResult (λ e. key_cmp e.key key) es r
    → record { found : IfOk r (IsAt key es); absent : IfErr r (IsGap key es) }
searched key es order (Ok at) in_range equal = record { found = at_place key es at order in_range (λ d. same_key _ _ (equal d)); absent = tt }
searched key es order (Err at) in_range parted =
    let split = parted (comparisons_rise es key order) in
    record {
      found = tt;
      absent = record {
        in_range = in_range;
        below = all-take (is_below key) es at (λ k d lt. ap is_lt (split.0 k d (omega arith) lt));
        above = all-drop (is_above key) es at (λ k d le lt. less nat_list_cmp_total _ key (split.1 k d le lt));
      };
    }

-- either is where the entries begin whose keys aren't below
pub start-at : (key : List ℕ) (es : List Entry) (at : ℕ) → IsAt key es at → IsStart key es at
start-at key es at is = record { in_range = omega (arith, is.in_range); below = is.below; onward = onward es at is.in_range is.here is.above }
  where
    onward : (es : List Entry) (at : ℕ) → at < length es → HoldsAt (λ e. e.key ≡ key) es at → list_all (is_above key) (drop (suc at) es) ≡ true → list_all (is_from key) (drop at es) ≡ true
    onward [] at lt here above = absurd (omega arith)
    onward (e ∷ es) zero lt here above = and_from _ _ (ap is_le (itself key e.key (sym (here e)))) (all_weaker (is_above key) (is_from key) (λ f h. le-lt _ h) es above)
    onward (e ∷ es) (suc at) lt here above = onward es at (omega arith) here above

pub start-gap : (key : List ℕ) (es : List Entry) (at : ℕ) → IsGap key es at → IsStart key es at
start-gap key es at is = record { in_range = is.in_range; below = is.below; onward = all_weaker (is_above key) (is_from key) (λ e h. le-lt _ h) _ is.above }
