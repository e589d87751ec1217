-- Entries in key order, in parts: how the parts stand to each other, and which part a look-up, a put and a removal change.
use Rattle.std.proofs.Common.{◌≡◌, ℕ, suc, ◌+◌, ◌<◌, ◌≤◌, eqb, Bool, true, false, cond, not, ◌&&◌, List, [], ◌∷◌, ◌++◌, length, take, drop, get_or, Option, Some, None, refl, sym, ap, ◌∙◌, subst, arith}
use Rattle.std.specs.Prelude.{bytes_eq, is_some, if◌then◌else◌}
use Rattle.std.specs.List.{list_all}
use Rattle.std.specs.Ordering.{is_lt, is_le, is_eq, match_ordering}
use Rattle.std.specs.declared.cmp.Ordering.{Ordering}
use Rattle.std.specs.declared.cmp.Ordering.TheVariants.{Less, Equal, Greater}
use Rattle.std.proofs.Math.Seq.{drop-cons}
use Rattle.std.proofs.lemmas.Bool.{and_parts, and_from, eqb-true, eqb-false}
use Rattle.std.proofs.lemmas.List.{take_all}
use Rattle.std.proofs.lemmas.List.Elements.{filter-append}
use Rattle.std.proofs.lemmas.List.Folds.{list_all-append, list_all_at}
use Rattle.dkv_base.specs.declared.types.Entry.{Entry}
use Rattle.dkv_base.specs.Ordered.{found}
use Rattle.dkv_base.specs.State.{key_cmp, entry_cmp, entry_at, put, without, is_in_key_order}
use Rattle.dkv_base.proofs.RankedLists as ranked
use Rattle.dkv_base.proofs.Risings.{rising-filter}
use Rattle.dkv_table.specs.Places.{is_below, is_above, is_from, marker, IsStart}
use Rattle.dkv_table.specs.Blocks.{is_filled}
use Rattle.dkv_table.proofs.Keys.{entry_total, entry_at-found, without-left_out, le-turned}
use Rattle.dkv_table.proofs.Lists.{fails}

-- what holds of all holds of the first
pub all-front : {X : Type 0} (p : X → Bool) (xs ys : List X) → list_all p (xs ++ ys) ≡ true → list_all p xs ≡ true
all-front p xs ys all = (and_parts _ _ (sym (list_all-append p xs ys) ∙ all)).0

-- and of the last
pub all-back : {X : Type 0} (p : X → Bool) (xs ys : List X) → list_all p (xs ++ ys) ≡ true → list_all p ys ≡ true
all-back p xs ys all = (and_parts _ _ (sym (list_all-append p xs ys) ∙ all)).1

-- and of all where it holds of both
pub all-both : {X : Type 0} (p : X → Bool) (xs ys : List X) → list_all p xs ≡ true → list_all p ys ≡ true → list_all p (xs ++ ys) ≡ true
all-both p xs ys front back = list_all-append p xs ys ∙ and_from _ _ front back

-- the first entries are in key order
pub in_order-front : (xs ys : List Entry) → is_in_key_order (xs ++ ys) ≡ true → is_in_key_order xs ≡ true
in_order-front [] ys order = refl
in_order-front (x ∷ xs) ys order = and_from _ _ (all-front _ xs ys (and_parts _ _ order).0) (in_order-front xs ys (and_parts _ _ order).1)

-- and the last
pub in_order-back : (xs ys : List Entry) → is_in_key_order (xs ++ ys) ≡ true → is_in_key_order ys ≡ true
in_order-back [] ys order = order
in_order-back (x ∷ xs) ys order = in_order-back xs ys (and_parts _ _ order).1

-- what stands before an entry is below it
pub before : (xs : List Entry) (y : Entry) (zs : List Entry) → is_in_key_order (xs ++ y ∷ zs) ≡ true → list_all (is_below y.key) xs ≡ true
before [] y zs order = refl
before (x ∷ xs) y zs order = and_from _ _ (and_parts _ _ (all-back _ xs (y ∷ zs) (and_parts _ _ order).0)).0 (before xs y zs (and_parts _ _ order).1)

-- a look-up passes by what is below
pub entry_at-behind : (key : List ℕ) (xs ys : List Entry) → list_all (is_below key) xs ≡ true → entry_at key (xs ++ ys) ≡ entry_at key ys
entry_at-behind key xs ys below = entry_at-found key (xs ++ ys) ∙ ranked.found-below entry_total (marker key) xs ys below ∙ sym (entry_at-found key ys)

found-before : (q : Entry) (xs ys : List Entry) → list_all (is_above q.key) ys ≡ true → found entry_cmp q (xs ++ ys) ≡ found entry_cmp q xs
found-before q [] ys above = ranked.found-above entry_total q ys above
found-before q (x ∷ xs) ys above = ap (cond (is_eq (entry_cmp q x)) (Some x)) (found-before q xs ys above)

-- and looks at nothing that is above
pub entry_at-before : (key : List ℕ) (xs ys : List Entry) → list_all (is_above key) ys ≡ true → entry_at key (xs ++ ys) ≡ entry_at key xs
entry_at-before key xs ys above = entry_at-found key (xs ++ ys) ∙ found-before (marker key) xs ys above ∙ sym (entry_at-found key xs)

-- an entry is put behind what is below
pub put-behind : (e : Entry) (xs ys : List Entry) → list_all (is_below e.key) xs ≡ true → put e (xs ++ ys) ≡ xs ++ put e ys
put-behind e xs ys below = ranked.put_in-below entry_total e xs ys below

-- and before what is above
pub put-before : (e : Entry) (xs ys : List Entry) → list_all (is_above e.key) ys ≡ true → put e (xs ++ ys) ≡ put e xs ++ ys
put-before e [] ys above = ranked.put_in-above entry_total e ys above
put-before e (x ∷ xs) ys above =
    elim (entry_cmp e x) as (λ r. match_ordering r (e ∷ x ∷ (xs ++ ys)) (e ∷ (xs ++ ys)) (x ∷ put e (xs ++ ys)) ≡ match_ordering r (e ∷ x ∷ xs) (e ∷ xs) (x ∷ put e xs) ++ ys) [
      | Less ↦ refl
      | Equal ↦ refl
      | Greater ↦ ap (λ zs. x ∷ zs) (put-before e xs ys above)
    ]

-- a key is taken out behind what is below
pub without-behind : (key : List ℕ) (xs ys : List Entry) → list_all (is_below key) xs ≡ true → without key (xs ++ ys) ≡ xs ++ without key ys
without-behind key xs ys below =
    without-left_out key (xs ++ ys) ∙ ranked.left_out-below entry_total (marker key) xs ys below ∙ ap (λ zs. xs ++ zs) (sym (without-left_out key ys))

-- and before what is above
pub without-before : (key : List ℕ) (xs ys : List Entry) → list_all (is_above key) ys ≡ true → without key (xs ++ ys) ≡ without key xs ++ ys
without-before key xs ys above =
    filter-append (λ e. not (bytes_eq key e.key)) xs ys
    ∙ ap (λ zs. without key xs ++ zs) (without-left_out key ys ∙ ranked.left_out-above entry_total (marker key) ys above)

-- what a removal leaves is in key order
pub in_order-without : (key : List ℕ) (es : List Entry) → is_in_key_order es ≡ true → is_in_key_order (without key es) ≡ true
in_order-without key es order = rising-filter entry_cmp (λ e. not (bytes_eq key e.key)) es order

higher : (key : List ℕ) (x : Entry) (ys : List Entry) (o : Ordering) → key_cmp key x.key ≡ o → is_le o ≡ true → list_all (is_above x.key) ys ≡ true → list_all (is_above key) ys ≡ true
higher key x ys Less e le all = ranked.all_above-lt entry_total (marker key) x ys (ap is_lt e) all
higher key x ys Equal e le all = ranked.all_above-eq entry_total (marker key) x ys e all
higher key x ys Greater e le all = absurd (cc le)

-- where not all of the first are below a key, the rest is above it
pub above_rest : (key : List ℕ) (xs ys : List Entry) → is_in_key_order (xs ++ ys) ≡ true → list_all (is_below key) xs ≡ false → list_all (is_above key) ys ≡ true
above_rest key [] ys order apart = absurd (cc apart)
above_rest key (x ∷ xs) ys order apart =
    elim (is_below key x) as (λ b. is_below key x ≡ b → (b && list_all (is_below key) xs) ≡ false → list_all (is_above key) ys ≡ true) [
      | true ↦ λ is rest. above_rest key xs ys (and_parts _ _ order).1 rest
      | false ↦ λ is rest. higher key x ys (key_cmp key x.key) refl (le-turned x.key key ∙ ap not is) (all-back (is_above x.key) xs ys (and_parts _ _ order).0)
    ] refl apart

-- where the entries begin that aren't below a key tells whether all are below it
pub below-start : (key : List ℕ) (es : List Entry) (at : ℕ) → IsStart key es at → eqb at (length es) ≡ list_all (is_below key) es
below-start key es at start =
    elim (eqb at (length es)) as (λ b. eqb at (length es) ≡ b → b ≡ list_all (is_below key) es) [
      | true ↦ λ is.
          let whole : take at es ≡ es = take_all at es (let same = eqb-true at (length es) is in omega arith) in
          sym (subst (λ xs. list_all (is_below key) xs ≡ true) whole start.below)
      | false ↦ λ is.
          let lt : at < length es = below_length at (length es) start.in_range is in
          let here : list_all (is_from key) (get_or es at (marker key) ∷ drop (suc at) es) ≡ true = subst (λ xs. list_all (is_from key) xs ≡ true) (drop-cons es at (marker key) lt) start.onward in
          sym (list_all_at (is_below key) es at (marker key) lt (fails _ (sym (le-turned _ key) ∙ (and_parts _ _ here).0)))
    ] refl
  where
    below_length : (at n : ℕ) → at ≤ n → eqb at n ≡ false → at < n
    below_length at n le apart = let no : at ≡ n → ⊥ = eqb-false at n apart in omega arith

-- a put leaves an entry
pub filled-put : (e : Entry) (es : List Entry) → is_filled (put e es) ≡ true
filled-put e [] = refl
filled-put e (x ∷ xs) = elim (entry_cmp e x) as (λ r. is_filled (match_ordering r (e ∷ x ∷ xs) (e ∷ xs) (x ∷ put e xs)) ≡ true) [
  | Less ↦ refl
  | Equal ↦ refl
  | Greater ↦ refl
]

-- a put into no more than may be makes one more at most, and none where the block is full
pub put_fits : (r : Option Entry) (n m : ℕ) → m ≡ n + (if is_some r then 0 else 1) → n ≤ 128 → (r ≡ None → n < 128) → m ≤ 128
put_fits None n m is le lt = let less = lt refl in omega arith
put_fits (Some e) n m is le lt = omega arith

-- where nothing was there, one more is
pub one_more : (r : Option Entry) (n m : ℕ) → r ≡ None → m ≡ n + (if is_some r then 0 else 1) → m ≡ n + 1
one_more None n m none is = is
one_more (Some e) n m none is = absurd (cc none)
