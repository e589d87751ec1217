-- The entries of a range stand in the blocks of its two keys and in those between them.
use Rattle.std.proofs.Common.{◌≡◌, ℕ, zero, suc, ◌+◌, ◌<◌, ◌≤◌, Bool, true, false, not, ◌&&◌, List, [], ◌∷◌, ◌++◌, length, take, drop, get_or, filter, refl, sym, ap, ◌∙◌, subst, arith}
use Rattle.std.specs.List.{list_all}
use Rattle.std.specs.Ordering.{is_lt, is_le}
use Rattle.std.specs.Cmp.Lexicographic.{nat_list_cmp_total}
use Rattle.std.proofs.lemmas.Bool.{and_parts, and_from}
use Rattle.std.proofs.lemmas.List.{append-nil, length-drop, get_or-drop, drop-drop, drop-take}
use Rattle.std.proofs.lemmas.List.Elements.{filter-append}
use Rattle.dkv_base.specs.declared.types.Entry.{Entry}
use Rattle.dkv_base.specs.State.{key_cmp, is_between}
use Rattle.dkv_base.proofs.Lists.{all_weaker}
use Rattle.dkv_base.proofs.Ranks.{greater}
use Rattle.dkv_table.specs.Places.{is_below, is_above}
use Rattle.dkv_table.specs.Blocks.{joined, IsSeat}
use Rattle.dkv_table.proofs.Keys.{le-turned, le-lt}
use Rattle.dkv_table.proofs.Lists.{filter-all, filter-none}
use Rattle.dkv_table.proofs.Parts.{all-front, all-back}
use Rattle.dkv_table.proofs.KeyBlocks.{joined-around}

nothing_and : (b : Bool) → not (b && false) ≡ true
nothing_and true = refl
nothing_and false = refl

-- what holds of all in some last blocks holds of all in fewer
all_later : (p : Entry → Bool) (bs : List (List Entry)) (m n : ℕ) → m ≤ n → list_all p (joined (drop m bs)) ≡ true → list_all p (joined (drop n bs)) ≡ true
all_later p bs zero zero le all = all
all_later p bs (suc m) zero le all = absurd (omega arith)
all_later p [] zero (suc n) le all = refl
all_later p (b ∷ bs) zero (suc n) le all = all_later p bs 0 n (omega arith) (all-back p b (joined bs) all)
all_later p [] (suc m) (suc n) le all = refl
all_later p (b ∷ bs) (suc m) (suc n) le all = all_later p bs m n (omega arith) all

module _ (start end : List ℕ) where
  -- the entry's key is in the range
  abbrev is_within : Entry → Bool
  is_within e = is_between start end e.key

  -- nothing below the start is in it
  none_below : (es : List Entry) → list_all (is_below start) es ≡ true → filter is_within es ≡ []
  none_below es below = filter-none is_within es (all_weaker (is_below start) (λ e. not (is_within e)) (λ e h. (λ i. not (out e h i && is_lt (key_cmp e.key end)))) es below)
    where
      out : (e : Entry) → is_below start e ≡ true → is_le (key_cmp start e.key) ≡ false
      out e h = le-turned e.key start ∙ ap not h

  -- nothing above the end
  none_above : (es : List Entry) → list_all (is_above end) es ≡ true → filter is_within es ≡ []
  none_above es above =
      filter-none is_within es (all_weaker (is_above end) (λ e. not (is_within e)) (λ e h. ap (λ b. not (is_le (key_cmp start e.key) && b)) (ap is_lt (greater nat_list_cmp_total end e.key h)) ∙ nothing_and _) es above)

  -- and all between them
  all_between : (es : List Entry) → list_all (is_above start) es ≡ true → list_all (is_below end) es ≡ true → filter is_within es ≡ es
  all_between es above below = filter-all is_within es (both es above below)
    where
      both : (es : List Entry) → list_all (is_above start) es ≡ true → list_all (is_below end) es ≡ true → list_all is_within es ≡ true
      both [] above below = refl
      both (e ∷ es) above below =
          let from = and_parts (is_above start e) (list_all (is_above start) es) above in
          let upto = and_parts (is_below end e) (list_all (is_below end) es) below in
          and_from (is_within e) (list_all is_within es) (and_from (is_le (key_cmp start e.key)) (is_lt (key_cmp e.key end)) (le-lt (key_cmp start e.key) from.0) upto.0) (both es from.1 upto.1)

  module _ (bs : List (List Entry)) (first last : ℕ) (begins : IsSeat start bs first) (ends : IsSeat end bs last) where
    abbrev from_first : List (List Entry)
    from_first = drop (suc first) bs

    from_first_on : (d : List Entry) → filter is_within (joined bs) ≡ filter is_within (get_or bs first d) ++ filter is_within (joined from_first)
    from_first_on d =
        ap (filter is_within) (joined-around bs first d begins.in_range)
        ∙ filter-append is_within (joined (take first bs)) (get_or bs first d ++ joined from_first)
        ∙ ap (λ es. es ++ filter is_within (get_or bs first d ++ joined from_first)) (none_below (joined (take first bs)) begins.below)
        ∙ filter-append is_within (get_or bs first d) (joined from_first)

    -- where the keys have one block, or the end's is before the start's
    pub within_one : (d : List Entry) → last ≤ first → filter is_within (joined bs) ≡ filter is_within (get_or bs first d)
    within_one d le =
        from_first_on d
        ∙ ap (λ es. filter is_within (get_or bs first d) ++ es) (none_above (joined from_first) (all_later (is_above end) bs (suc last) (suc first) (omega arith) ends.above))
        ∙ append-nil (filter is_within (get_or bs first d))

    -- where there may be others between them
    pub within_more : (d e : List Entry) (more : ℕ) → suc first + more ≡ last
        → filter is_within (joined bs) ≡ filter is_within (get_or bs first d) ++ (joined (take more from_first) ++ filter is_within (get_or bs last e))
    within_more d e more is =
        from_first_on d ∙ ap (λ es. filter is_within (get_or bs first d) ++ es) (
        ap (filter is_within) (joined-around from_first more e in_range)
        ∙ filter-append is_within (joined (take more from_first)) (get_or from_first more e ++ joined (drop (suc more) from_first))
        ∙ (λ i. all_between (joined (take more from_first)) above below i ++ rest i)
        )
      where
        in_range : more < length from_first
        in_range = omega (arith, length-drop (suc first) bs, ends.in_range)

        above : list_all (is_above start) (joined (take more from_first)) ≡ true
        above =
            all-front (is_above start) (joined (take more from_first)) (get_or from_first more e ++ joined (drop (suc more) from_first))
            (subst (λ es. list_all (is_above start) es ≡ true) (joined-around from_first more e in_range) begins.above)

        below : list_all (is_below end) (joined (take more from_first)) ≡ true
        below =
            subst (λ cs. list_all (is_below end) (joined cs) ≡ true) (ap (λ n. drop (suc first) (take n bs)) (sym is) ∙ drop-take (suc first) more bs)
            (all_later (is_below end) (take last bs) 0 (suc first) (omega arith) ends.below)

        rest : filter is_within (get_or from_first more e ++ joined (drop (suc more) from_first)) ≡ filter is_within (get_or bs last e)
        rest =
            filter-append is_within (get_or from_first more e) (joined (drop (suc more) from_first))
            ∙ ap (λ es. filter is_within (get_or from_first more e) ++ es) (none_above (joined (drop (suc more) from_first)) beyond)
            ∙ append-nil (filter is_within (get_or from_first more e))
            ∙ ap (filter is_within) (get_or-drop (suc first) bs more e ∙ ap (λ n. get_or bs n e) is)
          where
            beyond : list_all (is_above end) (joined (drop (suc more) from_first)) ≡ true
            beyond =
                let same : suc first + suc more ≡ suc last = omega arith in
                subst (λ cs. list_all (is_above end) (joined cs) ≡ true) (ap (λ n. drop n bs) (sym same) ∙ sym (drop-drop (suc more) (suc first) bs)) ends.above
