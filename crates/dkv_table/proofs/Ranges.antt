-- The entries of a range stand between its two places.
use Rattle.std.proofs.Common.{◌≡◌, ℕ, ◌+◌, ◌-◌, ◌≤◌, Bool, true, false, not, ◌&&◌, List, [], take, drop, filter, sym, ap, ◌∙◌, subst, arith}
use Rattle.std.specs.List.{list_all, slice_range}
use Rattle.std.specs.Ordering.{is_lt}
use Rattle.std.proofs.lemmas.List.{drop-take, drop-drop}
use Rattle.dkv_base.specs.declared.types.Entry.{Entry}
use Rattle.dkv_base.specs.State.{key_cmp, is_between}
use Rattle.dkv_table.specs.Places.{is_below, is_from, IsStart}
use Rattle.dkv_table.proofs.Keys.{le-turned}
use Rattle.dkv_base.proofs.Lists.{all_weaker}
use Rattle.dkv_table.proofs.Lists.{all_of_drop, filter-drop, filter-take, filter-none, filter-and}

module _ (start end : List ℕ) (es : List Entry) (from to : ℕ) (begins : IsStart start es from) (ends : IsStart end es to) where
  -- the entry's key is in the range
  abbrev is_within : Entry → Bool
  is_within e = is_between start end e.key

  -- from the first place on, the end alone decides
  onward : filter is_within es ≡ filter (is_below end) (drop from es)
  onward =
      filter-drop is_within es from (all_weaker (is_below start) (λ e. not (is_within e)) (λ e h. (λ i. not (out e h i && is_lt (key_cmp e.key end)))) _ begins.below)
      ∙ filter-and (is_from start) (is_below end) (drop from es) begins.onward
    where
      out : (e : Entry) → is_below start e ≡ true → is_from start e ≡ false
      out e h = le-turned e.key start ∙ ap not h

  -- from the last place on none is below the end
  past : (n : ℕ) → list_all (λ e. not (is_below end e)) (drop n (drop to es)) ≡ true
  past n = all_of_drop _ _ n (all_weaker (is_from end) (λ e. not (is_below end e)) (λ e h. sym (le-turned e.key end) ∙ h) _ ends.onward)

  -- so those in the range stand from the first place to the last
  pub between-range : from ≤ to → filter is_within es ≡ slice_range es from to
  between-range le =
      let reaches : from + (to - from) ≡ to = omega arith in
      let all : list_all (is_below end) (take (to - from) (drop from es)) ≡ true =
      subst (λ xs. list_all (is_below end) xs ≡ true) (drop-take from (to - from) es) (all_of_drop _ _ from (rw reaches ends.below)) in
      let none : list_all (λ e. not (is_below end e)) (drop (to - from) (drop from es)) ≡ true = rw (drop-drop (to - from) from es, reaches) (past 0) in
      onward ∙ filter-take (is_below end) (drop from es) (to - from) all none

  -- and there are none where the places don't rise
  pub between-none : to ≤ from → filter is_within es ≡ []
  between-none le =
      let reaches : to + (from - to) ≡ from = omega arith in
      onward ∙ filter-none (is_below end) (drop from es) (rw (← reaches, ← drop-drop (from - to) to es) (past (from - to)))
