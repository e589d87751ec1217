-- Lists in rising order, by a comparison: each the one way to write a finite map or set.
--     found cmp x ys, above cmp x ys      the item that ranks as x does, and the first that ranks above it
--     put_in cmp x ys, left_out cmp x ys      the items with x in its place, and without what ranks as x does
--     is_rising cmp ys      whether each item ranks below those after it
use Rattle.std.specs.Prelude.{Bool, true, not, ◌&&◌, List, [], ◌∷◌, Option, filter, find}
use Rattle.std.specs.List.{list_all}
use Rattle.std.specs.Ordering.{is_lt, is_eq, match_ordering}
use Rattle.std.specs.declared.cmp.Ordering.{Ordering}

-- the item that ranks as x does
abbrev pub found : {T : Type 0} → (T → T → Ordering) → T → List T → Option T
found cmp x ys = find (λ y. is_eq (cmp x y)) ys

-- the first item that ranks above x
abbrev pub above : {T : Type 0} → (T → T → Ordering) → T → List T → Option T
above cmp x ys = find (λ y. is_lt (cmp x y)) ys

-- the items with x in its place, instead of the one that ranks as it does
abbrev pub put_in : {T : Type 0} → (T → T → Ordering) → T → List T → List T
put_in cmp x [] = x ∷ []
put_in cmp x (y ∷ ys) = match_ordering (cmp x y) (x ∷ y ∷ ys) (x ∷ ys) (y ∷ put_in cmp x ys)

-- the items without the one that ranks as x does
abbrev pub left_out : {T : Type 0} → (T → T → Ordering) → T → List T → List T
left_out cmp x ys = filter (λ y. not (is_eq (cmp x y))) ys

-- each item ranks below those after it
abbrev pub is_rising : {T : Type 0} → (T → T → Ordering) → List T → Bool
is_rising cmp [] = true
is_rising cmp (y ∷ ys) = list_all (λ z. is_lt (cmp y z)) ys && is_rising cmp ys
