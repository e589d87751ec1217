-- The numbers of rows.
use Rattle.std.proofs.Common.{◌≡◌, ℕ, ◌+◌, ◌<◌, true, false, not, ◌==◌, nat_lt, List, [], ◌∷◌, ◌++◌, refl, ap, arith}
use Rattle.std.specs.List.{list_any}
use Rattle.std.proofs.lemmas.Bool.{and_parts, and_from, or_from, ltb-true, lt-ltb, ne_eqb}
use Rattle.dkv_hub.specs.Rows.{WatchRow, is_free, are_below}

-- a number above those of all rows is no row's
none_has : (n : ℕ) (rows : List WatchRow) → are_below n rows ≡ true → list_any (λ r. r.number == n) rows ≡ false
none_has n [] below = refl
none_has n (r ∷ rows) below =
    let parts = and_parts (nat_lt r.number n) (are_below n rows) below in
    let less : r.number < n = ltb-true r.number n parts.0 in
    or_from _ _ (ne_eqb r.number n (λ same. omega arith)) (none_has n rows parts.1)

pub free : (n : ℕ) (rows : List WatchRow) → are_below n rows ≡ true → is_free n rows ≡ true
free n rows below = ap not (none_has n rows below)

-- the next number is above those of all rows, with one more that has this number
pub below_next : (n : ℕ) (r : WatchRow) (rows : List WatchRow) → r.number ≡ n → are_below n rows ≡ true → are_below (n + 1) (rows ++ r ∷ []) ≡ true
below_next n r [] own below = and_from _ _ (lt-ltb r.number (n + 1) (omega arith)) refl
below_next n r (s ∷ rows) own below =
    let parts = and_parts (nat_lt s.number n) (are_below n rows) below in
    let less : s.number < n = ltb-true s.number n parts.0 in
    and_from _ _ (lt-ltb s.number (n + 1) (omega arith)) (below_next n r rows own parts.1)
