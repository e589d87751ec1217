-- The keys of a workload are short.
use Rattle.std.proofs.Common.{ℕ, ◌+◌, ◌/◌, ◌%◌, ◌≤◌, Bool, true, false, cond, List, [], ◌∷◌, ◌++◌, length, length-append, arith}
use Rattle.std.specs.Prelude.{nat_lt, nat_le, ◌==◌}
use Rattle.dkv_key.specs.Parts.{count_spelling}
use Rattle.dkv_generate.specs.Keys.{magnitude, item_key, sum_key}

either : (b : Bool) (xs ys : List ℕ) (n : ℕ) → length xs ≤ n → length ys ≤ n → length (cond b xs ys) ≤ n
either true xs ys n x y = x
either false xs ys n x y = y

magnitude_size : (n : ℕ) → length (magnitude n) ≤ 2
magnitude_size n = either (n == 0) [] (cond (nat_lt n 256) (n ∷ []) (n / 256 ∷ n % 256 ∷ [])) 2 (omega arith)
    (either (nat_lt n 256) (n ∷ []) (n / 256 ∷ n % 256 ∷ []) 2 (omega arith) (omega arith))

count_size : (n : ℕ) → length (count_spelling false n) ≤ 2
count_size n = either (nat_le n 8) ((20 + n) ∷ []) (29 ∷ n ∷ []) 2 (omega arith) (omega arith)

-- the key of an item
pub item_key_size : (g : ℕ) → length (item_key g) ≤ 10
item_key_size g =
    let m = magnitude (g % 1000) in
    let count = count_spelling false (length m) in
    omega (arith, magnitude_size (g % 1000), count_size (length m), length-append (count ++ m) [], length-append count m)

-- the key of a sum
pub sum_key_size : (g : ℕ) → length (sum_key g) ≤ 10
sum_key_size g =
    let m = magnitude (g % 10) in
    let count = count_spelling false (length m) in
    omega (arith, magnitude_size (g % 10), count_size (length m), length-append (count ++ m) [], length-append count m)
