-- Numbers that follow from one another, by a linear congruence modulo 2^64 (Knuth, The Art of Computer Programming, 3.2.1).
--     next x, number_after k x      the number that follows x, and the k-th that does
--     numbers_after k x      the k numbers that follow x, in bytes
use Rattle.std.specs.Prelude.{ℕ, zero, suc, ◌+◌, ◌*◌, ◌%◌, ◌^◌, List, [], ◌++◌}
use Rattle.std.specs.Int.{w64, to_le_bytes}
use Rattle.dkv_generate.specs.declared.sizes.TheConstants.{MULTIPLIER, INCREMENT}

-- the number that follows
abbrev pub next : ℕ → ℕ
next x = (x * MULTIPLIER + INCREMENT) % 2 ^ 64

-- the k-th that does
unfoldable pub number_after : ℕ → ℕ → ℕ
number_after zero x = x
number_after (suc k) x = next (number_after k x)

-- the first to the k-th of them, each in eight bytes, least first
unfoldable pub numbers_after : ℕ → ℕ → List ℕ
numbers_after zero x = []
numbers_after (suc k) x = numbers_after k x ++ to_le_bytes w64 (number_after (suc k) x)
