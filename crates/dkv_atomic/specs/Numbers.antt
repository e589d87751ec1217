-- What SUM, MAX and MIN make of two numbers.
use Rattle.std.specs.Prelude.{ℕ, ◌+◌, ◌%◌, ◌^◌, min, max, if◌then◌else◌}
use Rattle.dkv_base.specs.declared.types.Mutation.{Mutation}
use Rattle.dkv_base.specs.Limits.{is_kind}
use Rattle.dkv_base.specs.declared.kinds.TheConstants.{SUM, MAX}

-- the sum modulo 2^64, the greater or the smaller
abbrev pub number_of : Mutation → ℕ → ℕ → ℕ
number_of m a b = if is_kind SUM m then (a + b) % 2 ^ 64 else if is_kind MAX m then max a b else min a b
