-- Sums of a request, which stop at the last value of a u64.
--     capped n      n, or that last value
--     asked_entries ranges      how many entries the ranges of a read ask for together
use Rattle.std.specs.Prelude.{ℕ, ◌-◌, ◌^◌, min, List, sum_by}
use Rattle.dkv_base.specs.declared.types.ReadRange.{ReadRange}
use Rattle.dkv_base.specs.Limits.{from_zero}

-- the number, but at most the last value of a u64
abbrev pub capped : ℕ → ℕ
capped n = min n (2 ^ 64 - 1)

-- the sum of the ranges' limits, of which those below zero count as zero
abbrev pub asked_entries : List ReadRange → ℕ
asked_entries ranges = sum_by (λ r. from_zero r.limit) ranges
