use Rattle.std.proofs.Common.{◌≡◌, ◌+◌, ◌++◌, reverse, vec_len}
use Rattle.std.specs.Vec.{vec_capacity}
use Rattle.dkv_table.proofs.block.move_half.Given as goal

-- the last of the lower ones stand in the upper, last first
abbrev pub invariant-loop : goal.invariant-loop
invariant-loop l =
    (l.lower.items ++ reverse l.upper.items ≡ l.initial.lower.items)
    × (vec_len l.lower + l.counter ≡ 128)
    × (vec_len l.upper ≡ l.counter)
    × (vec_capacity l.lower ≡ vec_capacity l.initial.lower)
    × (vec_capacity l.upper ≡ vec_capacity l.initial.upper)
