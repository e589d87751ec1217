use Rattle.std.proofs.Common.{◌≤◌, ◌-◌, vec_len}
use Rattle.std.specs.Vec.{vec_capacity}
use Rattle.dkv_index.proofs.pool.fill_up.Given as goal

-- no node and no place goes, and there are not too many
abbrev pub invariant-loop-alloc : goal.invariant-loop-alloc
invariant-loop-alloc g l =
    (vec_len l.initial.nodes ≤ vec_len l.nodes) × (vec_capacity l.initial.nodes ≤ vec_capacity l.nodes) × (vec_len l.initial.nodes ≤ l.n → vec_len l.nodes ≤ l.n)

abbrev pub decreases-loop-alloc : goal.decreases-loop-alloc
decreases-loop-alloc g l = l.n - vec_len l.nodes
