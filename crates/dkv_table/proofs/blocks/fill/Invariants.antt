use Rattle.std.proofs.Common.{◌≤◌, ◌-◌, IsTrue, vec_len}
use Rattle.std.specs.List.{list_all}
use Rattle.dkv_base.specs.State.{is_empty}
use Rattle.dkv_table.proofs.blocks.fill.Given as goal

-- those that are ready stay, and all are empty
abbrev pub invariant-loop-alloc : goal.invariant-loop-alloc
invariant-loop-alloc l = (vec_len l.initial.ready ≤ vec_len l.ready) × IsTrue (list_all is_empty l.ready.items)

abbrev pub decreases-loop-alloc : goal.decreases-loop-alloc
decreases-loop-alloc l = l.n - vec_len l.ready
