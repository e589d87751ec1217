use Rattle.std.proofs.Common.{◌≡◌, ◌++◌}
use Rattle.std.specs.Vec.Iter.{into_iter_items}
use Rattle.dkv_table.specs.Runs.{answers, content_after}
use Rattle.dkv_table.proofs.runs.run_calls.Given as goal

-- the calls so far were answered and made, and the others are still to come
abbrev pub invariant-loop-call : goal.invariant-loop-call
invariant-loop-call g l =
    (goal.iterator-loop-call g).can_next l.call-iterator
    × (goal.iterator-loop-call g).is_finite l.call-iterator
    × (l.given ≡ answers l.yielded (g.T.Table.content l.initial.table))
    × (g.T.Table.content l.table ≡ content_after l.yielded (g.T.Table.content l.initial.table))
    × (l.yielded ++ into_iter_items l.call-iterator ≡ l.fn.calls.items)
