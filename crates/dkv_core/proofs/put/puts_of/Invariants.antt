use Rattle.std.proofs.Common.{◌≡◌, ◌++◌}
use Rattle.std.specs.Vec.Iter.{into_iter_items}
use Rattle.dkv_core.proofs.put.puts_of.Given as goal

-- the entries so far were taken over, and the others are still to come
abbrev pub invariant-loop-entry : goal.invariant-loop-entry
invariant-loop-entry l =
    goal.iterator-loop-entry.can_next l.entry-iterator
    × goal.iterator-loop-entry.is_finite l.entry-iterator
    × (l.puts ≡ l.yielded)
    × (l.yielded ++ into_iter_items l.entry-iterator ≡ l.fn.entries)
