use Rattle.std.proofs.Common.{◌≡◌}
use Rattle.std.specs.Vec.Iter.{into_iter_items}
use Rattle.dkv_core.specs.Cores.{put_all}
use Rattle.dkv_core.proofs.entries.Entries.of.Given as goal

-- what is left makes all of the entries of those that were put
abbrev pub invariant-loop-entry : goal.invariant-loop-entry
invariant-loop-entry l =
    goal.iterator-loop-entry.can_next l.entry-iterator
    × goal.iterator-loop-entry.is_finite l.entry-iterator
    × (put_all (into_iter_items l.entry-iterator) l.made.entries ≡ l.fn.entries)
