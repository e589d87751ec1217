use Rattle.std.proofs.Common.{◌≡◌, ◌≤◌, ◌++◌}
use Rattle.std.specs.Vec.Iter.{into_iter_items}
use Rattle.dkv_core.specs.Cores.{without_all}
use Rattle.dkv_core.proofs.entries.Entries.remove_all.Given as goal

-- the keys so far were taken out, and the others are still to come
abbrev pub invariant-loop-key : goal.invariant-loop-key
invariant-loop-key l =
    goal.iterator-loop-key.can_next l.key-iterator
    × goal.iterator-loop-key.is_finite l.key-iterator
    × (l.self.entries ≡ without_all l.yielded l.initial.self.entries)
    × (l.initial.self.spare ≤ l.self.spare)
    × (l.initial.self.endings ≤ l.self.endings)
    × (l.yielded ++ into_iter_items l.key-iterator ≡ l.fn.keys)
