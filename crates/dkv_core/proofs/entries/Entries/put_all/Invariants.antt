use Rattle.std.proofs.Common.{◌≡◌, ◌+◌, ◌≤◌, ◌++◌, length, count_by}
use Rattle.std.specs.Vec.Iter.{into_iter_items}
use Rattle.dkv_core.specs.Cores.{put_all, ends}
use Rattle.dkv_core.proofs.entries.Entries.put_all.Given as goal

-- the entries so far were put, and there is room for the others
abbrev pub invariant-loop-put : goal.invariant-loop-put
invariant-loop-put l =
    goal.iterator-loop-put.can_next l.put-iterator
    × goal.iterator-loop-put.is_finite l.put-iterator
    × (l.self.entries ≡ put_all l.yielded l.initial.self.entries)
    × (l.initial.self.spare ≤ l.self.spare + length l.yielded)
    × (l.initial.self.endings ≤ l.self.endings + count_by ends l.yielded)
    × (length (into_iter_items l.put-iterator) ≤ l.self.spare)
    × (count_by ends (into_iter_items l.put-iterator) ≤ l.self.endings)
    × (l.yielded ++ into_iter_items l.put-iterator ≡ l.fn.puts)
