use Rattle.std.proofs.Common.{◌≡◌, ◌≤◌, ◌++◌, length}
use Rattle.dkv_base.specs.State.{visible}
use Rattle.dkv_core.specs.Found.{entries_of}
use Rattle.dkv_core.proofs.reading.first_seen.Given as goal

-- what was found, and then what can be seen of the rest, is what can be seen of all
abbrev pub invariant-loop-cursor : goal.invariant-loop-cursor
invariant-loop-cursor l = (entries_of l.found ++ visible l.at l.cursor ≡ visible l.at l.fn.cursor) × (length l.found ≤ l.most)

abbrev pub decreases-loop-cursor : goal.decreases-loop-cursor
decreases-loop-cursor l = length l.cursor
