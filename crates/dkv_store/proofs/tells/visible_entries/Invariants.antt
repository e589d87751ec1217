use Rattle.std.proofs.Common.{◌≡◌, ◌+◌, ◌≤◌, length}
use Rattle.dkv_base.specs.State.{visible}
use Rattle.dkv_store.proofs.tells.visible_entries.Given as goal

-- what was counted, and what can be seen of the rest, is what can be seen of all
abbrev pub invariant-loop-entry : goal.invariant-loop-entry
invariant-loop-entry l =
    (l.count + length (visible l.at l.cursor) ≡ length (visible l.at l.fn.core.state.entries)) × (l.count + length l.cursor ≤ l.all)

abbrev pub decreases-loop-entry : goal.decreases-loop-entry
decreases-loop-entry l = length l.cursor
