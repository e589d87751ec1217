use Rattle.std.proofs.Common.{◌≡◌, ◌++◌, length}
use Rattle.dkv_store.proofs.terms.entries_of.Given as goal

-- what was copied, and what is left, is all
abbrev pub invariant-loop-entry : goal.invariant-loop-entry
invariant-loop-entry l = l.entries ++ l.cursor ≡ l.fn.core.state.entries

abbrev pub decreases-loop-entry : goal.decreases-loop-entry
decreases-loop-entry l = length l.cursor
