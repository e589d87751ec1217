use Rattle.std.proofs.Common.{◌≡◌, ◌++◌, length}
use Rattle.dkv_table.proofs.cursor.copies.Given as goal

-- what was copied, and then what is still to come, is all
abbrev pub invariant-loop-entry : goal.invariant-loop-entry
invariant-loop-entry l = l.entries ++ l.cursor ≡ l.fn.cursor

abbrev pub decreases-loop-entry : goal.decreases-loop-entry
decreases-loop-entry l = length l.cursor
