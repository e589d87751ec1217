use Rattle.std.proofs.Common.{sym, arith}
use Rattle.dkv_table.proofs.Ranges.{between-range, between-none}
use Rattle.dkv_table.proofs.sorted.range.Goals as goal

pub returns-then-from-to : goal.returns-then-from-to
returns-then-from-to c = sym (between-range _ _ _ _ _ c.first_from-from.ensures c.first_from-to.ensures (omega arith))

pub returns-else-from-to : goal.returns-else-from-to
returns-else-from-to c = sym (between-none _ _ _ _ _ c.first_from-from.ensures c.first_from-to.ensures (omega arith))
