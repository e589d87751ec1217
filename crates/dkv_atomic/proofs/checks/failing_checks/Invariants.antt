use Rattle.std.proofs.Common.{◌≡◌, ◌++◌, drop}
use Rattle.dkv_base.specs.State.{visible}
use Rattle.dkv_base.specs.Writes.{failing_from}
use Rattle.dkv_atomic.proofs.checks.failing_checks.Given as goal

-- the places of all that fail are those noted, and then those of the checks still to come
abbrev pub invariant-loop-check : goal.invariant-loop-check
invariant-loop-check g l = record {
  run : failing_from 0 l.checks (visible l.at (g.T.Table.content l.table)) ≡ l.failed ++ failing_from l.check-index (drop l.check-index l.checks) (visible l.at (g.T.Table.content l.table));
  place : l.place ≡ l.check-index;
}
