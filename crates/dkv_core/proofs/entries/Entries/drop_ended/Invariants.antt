use Rattle.std.proofs.Common.{◌≡◌, ◌≤◌, length}
use Rattle.dkv_base.specs.State.{visible}
use Rattle.dkv_core.proofs.entries.Entries.drop_ended.Given as goal

-- what can be seen stays
abbrev pub invariant-loop : goal.invariant-loop
invariant-loop l = record {
  entries : visible l.at l.self.entries ≡ visible l.at l.initial.self.entries;
  spare : l.initial.self.spare ≤ l.self.spare;
  endings : l.initial.self.endings ≤ l.self.endings;
}

abbrev pub decreases-loop : goal.decreases-loop
decreases-loop l = length l.self.entries
