use Rattle.std.proofs.Common.{◌≡◌, ◌+◌, ◌≤◌, take}
use Rattle.dkv_core.specs.Seats.{rows_beside}
use Rattle.dkv_core.proofs.Running.{Ran}
use Rattle.dkv_core.proofs.machine.Core.answer_all.Given as goal

-- the steps so far were answered, each made a commit at most, and who watches beside them goes on
abbrev pub invariant-loop-step : goal.invariant-loop-step
invariant-loop-step l = record {
  ran : Ran l.initial.self (take l.step-index l.steps) l.answers l.self l.seats.items;
  few : l.self.state.number ≤ l.initial.self.state.number + l.step-index;
  rows : rows_beside l.seats.items l.self.watches ≡ l.initial.self.watches;
}
