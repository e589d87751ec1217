use Rattle.std.proofs.Common.{◌≡◌, vec_len}
use Rattle.dkv_core.specs.Seats.{rows_beside}
use Rattle.dkv_core.proofs.machine.Core.leave_all.Given as goal

-- some watches ended, and nothing else changed
abbrev pub invariant-loop-seat : goal.invariant-loop-seat
invariant-loop-seat l = record {
  same : l.self ≡ record l.initial.self { watches = l.self.watches };
  rows : rows_beside l.seats.items l.self.watches ≡ rows_beside l.fn.seats.items l.initial.self.watches;
}

abbrev pub decreases-loop-seat : goal.decreases-loop-seat
decreases-loop-seat l = vec_len l.seats
