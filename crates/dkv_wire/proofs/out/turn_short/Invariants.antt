use Rattle.std.proofs.Common.{◌≡◌, ◌-◌, length}
use Rattle.dkv_wire.specs.Rooms.{turned}
use Rattle.dkv_wire.proofs.out.turn_short.Given as goal

abbrev pub invariant-loop : goal.invariant-loop
invariant-loop l = l.bytes ≡ turned 0 (length l.fn.bytes - l.counter) l.fn.bytes
