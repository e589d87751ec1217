-- What was read so far is a front of what stands there.
use Rattle.std.proofs.Common.{◌≤◌, length}
use Rattle.dkv_net.specs.Places.{IsFront}
use Rattle.dkv_net.proofs.placed.read_placed.Given as goal

abbrev pub invariant-loop : goal.invariant-loop
invariant-loop g l = (l.n ≤ length l.into) × IsFront (g.F.Placed.content l.file) l.at l.into l.n
