use Rattle.std.proofs.Common.{◌≡◌, length}
use Rattle.dkv_route.specs.Targets.{from_path}
use Rattle.dkv_route.proofs.targets.from_path.Given as goal

abbrev pub invariant-loop-rest : goal.invariant-loop-rest
invariant-loop-rest l = from_path l.rest ≡ from_path l.fn.bytes

abbrev pub decreases-loop-rest : goal.decreases-loop-rest
decreases-loop-rest l = length l.rest
