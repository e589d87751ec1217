use Rattle.std.proofs.Common.{length}
use Rattle.dkv_key.specs.Reading.{IsFront}
use Rattle.dkv_key.proofs.reading.decode.Given as goal

abbrev pub invariant-loop-rest : goal.invariant-loop-rest
invariant-loop-rest l = IsFront l.parts l.key l.rest

abbrev pub decreases-loop-rest : goal.decreases-loop-rest
decreases-loop-rest l = length l.rest
