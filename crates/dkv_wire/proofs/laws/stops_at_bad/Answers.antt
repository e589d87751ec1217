use Rattle.std.proofs.Common.{length, arith}
use Rattle.dkv_wire.proofs.Listed as lemmas
use Rattle.dkv_wire.proofs.laws.stops_at_bad.Goals as goal

pub returns : goal.returns
returns c = λ at bytes place is. lemmas.stops (length bytes) at bytes place (omega arith) is
