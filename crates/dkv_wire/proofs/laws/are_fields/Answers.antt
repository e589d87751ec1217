use Rattle.std.proofs.Common.{length, arith}
use Rattle.dkv_wire.proofs.Listed as lemmas
use Rattle.dkv_wire.proofs.laws.are_fields.Goals as goal

pub returns : goal.returns
returns c = λ at bytes whole. lemmas.are_listed (length bytes) at bytes (omega arith) whole
