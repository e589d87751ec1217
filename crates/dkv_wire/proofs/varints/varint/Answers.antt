use Rattle.std.proofs.Common.{arith}
use Rattle.dkv_wire.specs.Reading.{varint_at}
use Rattle.dkv_wire.proofs.Varint.{low_as}
use Rattle.dkv_wire.proofs.varints.varint.Goals as goal

-- most numbers have one byte
pub returns-in-len1-up : goal.returns-in-len1-up
unfolding varint_at
returns-in-len1-up c = low_as 10 c.args.bytes.now c.from.result (omega arith) c.in-len1-up.len_at_least c.if-b-lt128.true c.from.ensures
