use Rattle.dkv_wire.proofs.Written as lemmas
use Rattle.dkv_wire.proofs.laws.bytes_again.Goals as goal

pub returns : goal.returns
returns c = lemmas.before_delimited
