use Rattle.dkv_wire.proofs.Listed as lemmas
use Rattle.dkv_wire.proofs.laws.are_listed.Goals as goal

pub returns : goal.returns
returns c = lemmas.is_listed
