use Rattle.dkv_heads.proofs.Waiting as lemmas
use Rattle.dkv_heads.proofs.laws.waiting_is_open.Goals as goal

pub returns : goal.returns
returns c = lemmas.waiting
