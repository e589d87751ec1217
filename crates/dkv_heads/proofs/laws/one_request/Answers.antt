use Rattle.dkv_heads.proofs.OneRequest as lemmas
use Rattle.dkv_heads.proofs.laws.one_request.Goals as goal

pub returns : goal.returns
returns c = lemmas.received_one
