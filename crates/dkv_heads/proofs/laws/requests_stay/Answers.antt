use Rattle.dkv_heads.proofs.OneRequest as lemmas
use Rattle.dkv_heads.proofs.laws.requests_stay.Goals as goal

pub returns : goal.returns
returns c = lemmas.stay
