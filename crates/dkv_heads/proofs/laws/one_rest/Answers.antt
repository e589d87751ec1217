use Rattle.dkv_heads.proofs.OneRest as lemmas
use Rattle.dkv_heads.proofs.laws.one_rest.Goals as goal

pub returns : goal.returns
returns c = lemmas.one
