use Rattle.dkv_heads.proofs.FirstValues as lemmas
use Rattle.dkv_heads.proofs.laws.first_value_is_first.Goals as goal

pub returns : goal.returns
returns c = lemmas.first
