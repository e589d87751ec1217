use Rattle.dkv_heads.proofs.Apart as lemmas
use Rattle.dkv_heads.proofs.laws.one_list.Goals as goal

pub returns : goal.returns
returns c = lemmas.are_one
