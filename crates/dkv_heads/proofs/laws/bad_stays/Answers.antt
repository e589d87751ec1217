use Rattle.dkv_heads.proofs.BadStays as lemmas
use Rattle.dkv_heads.proofs.laws.bad_stays.Goals as goal

pub returns : goal.returns
returns c = lemmas.stays
