use Rattle.dkv_base.proofs.Told as told
use Rattle.dkv_base.proofs.laws.steps_are_told.Goals as goal

pub returns : goal.returns
returns c = told.steps_are_told
