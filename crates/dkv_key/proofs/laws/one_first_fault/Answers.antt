use Rattle.dkv_key.proofs.Fronts.{one_fault}
use Rattle.dkv_key.proofs.laws.one_first_fault.Goals as goal

pub returns : goal.returns
returns c = one_fault
