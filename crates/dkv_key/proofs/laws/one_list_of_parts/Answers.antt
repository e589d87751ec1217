use Rattle.dkv_key.proofs.Fronts.{one_list}
use Rattle.dkv_key.proofs.laws.one_list_of_parts.Goals as goal

pub returns : goal.returns
returns c = one_list
