use Rattle.dkv_key.proofs.Fronts.{keys_order}
use Rattle.dkv_key.proofs.laws.keys_order_as_parts.Goals as goal

pub returns : goal.returns
returns c = keys_order
