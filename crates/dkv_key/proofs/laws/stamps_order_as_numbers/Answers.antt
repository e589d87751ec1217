use Rattle.dkv_key.proofs.Stamping.{stamps_order}
use Rattle.dkv_key.proofs.laws.stamps_order_as_numbers.Goals as goal

pub returns : goal.returns
returns c = stamps_order
