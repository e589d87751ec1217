use Rattle.dkv_expiry.proofs.Membership.{first_is_least}
use Rattle.dkv_expiry.proofs.laws.the_first_is_the_least.Goals as goal

pub returns : goal.returns
returns c = first_is_least
