use Rattle.dkv_key.proofs.Fronts.{range_has_more, more_in_range}
use Rattle.dkv_key.proofs.laws.range_holds_longer_keys.Goals as goal

pub returns : goal.returns
returns c = λ ps qs f g. (range_has_more ps qs f g, λ more. more_in_range ps qs g more.0 more.1 more.2)
