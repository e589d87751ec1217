use Rattle.dkv_key.proofs.Stamping.{suffix_is}
use Rattle.dkv_key.proofs.laws.suffix_is_a_text.Goals as goal

pub returns : goal.returns
returns c = suffix_is
