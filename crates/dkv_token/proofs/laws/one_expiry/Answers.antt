use Rattle.dkv_token.proofs.Exact as tokens
use Rattle.dkv_token.proofs.laws.one_expiry.Goals as goal

pub returns : goal.returns
returns c = tokens.one_expiry
