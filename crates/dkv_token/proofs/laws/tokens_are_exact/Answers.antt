use Rattle.dkv_token.proofs.Exact as tokens
use Rattle.dkv_token.proofs.laws.tokens_are_exact.Goals as goal

pub returns : goal.returns
returns c = tokens.exact
