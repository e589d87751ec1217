use Rattle.dkv_token.proofs.Exact as tokens
use Rattle.dkv_token.proofs.laws.two_texts.Goals as goal

pub returns : goal.returns
returns c = tokens.two_texts
