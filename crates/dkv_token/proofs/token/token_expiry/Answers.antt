use Rattle.std.proofs.Common.{ap, arith, length}
use Rattle.dkv_token.specs.Token.{written_expiry}
use Rattle.dkv_token.proofs.Exact.{other_is_none}
use Rattle.dkv_token.proofs.Shape.{length-sign}
use Rattle.dkv_token.proofs.token.token_expiry.Goals as goal

pub returns-then-text-ne-TOKEN_BYTES : goal.returns-then-text-ne-TOKEN_BYTES
returns-then-text-ne-TOKEN_BYTES c =
    other_is_none c.args.site.now c.args.text.now
    (λ same. let long = ap length same in omega (arith, long, length-sign c.args.site.now (written_expiry c.args.text.now)))
