use Rattle.std.proofs.Common.{arith}
use Rattle.dkv_token.proofs.Shape.{padded_is}
use Rattle.dkv_token.proofs.mac.padded_key.Goals as goal

pub returns : goal.returns
returns c =
    padded_is c.args.with c.args.key.now c.copy_from_slice.new.self c.loop-byte.byte-items (omega arith) c.copy_from_slice.ensures.after (omega arith)
    (λ k below. c.loop-byte.invariant.before k (omega arith))
