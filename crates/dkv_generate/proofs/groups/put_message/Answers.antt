use Rattle.std.proofs.Common.{◌∙◌, ℕ, ◌+◌, List, ap, sym, subst}
use Rattle.dkv_generate.specs.Frames.{IsShort}
use Rattle.dkv_generate.specs.Steps.{message}
use Rattle.dkv_generate.proofs.Short.{enqueued_short}
use Rattle.dkv_generate.proofs.groups.put_message.Goals as goal

pub put_step-requires-clause-short : goal.put_step-requires-clause-short
put_step-requires-clause-short c =
    let is = c.in_ok-ask.ensures ∙ ap (λ (b : List ℕ). message b (1000 + c.args.group)) c.in_ok-payload.ensures.bytes in
    subst IsShort (sym is) (enqueued_short c.args.group c.args.numbers.now.last)
