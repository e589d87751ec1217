use Rattle.std.proofs.Common.{◌∙◌, ℕ, List, pos, ap, sym, subst}
use Rattle.dkv_generate.specs.Frames.{IsShort}
use Rattle.dkv_generate.specs.Keys.{item_key}
use Rattle.dkv_generate.specs.Steps.{mutation}
use Rattle.dkv_generate.proofs.Short.{item_short}
use Rattle.dkv_generate.proofs.groups.put_item.Goals as goal

pub put_step-requires-clause-short : goal.put_step-requires-clause-short
put_step-requires-clause-short c =
    let is =
    c.in_ok-ask.ensures
    ∙ ap (λ (k : List ℕ). mutation (pos 1) k c.in_ok-value.value (pos 3)) c.in_ok-key.ensures
    ∙ ap (λ (b : List ℕ). mutation (pos 1) (item_key c.args.group) b (pos 3)) c.in_ok-value.ensures.bytes in
    subst IsShort (sym is) (item_short c.args.group c.args.numbers.now.last)
