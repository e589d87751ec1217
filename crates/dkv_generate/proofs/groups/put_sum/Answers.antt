use Rattle.std.proofs.Common.{◌≡◌, ◌∙◌, ℕ, List, pos, ap, sym, subst}
use Rattle.std.specs.Int.{w64, to_le_bytes}
use Rattle.dkv_generate.specs.Frames.{IsShort}
use Rattle.dkv_generate.specs.Keys.{sum_key}
use Rattle.dkv_generate.specs.Steps.{mutation}
use Rattle.dkv_generate.proofs.Short.{sum_short}
use Rattle.dkv_generate.proofs.groups.put_sum.Goals as goal

pub put_step-requires-clause-short : goal.put_step-requires-clause-short
put_step-requires-clause-short c =
    let one : c.in_ok-one.one ≡ to_le_bytes w64 1 = c.in_ok-one.ensures ∙ c.to_le_bytes.ensures in
    let is =
    c.in_ok-ask.ensures
    ∙ ap (λ (k : List ℕ). mutation (pos 3) k c.in_ok-one.one (pos 2)) c.in_ok-key.ensures
    ∙ ap (λ (b : List ℕ). mutation (pos 3) (sum_key c.args.group) b (pos 2)) one in
    subst IsShort (sym is) (sum_short c.args.group)
