use Rattle.std.proofs.Common.{Bool, sym, ap, ◌∙◌}
use Rattle.dkv_base.specs.Limits.{when, is_bad_key}
use Rattle.dkv_base.specs.declared.codes.Limit.TheVariants as limit
use Rattle.dkv_atomic.proofs.FirstLimits.{first_when}
use Rattle.dkv_atomic.proofs.writes.undelivered_limit.Goals as goal

pub returns : goal.returns
returns c =
    c.then_some.ensures ∙ ap (λ (b : Bool). when b limit.UndeliveredKey) c.is_some_bad_key.ensures ∙ sym (first_when is_bad_key limit.UndeliveredKey c.args.keys.now)
