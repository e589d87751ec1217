use Rattle.std.proofs.Common.{Bool, ℕ, sym, ap, ◌∙◌}
use Rattle.std.specs.Prelude.{nat_lt}
use Rattle.dkv_base.specs.Limits.{when}
use Rattle.dkv_base.specs.declared.codes.Limit.TheVariants as limit
use Rattle.dkv_base.specs.declared.limits.TheConstants.{MAX_INTERVAL_MS}
use Rattle.dkv_atomic.proofs.FirstLimits.{first_when}
use Rattle.dkv_atomic.proofs.writes.intervals_limit.Goals as goal

pub returns : goal.returns
returns c =
    c.then_some.ensures ∙ ap (λ (b : Bool). when b limit.BackoffInterval) c.is_some_interval_long.ensures
    ∙ sym (first_when (λ (n : ℕ). nat_lt MAX_INTERVAL_MS n) limit.BackoffInterval c.args.intervals.now)
