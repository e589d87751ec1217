-- Moments, in milliseconds since 1970.
use Rattle.std.specs.Prelude.{ℕ, min}
use Rattle.dkv_base.specs.declared.moments.TheConstants.{MAX_MOMENT}

-- a moment as every call takes it: one above the last one is the last one
abbrev pub capped_moment : ℕ → ℕ
capped_moment t = min t MAX_MOMENT
