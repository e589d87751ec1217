use Rattle.std.proofs.Common.{List, ℕ, [], ◌∷◌, ◌++◌, ap, ◌∙◌}
use Rattle.dkv_base.specs.Stamps.{suffix}
use Rattle.dkv_key.proofs.stamps.suffix.Goals as goal

pub returns : goal.returns
unfolding suffix
returns c = ap (λ (digits : List ℕ). 2 ∷ digits ++ 0 ∷ []) (c.copy_from_slice.ensures.after ∙ c.stamp_hex.ensures)
