-- Bytes with the most that they may be.
use Rattle.std.specs.Prelude.{ℕ, List}

-- the bytes, and the most that they may be
pub record Filled : Type 0 where
  pub bytes : List ℕ
  pub most : ℕ
