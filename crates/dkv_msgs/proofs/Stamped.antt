-- The reply to a write that was made, byte by byte.
use Rattle.std.proofs.Common.{◌≡◌, ℕ, ◌∷◌, refl}
use Rattle.dkv_base.specs.Protobuf.{groups, varint}
use Rattle.dkv_base.specs.Stamps.{stamp}
use Rattle.dkv_msgs.specs.Outputs.{written_output}
use Rattle.dkv_msgs.specs.Spellings.{spell_atomic_write_output}

-- a status of 1, and ten bytes of a stamp
pub stamped : (n : ℕ) → spell_atomic_write_output (written_output n) ≡ 8 ∷ 1 ∷ 18 ∷ 10 ∷ stamp n
unfolding groups varint
stamped n = refl
