-- The canonical spelling of a write, and the length of its record.
use Rattle.std.proofs.Common.{◌≡◌, refl, ℕ, List, [], ◌∷◌}
use Rattle.dkv_base.specs.declared.types.Commit.TheVariants as commit
use Rattle.dkv_base.specs.Protobuf.{varint, groups}
use Rattle.dkv_base.specs.Spelling.{spell_write, record_length}
use Rattle.worked.proofs.Words.{set_a}

-- the write in Protobuf
abbrev pub set_body : List ℕ
set_body = 0x12 ∷ 0x0E ∷ 0x0A ∷ 3 ∷ 2 ∷ 0x61 ∷ 0 ∷ 0x12 ∷ 5 ∷ 0x0A ∷ 1 ∷ 0x78 ∷ 0x10 ∷ 3 ∷ 0x18 ∷ 1 ∷ []

-- a SET of one byte
set_is_spelled : spell_write set_a ≡ set_body
unfolding varint groups
set_is_spelled = refl

-- 13 bytes and the write
record_of_a_set : record_length (commit.Wrote 1 5 set_a) ≡ 29
unfolding varint groups
record_of_a_set = refl
