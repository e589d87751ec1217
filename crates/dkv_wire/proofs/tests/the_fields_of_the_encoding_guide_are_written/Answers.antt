use Rattle.std.proofs.Common.{[], ◌∷◌, arith}
use Rattle.dkv_wire.proofs.Sizes.{number_size, delimited_size}
use Rattle.dkv_wire.proofs.tests.the_fields_of_the_encoding_guide_are_written.Goals as goal

pub put_number-requires-clause-room : goal.put_number-requires-clause-room
put_number-requires-clause-room g c = omega (arith, number_size 1 150, c.in_ok-reserve.ensures.ok)

pub put_bytes-requires-clause-room : goal.put_bytes-requires-clause-room
put_bytes-requires-clause-room g c =
    omega (arith, delimited_size 2 (116 ∷ 101 ∷ 115 ∷ 116 ∷ 105 ∷ 110 ∷ 103 ∷ []), number_size 1 150, c.in_ok-reserve.ensures.ok, c.put_number.ensures.spare)
