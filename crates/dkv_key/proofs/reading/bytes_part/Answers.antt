use Rattle.std.proofs.Common.{arith}
use Rattle.dkv_key.proofs.Finding.{bytes_begin}
use Rattle.dkv_key.proofs.reading.bytes_part.Goals as goal

pub returns-in-Some : goal.returns-in-Some
returns-in-Some c =
    bytes_begin c.in-Some.bytes c.args.body.now c.in-Some.rest.now (λ i. omega (arith, c.type_inv.body i)) (rw c.in-Some.is at c.in_ok-text_of.ensures.found)
