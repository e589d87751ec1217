use Rattle.std.proofs.Common.{sym, subst, arith}
use Rattle.std.specs.Str.{IsUtf8}
use Rattle.dkv_key.proofs.Finding.{text_begins, no_utf8}
use Rattle.dkv_key.proofs.reading.text_part.Goals as goal

pub returns-in-Err : goal.returns-in-Err
returns-in-Err c = no_utf8 c.in-Some.text c.args.body.now c.in-Some.rest.now (rw c.in-Some.is at c.in_ok-text_of.ensures.found) (λ is. c.in-Err.ensures.cases.0 (subst IsUtf8 (sym c.as_slice.ensures) is))

pub returns : goal.returns
returns c = text_begins c.in-Some.text c.args.body.now c.in-Some.rest.now (λ i. omega (arith, c.type_inv.body i)) (rw c.in-Some.is at c.in_ok-text_of.ensures.found) (subst IsUtf8 c.as_slice.ensures c.in-Ok.ensures.cases.1)
