use Rattle.std.proofs.Common.{◌≡◌, ◌++◌, List, ℕ, take, sym, subst, ◌∙◌, arith}
use Rattle.dkv_key.specs.Parts.{HasNoLeadingZero, magnitude_spelling}
use Rattle.dkv_key.specs.Reading.{HasMagnitude}
use Rattle.dkv_key.proofs.Finding.{magnitude_found}
use Rattle.dkv_key.proofs.reading.magnitude_of.Goals as goal

pub returns-clause-found : goal.returns-clause-found
returns-clause-found c =
    let s = c.args.negative in
    let n = c.args.count in
    let bytes = c.args.bytes.now in
    let items : c.put_magnitude.new.out.items ≡ magnitude_spelling s (take n bytes) =
    c.in_ok-put_magnitude.ensures.spelled ∙ (λ i. c.new-magnitude.ensures.items i ++ magnitude_spelling s (c.in-Some.ensures.cases.1 i)) in
    let first = subst HasNoLeadingZero (c.as_slice.ensures.value ∙ items) (c.starts_with_zero.ensures.none c.if-starts_with_zero.false) in
    let split = c.in-Some.ensures.cases in
    let found = magnitude_found s n bytes (λ i. omega (arith, c.type_inv.bytes i)) split.0 first in
    subst (λ (m : List ℕ). HasMagnitude s n bytes m c.in-Some.rest.now) (sym (c.of.ensures ∙ items)) (subst (λ (rest : List ℕ). HasMagnitude s n bytes (magnitude_spelling s (take n bytes)) rest) (sym split.2) found)
