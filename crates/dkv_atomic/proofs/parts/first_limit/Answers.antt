use Rattle.std.proofs.Common.{◌≡◌, ◌<◌, true, false, length, sym, ap, ◌∙◌, arith}
use Rattle.std.specs.Option.{is_some}
use Rattle.dkv_atomic.proofs.FirstLimits.{stops, goes_on}
use Rattle.dkv_atomic.proofs.parts.first_limit.Goals as goal

pub returns-then-is_some : goal.returns-then-is_some
returns-then-is_some g c =
    let own : is_some (g.T.Limited.own_limit c.part-item.result) ≡ true = ap is_some (sym c.limit-passed.ensures) ∙ sym c.is_some.ensures ∙ c.if-is_some.true in
    let inside : c.loop-part.part-index < length c.args.parts.now = omega arith in
    c.limit-passed.ensures ∙ stops g.T.Limited.own_limit c.args.parts.now c.loop-part.part-index c.part-item.result inside c.loop-part.invariant c.part-item.is own

pub loop-part-preserved : goal.loop-part-preserved
loop-part-preserved g c =
    let own : is_some (g.T.Limited.own_limit c.part-item.result) ≡ false = ap is_some (sym c.limit-passed.ensures) ∙ sym c.is_some.ensures ∙ c.if-is_some.false in
    let inside : c.loop-part.part-index < length c.args.parts.now = omega arith in
    goes_on g.T.Limited.own_limit c.args.parts.now c.loop-part.part-index c.part-item.result inside c.loop-part.invariant c.part-item.is own
