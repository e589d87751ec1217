use Rattle.std.proofs.Common.{sym, ◌∙◌}
use Rattle.dkv_heads.proofs.Digits.{last_digit, not_zero, zero_behind}
use Rattle.dkv_heads.proofs.fields.is_zero.Goals as goal

pub returns-then-last-ne48 : goal.returns-then-last-ne48
returns-then-last-ne48 c = sym (not_zero c.loop-value.value.now c.in-len1-up.len_at_least c.loop-value.invariant.digits c.if-last-ne48.true) ∙ c.loop-value.invariant.same

pub loop-value-preserved : goal.loop-value-preserved
loop-value-preserved c = record {
  digits = (last_digit c.loop-value.value.now c.in-len1-up.len_at_least c.loop-value.invariant.digits).front;
  same = zero_behind c.loop-value.value.now c.in-len1-up.len_at_least c.loop-value.invariant.digits c.if-last-ne48.false ∙ c.loop-value.invariant.same;
}
