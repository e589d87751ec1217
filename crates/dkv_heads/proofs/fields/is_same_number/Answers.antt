use Rattle.std.proofs.Common.{sym, ◌∙◌}
use Rattle.dkv_heads.proofs.Digits.{last_digit, apart, together}
use Rattle.dkv_heads.proofs.fields.is_same_number.Goals as goal

pub returns-then-a_last-b_last : goal.returns-then-a_last-b_last
returns-then-a_last-b_last c =
    let i = c.loop-a.invariant in
    sym (apart c.loop-a.a.now c.loop-a.b.now c.in-len1-up.len_at_least c.in-len1-up-b.len_at_least i.a_digits i.b_digits c.if-a_last-b_last.true) ∙ i.same

pub loop-a-preserved : goal.loop-a-preserved
loop-a-preserved c =
    let i = c.loop-a.invariant in
    record {
      a_digits = (last_digit c.loop-a.a.now c.in-len1-up.len_at_least i.a_digits).front;
      b_digits = (last_digit c.loop-a.b.now c.in-len1-up-b.len_at_least i.b_digits).front;
      same = together c.loop-a.a.now c.loop-a.b.now c.in-len1-up.len_at_least c.in-len1-up-b.len_at_least i.a_digits i.b_digits c.if-a_last-b_last.false ∙ i.same;
    }
