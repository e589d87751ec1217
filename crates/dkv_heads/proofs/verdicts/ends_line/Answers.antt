use Rattle.std.proofs.Common.{eqb-true}
use Rattle.dkv_heads.proofs.Ends.{first_line_ends}
use Rattle.dkv_heads.proofs.verdicts.ends_line.Goals as goal

pub returns-then-spans-eq0 : goal.returns-then-spans-eq0
returns-then-spans-eq0 c e =
    let x = rw c.in-Ok-Complete.field-0-is at c.in-Ok-Complete.ensures.complete in
    first_line_ends c.args.bytes.now _ c.in-Ok-Complete.spans x.0 x.1 c.if-spans-eq0.true (eqb-true _ _ e)
