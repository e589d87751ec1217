use Rattle.dkv_heads.proofs.Scans.{line_goes}
use Rattle.dkv_heads.proofs.lines.next_line.Goals as goal

pub returns-clause-goes : goal.returns-clause-goes
returns-clause-goes c line is = rw c.line_step.ensures (line_goes c.args.at c.args.byte line is)
