use Rattle.dkv_heads.proofs.Scans.{start_goes}
use Rattle.dkv_heads.proofs.starts.next_start.Goals as goal

pub returns-clause-goes : goal.returns-clause-goes
returns-clause-goes c bytes is = rw c.start_step.ensures (start_goes c.args.at c.args.byte bytes is)
