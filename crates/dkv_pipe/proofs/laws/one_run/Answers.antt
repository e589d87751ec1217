use Rattle.dkv_pipe.proofs.One.{one_run, one_course}
use Rattle.dkv_pipe.proofs.laws.one_run.Goals as goal

pub returns : goal.returns
returns c = record { run = one_run; course = one_course }
