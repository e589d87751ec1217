use Rattle.dkv_app.proofs.CommandWords.{pipe_refused}
use Rattle.dkv_app.proofs.command.read_pipe.Goals as goal

pub returns-in-Err : goal.returns-in-Err
returns-in-Err c = pipe_refused _ c.in-Err.error c.in-Err.ensures
