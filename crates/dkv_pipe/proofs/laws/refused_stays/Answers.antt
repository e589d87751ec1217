use Rattle.dkv_pipe.proofs.Refused.{refused_stays, begins_no_frame}
use Rattle.dkv_pipe.proofs.laws.refused_stays.Goals as goal

pub returns : goal.returns
returns c = record { stays = refused_stays; never = begins_no_frame }
