use Rattle.dkv_pipe.proofs.Spelled.{frames_begin, front_is_frame}
use Rattle.dkv_pipe.proofs.laws.whole_frames_begin.Goals as goal

pub returns : goal.returns
returns c = record { begin = frames_begin; front = front_is_frame }
