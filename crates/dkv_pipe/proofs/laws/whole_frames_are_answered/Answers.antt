use Rattle.dkv_pipe.proofs.Complete.{complete}
use Rattle.dkv_pipe.proofs.laws.whole_frames_are_answered.Goals as goal

pub returns : goal.returns
returns c = complete
