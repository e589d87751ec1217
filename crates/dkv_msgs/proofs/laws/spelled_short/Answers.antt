use Rattle.dkv_msgs.proofs.ShortMessages.{spells_short}
use Rattle.dkv_msgs.proofs.laws.spelled_short.Goals as goal

pub returns : goal.returns
returns c = spells_short
