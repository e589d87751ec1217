use Rattle.dkv_key.proofs.Finding.{no_double}
use Rattle.dkv_key.proofs.reading.double_part.Goals as goal

pub returns-in-None : goal.returns-in-None
returns-in-None c = no_double c.args.body.now c.in-None.ensures.none
