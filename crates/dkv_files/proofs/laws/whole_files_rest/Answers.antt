use Rattle.dkv_files.proofs.Renewed.{whole_rests}
use Rattle.dkv_files.proofs.laws.whole_files_rest.Goals as goal

pub returns : goal.returns
returns c = whole_rests
