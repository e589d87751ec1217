use Rattle.dkv_base.specs.Profiles.{known_first}
use Rattle.dkv_msgs.specs.Readings.{reads_atomic_write}
use Rattle.dkv_files.proofs.Written.{file_is_read}
use Rattle.dkv_files.proofs.laws.files_are_read.Goals as goal

pub returns : goal.returns
returns c = file_is_read known_first reads_atomic_write
