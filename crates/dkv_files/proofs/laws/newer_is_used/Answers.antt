use Rattle.dkv_base.specs.Profiles.{known_first}
use Rattle.dkv_msgs.specs.Readings.{reads_atomic_write}
use Rattle.dkv_files.proofs.Used as used
use Rattle.dkv_files.proofs.laws.newer_is_used.Goals as goal

pub returns-clause-first : goal.returns-clause-first
returns-clause-first c = used.first known_first reads_atomic_write

pub returns-clause-second : goal.returns-clause-second
returns-clause-second c = used.second known_first reads_atomic_write
