use Rattle.dkv_msgs.specs.Readings.{reads_atomic_write}
use Rattle.dkv_record.proofs.Commits.{commit_is_spelled, spelled_is_commit, same_commit}
use Rattle.dkv_record.proofs.Fitting.{reads_writes}
use Rattle.dkv_record.proofs.laws.one_body.Goals as goal

pub returns-clause-back : goal.returns-clause-back
returns-clause-back c = spelled_is_commit reads_atomic_write reads_writes

pub returns-clause-spelled : goal.returns-clause-spelled
returns-clause-spelled c = commit_is_spelled reads_atomic_write reads_writes

pub returns-clause-one : goal.returns-clause-one
returns-clause-one c = same_commit reads_atomic_write reads_writes
