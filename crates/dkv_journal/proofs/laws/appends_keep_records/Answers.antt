use Rattle.dkv_journal.proofs.Keeping.{kept, added, doubts, mends}
use Rattle.dkv_journal.proofs.laws.appends_keep_records.Goals as goal

pub returns-clause-kept : goal.returns-clause-kept
returns-clause-kept c = kept

pub returns-clause-added : goal.returns-clause-added
returns-clause-added c = added

pub returns-clause-doubted : goal.returns-clause-doubted
returns-clause-doubted c = doubts

pub returns-clause-mended : goal.returns-clause-mended
returns-clause-mended c = mends
