use Rattle.dkv_journal.proofs.Prefix.{scan_goes_on}
use Rattle.dkv_journal.proofs.Scans.{scans}
use Rattle.dkv_journal.proofs.laws.records_are_scanned.Goals as goal

pub returns-clause-written : goal.returns-clause-written
returns-clause-written c = scans

pub returns-clause-front : goal.returns-clause-front
returns-clause-front c = scan_goes_on
