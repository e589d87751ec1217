use Rattle.std.proofs.Common.{◌≡◌, ◌≤◌, ◌-◌, ℕ, List, length, Some}
use Rattle.dkv_io.specs.Disks.{LeavesOnly}
use Rattle.dkv_journal.specs.Records.{first_layout, place_after, scanned_at}
use Rattle.dkv_journal.specs.Laws.{scans_on}
use Rattle.dkv_journal.proofs.journal.Journal.scan.Given as goal

abbrev pub invariant-loop-body : goal.invariant-loop-body
invariant-loop-body g l = record {
  on : (file : List ℕ) → g.D.Disk.seen l.fn.disk ≡ Some file → scanned_at first_layout l.fn.place file ≡ scans_on l.bodies (scanned_at first_layout l.at file);
  ends : place_after first_layout l.fn.place l.bodies ≡ l.at;
  long : (file : List ℕ) → g.D.Disk.seen l.fn.disk ≡ Some file → l.len ≡ length file;
  seen : g.D.Disk.seen l.disk ≡ g.D.Disk.seen l.fn.disk;
  leaves : LeavesOnly g.D.Disk.moment g.D.Disk.left_since l.fn.disk l.disk (g.D.Disk.may_leave l.fn.disk);
  later : g.D.Disk.faults l.fn.disk ≤ g.D.Disk.faults l.disk;
}

abbrev pub decreases-loop-body : goal.decreases-loop-body
decreases-loop-body g l = l.len - l.at
