use Rattle.std.proofs.Common.{sym, subst, List, ℕ, ◌<◌, length}
use Rattle.dkv_io.specs.Disks.{FromStart}
use Rattle.dkv_journal.specs.Crashes.{WithGate}
use Rattle.dkv_io.proofs.Moments.{weaker}
use Rattle.dkv_files.specs.Crashes.{GateLeaves}
use Rattle.dkv_files.proofs.gate.open_gate.Goals as goal

pub set_gate-requires : goal.set_gate-requires
set_gate-requires g c file told x left =
    let rest = c.requires file told in
    subst (λ (l : List ℕ). 0 < length l) (sym (rest.0.only x left)) rest.1

pub returns-clause-leaves : goal.returns-clause-leaves
returns-clause-leaves g c file told =
    let rest = c.requires file told in
    let old = c.args.disk.now in
    weaker g.D.Disk.moment g.D.Disk.left_since old c.set_gate.new.disk (FromStart (g.D.Disk.may_leave old) (WithGate 0)) (GateLeaves file)
    (λ x from. subst (λ (d : List ℕ). WithGate 0 d x) (rest.0.only from.0 from.1) from.2) (c.set_gate.ensures.leaves file told)
