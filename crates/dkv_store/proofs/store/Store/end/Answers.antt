use Rattle.std.proofs.Common.{subst}
use Rattle.dkv_store.specs.Stores.{Contents, Keeps}
use Rattle.dkv_store.proofs.Standing.{keeps_stand}
use Rattle.dkv_store.proofs.store.Store.end.Goals as goal

pub returns-clause-stands : goal.returns-clause-stands
returns-clause-stands g c fa fb told_a told_b =
    let kept = subst (λ (s : Contents g.row.D.Denot). Keeps g.D.Disk.seen g.D.Disk.may_leave g.D.Disk.faults c.self.inside.files.journal c.self.inside.files.used c.self.inside.files.other s) c.self.view_is c.self.invariant in
    keeps_stand g.D.Disk.seen g.D.Disk.may_leave g.D.Disk.faults c.self.inside.files.journal c.self.inside.files.used c.self.inside.files.other c.args.self kept fa fb told_a told_b
