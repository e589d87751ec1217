use Rattle.std.proofs.Common.{subst}
use Rattle.dkv_store.specs.Stores.{Contents, Keeps}
use Rattle.dkv_store.proofs.Keeping.{kept_sound}
use Rattle.dkv_store.proofs.store.Store.is_sound.Goals as goal

pub returns : goal.returns
returns g c =
    let kept = subst (λ (s : Contents g.row.D.Denot). Keeps g.D.Disk.seen g.D.Disk.may_leave g.D.Disk.faults c.self.inside.files.journal c.self.inside.files.used c.self.inside.files.other s) c.self.view_is c.self.invariant in
    kept_sound g.D.Disk.seen g.D.Disk.may_leave g.D.Disk.faults c.self.inside.files.journal c.self.inside.files.used c.self.inside.files.other c.args.self.now kept
