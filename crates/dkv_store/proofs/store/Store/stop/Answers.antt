use Rattle.dkv_store.specs.Stores.{effective_at}
use Rattle.dkv_store.proofs.Leading.{stop_leads}
use Rattle.dkv_store.proofs.store.Store.stop.Goals as goal

pub returns-clause-goes : goal.returns-clause-goes
returns-clause-goes g c =
    stop_leads g.D.Disk.seen g.D.Disk.may_leave g.D.Disk.moment g.D.Disk.left_since c.args.self.now c.stop_kept.new.self
    c.args.who (effective_at c.args.self.now c.args.at) c.args.last c.stop_kept.result c.stop_kept.ensures.stopped c.stop_kept.ensures.err
