use Rattle.dkv_store.proofs.Leading.{term_leads}
use Rattle.dkv_store.proofs.store.Store.start_term.Goals as goal

pub returns-in-Ok-clause-goes : goal.returns-in-Ok-clause-goes
returns-in-Ok-clause-goes g c =
    term_leads g.D.Disk.seen g.D.Disk.may_leave g.D.Disk.moment g.D.Disk.left_since c.args.self.now c.go_on.new.self c.args.trail_limit c.go_on.ensures.begun
