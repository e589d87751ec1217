use Rattle.dkv_store.specs.Stores.{effective_at}
use Rattle.dkv_store.proofs.Watched.{polls, begins}
use Rattle.dkv_store.proofs.Leading.{watch_leads}
use Rattle.dkv_store.proofs.store.Store.poll.Goals as goal

pub returns-clause-steps : goal.returns-clause-steps
returns-clause-steps g c =
    polls c.args.self.now c.poll_kept.new.self c.args.at c.args.watcher.now c.poll_kept.new.watcher c.poll_kept.ensures.keys c.poll_kept.ensures.moment
    c.poll_kept.result c.poll_kept.ensures.frame c.poll_kept.ensures.shown

pub returns-clause-first : goal.returns-clause-first
returns-clause-first g c =
    begins c.args.self.now c.poll_kept.new.self c.args.at c.args.watcher.now c.poll_kept.new.watcher c.poll_kept.ensures.keys c.poll_kept.ensures.moment
    c.poll_kept.result c.poll_kept.ensures.frame c.poll_kept.ensures.shown

pub returns-clause-goes : goal.returns-clause-goes
returns-clause-goes g c =
    watch_leads g.D.Disk.seen g.D.Disk.may_leave g.D.Disk.moment g.D.Disk.left_since c.args.self.now c.poll_kept.new.self (effective_at c.args.self.now c.args.at) c.args.self.now.core.watches
    c.poll_kept.ensures.moment
