use Rattle.std.proofs.Common.{◌∙◌}
use Rattle.dkv_hub.specs.Rows.{rows_without}
use Rattle.dkv_store.specs.Stores.{effective_at}
use Rattle.dkv_store.specs.Watches.{with_watches}
use Rattle.dkv_store.proofs.Watched.{ends}
use Rattle.dkv_store.proofs.Leading.{watch_leads}
use Rattle.dkv_store.proofs.store.Store.finish.Goals as goal

pub returns-clause-gone : goal.returns-clause-gone
returns-clause-gone g c =
    c.unwatch.ensures.row
    ∙ (λ i. with_watches (rows_without (c.poll-told.ensures.number i) (c.poll-told.ensures.keys i) (c.poll-told.ensures.moment i).core.watches) (c.poll-told.ensures.moment i))

pub returns-clause-steps : goal.returns-clause-steps
returns-clause-steps g c =
    ends c.args.self.now c.poll-told.new.self c.unwatch.new.self (rows_without c.poll-told.new.watcher.number c.poll-told.new.watcher.keys c.poll-told.new.self.core.watches)
    c.args.at c.args.watcher c.poll-told.new.watcher c.poll-told.result c.unwatch.ensures.row c.poll-told.ensures.steps

pub returns-clause-goes : goal.returns-clause-goes
returns-clause-goes g c =
    let t = effective_at c.args.self.now c.args.at in
    let w = c.args.watcher in
    watch_leads g.D.Disk.seen g.D.Disk.may_leave g.D.Disk.moment g.D.Disk.left_since c.args.self.now c.unwatch.new.self t (rows_without w.number w.keys c.args.self.now.core.watches)
    (returns-clause-gone g c)
