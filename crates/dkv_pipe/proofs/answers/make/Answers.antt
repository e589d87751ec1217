use Rattle.std.proofs.Common.{Bool, ap, subst}
use Rattle.dkv_store.proofs.Turning.{rose_either}
use Rattle.dkv_pipe.specs.Told.{Tells}
use Rattle.dkv_pipe.proofs.Calls.{call_granted, call_refused}
use Rattle.dkv_store.specs.Stores.{effective_at}
use Rattle.dkv_store.proofs.Stopping.{commit_goes_on}
use Rattle.dkv_pipe.proofs.answers.make.Goals as goal

pub returns-clause-reply : goal.returns-clause-reply
returns-clause-reply g c =
    let came = c.commit-came.ensures in
    call_granted g.D.Disk.seen g.D.Disk.may_leave g.D.Disk.faults g.D.Disk.moment g.D.Disk.left_since c.args.store.now c.commit-came.new.self c.args.who c.args.moment c.args.call came.later
    c.commit-came.result c.tell.result came.steps came.answer came.goes (λ fault. rose_either g.D.Disk.seen g.D.Disk.faults c.args.store.now c.commit-came.new.self (ap (λ u. u.second) came.in_use) (came.cause fault))
    (subst (λ (b : Bool). Tells b c.commit-came.result c.tell.result) c.is_write-writes.ensures c.tell.ensures)

pub returns-clause-none : goal.returns-clause-none
returns-clause-none g c =
    let came = c.commit-came.ensures in
    call_refused g.D.Disk.seen g.D.Disk.may_leave g.D.Disk.faults g.D.Disk.moment g.D.Disk.left_since c.args.store.now c.commit-came.new.self c.args.who c.args.moment c.args.call came.later
    c.commit-came.result c.tell.result came.answer came.goes
    (subst (λ (b : Bool). Tells b c.commit-came.result c.tell.result) c.is_write-writes.ensures c.tell.ensures)

pub returns-clause-unstopped : goal.returns-clause-unstopped
returns-clause-unstopped g c none =
    commit_goes_on c.args.store.now c.commit-came.new.self c.args.who (effective_at c.args.store.now c.args.moment) c.args.call c.commit-came.result c.commit-came.ensures.answer none
