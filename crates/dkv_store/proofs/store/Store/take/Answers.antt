use Rattle.std.proofs.Common.{◌∙◌, sym, arith}
use Rattle.dkv_store.specs.Stores.{effective_at}
use Rattle.dkv_store.proofs.Taking.{take_answers, stopped_takes}
use Rattle.dkv_store.proofs.Leading.{raised_leads, take_leads}
use Rattle.dkv_store.proofs.store.Store.take.Goals as goal

pub returns-clause-steps : goal.returns-clause-steps
returns-clause-steps g c =
    take_answers c.args.self.now c.take_kept.new.self (sym c.first_stop.ensures ∙ c.in_default.is) c.take_kept.ensures.disks c.args.who c.args.at c.take_kept.result c.take_kept.ensures.taken c.take_kept.ensures.refused

pub returns-clause-goes : goal.returns-clause-goes
returns-clause-goes g c =
    take_leads g.D.Disk.seen g.D.Disk.may_leave g.D.Disk.moment g.D.Disk.left_since c.args.self.now c.take_kept.new.self c.take_kept.ensures.disks
    c.args.who (effective_at c.args.self.now c.args.at) c.take_kept.result c.take_kept.ensures.taken c.take_kept.ensures.refused

-- ---- behind a stop

pub returns-in-Some-clause-steps : goal.returns-in-Some-clause-steps
returns-in-Some-clause-steps g c =
    stopped_takes c.args.self.now c.raise_to.new.self c.args.who c.args.at c.in-Some.place (sym c.first_stop.ensures ∙ c.in-Some.is) c.raise_to.ensures.raised

pub returns-in-Some-clause-refused : goal.returns-in-Some-clause-refused
returns-in-Some-clause-refused g c = (sym c.first_stop.ensures ∙ c.in-Some.is, c.raise_to.ensures.raised)

pub returns-in-Some-clause-goes : goal.returns-in-Some-clause-goes
returns-in-Some-clause-goes g c =
    raised_leads g.D.Disk.seen g.D.Disk.may_leave g.D.Disk.moment g.D.Disk.left_since c.args.self.now c.raise_to.new.self
    (effective_at c.args.self.now c.args.at) c.raise_to.ensures.raised
