use Rattle.dkv_store.specs.Stores.{effective_at}
use Rattle.dkv_store.proofs.Taking.{read_answers}
use Rattle.dkv_store.proofs.Leading.{read_leads}
use Rattle.dkv_store.proofs.store.Store.spell_read.Goals as goal

pub returns-clause-steps : goal.returns-clause-steps
returns-clause-steps g c who =
    read_answers c.args.self.now c.spell_kept.new.self who c.args.at c.args.ranges.now c.requires.unlimited c.spell_kept.ensures.content

pub returns-clause-goes : goal.returns-clause-goes
returns-clause-goes g c =
    read_leads g.D.Disk.seen g.D.Disk.may_leave g.D.Disk.moment g.D.Disk.left_since c.args.self.now c.spell_kept.new.self (effective_at c.args.self.now c.args.at) c.spell_kept.ensures.content
