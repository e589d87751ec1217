use Rattle.std.proofs.Common.{◌∙◌, sym, ap, subst, ℕ, List, Option, length}
use Rattle.dkv_journal.specs.Records.{IsLaid}
use Rattle.dkv_store.specs.Trails.{IsSettling}
use Rattle.dkv_store.proofs.Placing.{settlement_length}
use Rattle.dkv_store.proofs.trail.Trail.refill.Goals as goal

pub refill-requires : goal.refill-requires
refill-requires c =
    subst (λ (n : ℕ). IsLaid n c.in-Some.laid) (sym (ap length c.settlement-body.ensures.body ∙ settlement_length c.args.commit.now c.requires.settles))
    (subst (λ (o : Option (List ℕ)). IsSettling o) c.in-Some.is c.self.invariant.1.settled)
