use Rattle.std.proofs.Common.{ap, refl}
use Rattle.dkv_base.specs.declared.types.Commit.{Commit}
use Rattle.dkv_store.specs.declared.recall.Recall.{Recall}
use Rattle.dkv_store.specs.Held.{picked}
use Rattle.dkv_store.proofs.Keeping.{kept_begun}
use Rattle.dkv_store.proofs.Results.{named_on}
use Rattle.dkv_store.proofs.store.Store.begin.Goals as goal

pub invariant_of-result : goal.invariant_of-result
invariant_of-result g c =
    kept_begun g.D.Disk.seen g.D.Disk.may_leave g.D.Disk.faults c.args.files.journal c.args.files.used c.args.files.other _ c.requires.sound c.requires.none c.requires.late
    (named_on (λ (d : Recall Commit). d.value) _ c.args.files.doubt c.requires.named)
    (ap (λ w. w.state) c.of-base.ensures) c.new-trail.ensures.items
    (ap (λ f. picked f.in_use.second f.used f.other) c.of-first.ensures) (ap (λ f. picked f.in_use.second f.other f.used) c.of-first.ensures) refl refl c.requires.stands
