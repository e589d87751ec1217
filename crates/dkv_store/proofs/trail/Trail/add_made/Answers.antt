use Rattle.std.proofs.Common.{◌∙◌, ap, sym}
use Rattle.dkv_base.specs.Messages.{is_out}
use Rattle.dkv_base.specs.Trails.{out}
use Rattle.dkv_store.proofs.Placing.{settled_out}
use Rattle.dkv_store.proofs.trail.Trail.add_made.Goals as goal

pub forget-requires : goal.forget-requires
forget-requires c =
    ap (λ l. is_out c.in-Some.id (out l)) c.add.ensures.items
    ∙ settled_out c.args.self.now.items c.args.commit c.in-Some.id (sym c.in-Some.ensures)
