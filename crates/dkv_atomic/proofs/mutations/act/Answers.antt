use Rattle.std.proofs.Common.{true, refl, sym, ◌∙◌, subst}
use Rattle.dkv_base.specs.State.{visible}
use Rattle.dkv_atomic.specs.Overlays.{Changes, IsStep}
use Rattle.dkv_table.specs.Places.{marker}
use Rattle.dkv_atomic.proofs.OneMutation.{deletes, stores, ends}
use Rattle.dkv_atomic.proofs.mutations.act.Goals as goal

pub returns-then-is_delete : goal.returns-then-is_delete
returns-then-is_delete g c =
    let es = g.T.Table.content c.args.table.now in
    subst (λ (v : Changes). IsStep c.args.mutation.now c.args.at c.args.n (visible c.args.at es) c.args.overlay.now v true) (sym c.in_ok-remove.ensures.ok)
    (deletes c.args.mutation.now c.args.at c.args.n c.args.overlay.now es (g.met.T.Table.ordered c.args.table.now) c.in_ok-remove.ensures.rises c.requires
    (sym c.is_delete.ensures ∙ c.if-is_delete.true) (marker c.in_ok-copy.field-0) c.in_ok-copy.ensures)

pub returns-in_ok-put : goal.returns-in_ok-put
returns-in_ok-put g c =
    let es = g.T.Table.content c.args.table.now in
    subst (λ (v : Changes). IsStep c.args.mutation.now c.args.at c.args.n (visible c.args.at es) c.args.overlay.now v true) (sym c.in_ok-put.ensures.ok)
    (stores c.args.mutation.now c.args.at c.args.n c.args.overlay.now es (g.met.T.Table.ordered c.args.table.now) c.in_ok-put.ensures.rises c.requires
    (sym c.is_delete.ensures ∙ c.if-is_delete.false) c.in-Some.value (sym c.in_ok-value.ensures ∙ c.in-Some.is) c.in_ok-entry.entry c.in_ok-entry.ensures (sym c.is_visible.ensures ∙ c.if-is_visible.true))

pub returns-in_ok-remove-2 : goal.returns-in_ok-remove-2
returns-in_ok-remove-2 g c =
    let es = g.T.Table.content c.args.table.now in
    subst (λ (v : Changes). IsStep c.args.mutation.now c.args.at c.args.n (visible c.args.at es) c.args.overlay.now v true) (sym c.in_ok-remove-2.ensures.ok)
    (ends c.args.mutation.now c.args.at c.args.n c.args.overlay.now es (g.met.T.Table.ordered c.args.table.now) c.in_ok-remove-2.ensures.rises c.requires
    (sym c.is_delete.ensures ∙ c.if-is_delete.false) c.in-Some.value (sym c.in_ok-value.ensures ∙ c.in-Some.is) c.in_ok-entry.entry c.in_ok-entry.ensures (sym c.is_visible.ensures ∙ c.if-is_visible.false)
    (marker c.in_ok-entry.entry.key) refl)
