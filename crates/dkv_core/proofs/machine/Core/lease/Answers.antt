use Rattle.std.proofs.Common.{List, ◌||◌, refl, ap, subst, ◌∙◌}
use Rattle.std.specs.List.{list_all}
use Rattle.dkv_base.specs.State.{same_id}
use Rattle.dkv_base.specs.Messages.{is_out}
use Rattle.dkv_queue.specs.declared.row.Row.{Row}
use Rattle.dkv_queue.specs.Rows.{messages_of, out_of}
use Rattle.dkv_core.specs.Cores.{Database, is_kept}
use Rattle.dkv_core.proofs.Rows.{messages-taken, out-more_taken}
use Rattle.dkv_core.proofs.Viewed.{HasRows, waits_row}
use Rattle.dkv_core.proofs.machine.Core.lease.Goals as goal

pub take-requires : goal.take-requires
take-requires c =
    let rows = c.self.inside.queue.rows in
    let has : HasRows c.args.self.now rows = subst (λ (w : Database). HasRows w rows) c.self.view_is (record { messages = refl; out = refl }) in
    waits_row c.args.self.now rows has c.args.id c.requires

pub invariant_of-self : goal.invariant_of-self
invariant_of-self c = (
  c.self.invariant.0,
  c.self.invariant.1,
  ap (list_all (is_kept c.self.inside.number)) (ap messages_of c.take.ensures.rows ∙ messages-taken c.args.id c.self.inside.queue.rows) ∙ c.self.invariant.2,
  c.self.invariant.3,
)

pub returns-clause-state : goal.returns-clause-state
returns-clause-state c =
    let x = c.self.inside in
    (λ i. record { number = x.number; moment = x.last; entries = x.entries.entries; messages = (ap messages_of c.take.ensures.rows ∙ messages-taken c.args.id x.queue.rows) i })
    ∙ ap (λ (w : Database). w.state) c.self.view_is

pub returns-clause-out : goal.returns-clause-out
returns-clause-out c k =
    let rows = c.self.inside.queue.rows in
    let has : HasRows c.args.self.now rows = subst (λ (w : Database). HasRows w rows) c.self.view_is (record { messages = refl; out = refl }) in
    ap (λ (rs : List Row). is_out k (out_of rs)) c.take.ensures.rows
    ∙ out-more_taken c.args.id k rows (waits_row c.args.self.now rows has c.args.id c.requires)
    ∙ ap (λ (w : Database). is_out k w.out || same_id k c.args.id) c.self.view_is
