use Rattle.std.proofs.Common.{Some, None, sym, ap, ◌∙◌}
use Rattle.dkv_queue.specs.Rows.{Rows, is_row_out}
use Rattle.dkv_queue.proofs.Looks.{out-found}
use Rattle.dkv_queue.proofs.queue.Queue.is_out.Goals as goal

pub returns-in-Some : goal.returns-in-Some
returns-in-Some c =
    sym (out-found c.args.id c.self.inside.rows.items (Some c.in-Some.row.now) c.self.invariant.rising (sym c.in-Some.ensures.found)) ∙ ap (λ (q : Rows). is_row_out c.args.id q.rows) c.self.view_is

pub returns-in-None : goal.returns-in-None
returns-in-None c =
    sym (out-found c.args.id c.self.inside.rows.items None c.self.invariant.rising (sym c.in-None.ensures.found)) ∙ ap (λ (q : Rows). is_row_out c.args.id q.rows) c.self.view_is
