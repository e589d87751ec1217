use Rattle.std.proofs.Common.{ap, ◌∙◌}
use Rattle.dkv_queue.specs.Rows.{Rows, is_row_out}
use Rattle.dkv_queue.proofs.Looks.{out-row, if-some}
use Rattle.dkv_queue.proofs.Keeps.{kept-some, kept-settled}
use Rattle.dkv_queue.proofs.queue.Queue.settle.Goals as goal

pub overflow_sub-self : goal.overflow_sub-self
overflow_sub-self c =
    let row = out-row c.args.id c.self.inside.rows.items c.take.result c.self.invariant.rising c.take.ensures.was (ap (λ (q : Rows). is_row_out c.args.id q.rows) c.self.view_is ∙ c.requires) in
    kept-some c.self.inside.rows c.self.inside.due c.self.inside.outs c.self.inside.room c.args.id row.0 c.self.invariant row.2 row.3

pub invariant_of-self : goal.invariant_of-self
invariant_of-self c =
    let row = out-row c.args.id c.self.inside.rows.items c.take.result c.self.invariant.rising c.take.ensures.was (ap (λ (q : Rows). is_row_out c.args.id q.rows) c.self.view_is ∙ c.requires) in
    kept-settled c.self.inside.rows c.take.new.self c.self.inside.due c.self.inside.outs c.self.inside.room c.args.id row.0 c.self.invariant row.2 row.3
    c.take.ensures.items (if-some c.take.result row.0 _ row.1 c.take.ensures.gained)
