use Rattle.std.proofs.Common.{not, is_some, ap, ◌∙◌, arith}
use Rattle.dkv_base.specs.Ordered.{put_in}
use Rattle.dkv_queue.specs.Rows.{Rows, row_cmp, waits, handed_out}
use Rattle.dkv_queue.proofs.Looks.{known-at, known-waits, never-none, if-there}
use Rattle.dkv_queue.proofs.Changes.{handed_out-made}
use Rattle.dkv_queue.proofs.Counts.{out_within}
use Rattle.dkv_queue.proofs.Keeps.{due_listed, kept-handed_out}
use Rattle.dkv_queue.proofs.queue.Queue.take.Goals as goal

pub prove-unreachable-requires : goal.prove-unreachable-requires
prove-unreachable-requires c =
    let rows = c.self.inside.rows.items in
    let is = known-at c.args.id rows c.in-Some.row c.in-Some.ensures.was in
    let waiting = known-waits c.args.id rows c.in-Some.row c.self.invariant.rising is (ap (λ (q : Rows). waits c.args.id q.rows) c.self.view_is ∙ c.requires) in
    let listed = ap is_some c.take-in-Some.ensures.was ∙ due_listed rows c.self.inside.due.items c.args.id c.in-Some.row c.self.invariant.linked is waiting in
    let kept = kept-handed_out c.self.inside.rows c.take.new.self c.put.new.self c.self.inside.due c.take-in-Some.new.self c.self.inside.outs c.self.inside.room c.args.id c.in-Some.row c.self.invariant
    is waiting c.in-Some.ensures.items c.in-Some.ensures.gained c.take-in-Some.ensures.items (if-there c.take-in-Some.result _ listed c.take-in-Some.ensures.gained)
    c.put.ensures.items c.put.ensures.kept in
    absurd (omega (arith, kept.outs, out_within c.put.new.self.items, c.if-prove.true, c.len-held.ensures))

pub invariant_of-self : goal.invariant_of-self
invariant_of-self c =
    let rows = c.self.inside.rows.items in
    let is = known-at c.args.id rows c.in-Some.row c.in-Some.ensures.was in
    let waiting = known-waits c.args.id rows c.in-Some.row c.self.invariant.rising is (ap (λ (q : Rows). waits c.args.id q.rows) c.self.view_is ∙ c.requires) in
    let listed = ap is_some c.take-in-Some.ensures.was ∙ due_listed rows c.self.inside.due.items c.args.id c.in-Some.row c.self.invariant.linked is waiting in
    kept-handed_out c.self.inside.rows c.take.new.self c.put.new.self c.self.inside.due c.take-in-Some.new.self c.self.inside.outs c.self.inside.room c.args.id c.in-Some.row c.self.invariant
    is waiting c.in-Some.ensures.items c.in-Some.ensures.gained c.take-in-Some.ensures.items (if-there c.take-in-Some.result _ listed c.take-in-Some.ensures.gained)
    c.put.ensures.items c.put.ensures.kept

pub unreachable-requires : goal.unreachable-requires
unreachable-requires c =
    never-none (λ r. not r.out) c.args.id c.self.inside.rows.items c.self.invariant.rising c.in-None.ensures.was (ap (λ (q : Rows). waits c.args.id q.rows) c.self.view_is ∙ c.requires)

pub returns-clause-rows : goal.returns-clause-rows
returns-clause-rows c =
    c.put.ensures.items ∙ ap (put_in row_cmp _) c.in-Some.ensures.items
    ∙ handed_out-made c.args.id c.self.inside.rows.items c.in-Some.row c.self.invariant.rising (known-at c.args.id c.self.inside.rows.items c.in-Some.row c.in-Some.ensures.was)
    ∙ ap (λ (q : Rows). handed_out c.args.id q.rows) c.self.view_is
