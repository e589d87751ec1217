use Rattle.std.proofs.Common.{sym, ap, subst, Some, None}
use Rattle.dkv_queue.specs.Rows.{Rows}
use Rattle.dkv_queue.specs.Answers.{IsDueNow, IsNoneDue}
use Rattle.dkv_queue.proofs.Firsts.{first-now, first-later, first-none}
use Rattle.dkv_queue.proofs.queue.Queue.next_due.Goals as goal

pub returns-then-first-at : goal.returns-then-first-at
returns-then-first-at c =
    subst (λ rows. IsDueNow c.args.at rows c.in-Some.first.now.id) (ap (λ (q : Rows). q.rows) c.self.view_is)
    (first-now c.args.at _ c.self.inside.due.items c.in-Some.first.now c.self.invariant.rising c.in-Some.ensures.rising c.self.invariant.linked (sym c.in-Some.ensures.first) c.if-first-at.true)

pub returns-else-first-at : goal.returns-else-first-at
returns-else-first-at c =
    subst (λ rows. IsNoneDue c.args.at rows (Some c.in-Some.first.now.due)) (ap (λ (q : Rows). q.rows) c.self.view_is)
    (first-later c.args.at _ c.self.inside.due.items c.in-Some.first.now c.self.invariant.rising c.in-Some.ensures.rising c.self.invariant.linked (sym c.in-Some.ensures.first) c.if-first-at.false)

pub returns-in-None : goal.returns-in-None
returns-in-None c =
    subst (λ rows. IsNoneDue c.args.at rows None) (ap (λ (q : Rows). q.rows) c.self.view_is)
    (first-none c.args.at _ c.self.inside.due.items c.self.invariant.rising c.self.invariant.linked (sym c.in-None.ensures.first))
