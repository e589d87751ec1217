use Rattle.std.proofs.Common.{min, false, Some, ap, sym, ◌∙◌, arith, option_map}
use Rattle.dkv_base.specs.declared.moments.TheConstants.{MAX_MOMENT}
use Rattle.dkv_base.specs.declared.types.Message.{Message}
use Rattle.dkv_base.specs.Messages.{exhausted}
use Rattle.dkv_base.specs.Ordered.{put_in}
use Rattle.dkv_queue.specs.declared.row.Row.{Row}
use Rattle.dkv_queue.specs.Rows.{Rows, row_cmp, is_row_out, failed, messages_of, message_at, has_schedule}
use Rattle.dkv_queue.proofs.Looks.{known-at, known-out, never-none, row_at-of}
use Rattle.dkv_queue.proofs.Changes.{failed-gone, failed-again}
use Rattle.dkv_queue.proofs.Failures.{schedule-failed, fails-again, fails-last, not_exhausted, now_exhausted, message_at-put_in}
use Rattle.dkv_queue.proofs.Keeps.{kept-some, kept-schedule, kept-settled, kept-again}
use Rattle.dkv_queue.proofs.queue.Queue.retry.Goals as goal

pub overflow_sub-self : goal.overflow_sub-self
overflow_sub-self c =
    let is = known-at c.args.id c.self.inside.rows.items c.in-Some.row c.in-Some.ensures.was in
    let out = known-out c.args.id c.self.inside.rows.items c.in-Some.row c.self.invariant.rising is (ap (λ (q : Rows). is_row_out c.args.id q.rows) c.self.view_is ∙ c.requires) in
    kept-some c.self.inside.rows c.self.inside.due c.self.inside.outs c.self.inside.room c.args.id c.in-Some.row c.self.invariant is out

pub fail-requires-clause-schedule : goal.fail-requires-clause-schedule
fail-requires-clause-schedule c =
    kept-schedule c.self.inside.rows c.self.inside.due c.self.inside.outs c.self.inside.room c.args.id c.in-Some.row c.self.invariant
    (known-at c.args.id c.self.inside.rows.items c.in-Some.row c.in-Some.ensures.was)

pub put-requires : goal.put-requires
put-requires c =
    let is = known-at c.args.id c.self.inside.rows.items c.in-Some.row c.in-Some.ensures.was in
    let out = known-out c.args.id c.self.inside.rows.items c.in-Some.row c.self.invariant.rising is (ap (λ (q : Rows). is_row_out c.args.id q.rows) c.self.view_is ∙ c.requires) in
    let some = kept-some c.self.inside.rows c.self.inside.due c.self.inside.outs c.self.inside.room c.args.id c.in-Some.row c.self.invariant is out in
    omega (arith, some, c.self.invariant.due_room)

pub invariant_of-self : goal.invariant_of-self
invariant_of-self c =
    let is = known-at c.args.id c.self.inside.rows.items c.in-Some.row c.in-Some.ensures.was in
    let out = known-out c.args.id c.self.inside.rows.items c.in-Some.row c.self.invariant.rising is (ap (λ (q : Rows). is_row_out c.args.id q.rows) c.self.view_is ∙ c.requires) in
    let schedule = kept-schedule c.self.inside.rows c.self.inside.due c.self.inside.outs c.self.inside.room c.args.id c.in-Some.row c.self.invariant is in
    kept-again c.self.inside.rows c.take.new.self c.put-in-Ok.new.self c.self.inside.due c.put.new.self c.self.inside.outs c.self.inside.room c.args.id c.in-Some.row c.in-Ok.message c.self.invariant
    is out (ap (λ (m : Message). m.id) c.in-Ok.ensures.again ∙ row_at-of c.args.id c.self.inside.rows.items c.in-Some.row is)
    (ap has_schedule c.in-Ok.ensures.again ∙ schedule-failed c.min.result c.in-Some.row.message schedule c.in-Ok.ensures.left)
    c.in-Some.ensures.items c.in-Some.ensures.gained c.put.ensures.items c.put.ensures.kept c.put-in-Ok.ensures.items c.put-in-Ok.ensures.kept

pub invariant_of-self-in-Err : goal.invariant_of-self-in-Err
invariant_of-self-in-Err c =
    let is = known-at c.args.id c.self.inside.rows.items c.in-Some.row c.in-Some.ensures.was in
    let out = known-out c.args.id c.self.inside.rows.items c.in-Some.row c.self.invariant.rising is (ap (λ (q : Rows). is_row_out c.args.id q.rows) c.self.view_is ∙ c.requires) in
    kept-settled c.self.inside.rows c.take.new.self c.self.inside.due c.self.inside.outs c.self.inside.room c.args.id c.in-Some.row c.self.invariant is out c.in-Some.ensures.items c.in-Some.ensures.gained

pub unreachable-requires : goal.unreachable-requires
unreachable-requires c =
    never-none (λ r. r.out) c.args.id c.self.inside.rows.items c.self.invariant.rising c.in-None.ensures.was (ap (λ (q : Rows). is_row_out c.args.id q.rows) c.self.view_is ∙ c.requires)

pub returns-in-Ok-clause-rows : goal.returns-in-Ok-clause-rows
returns-in-Ok-clause-rows c =
    let is = known-at c.args.id c.self.inside.rows.items c.in-Some.row c.in-Some.ensures.was in
    c.put-in-Ok.ensures.items ∙ ap (put_in row_cmp _) c.in-Some.ensures.items
    ∙ failed-again c.args.id c.min.result c.self.inside.rows.items c.in-Some.row (record { message = c.in-Ok.message; out = false }) c.self.invariant.rising is
    (fails-again c.min.result c.in-Some.row c.in-Ok.ensures.left ∙ ap (λ (m : Message). Some (waiting m)) (sym c.in-Ok.ensures.again))
    (ap (λ (m : Message). m.id) c.in-Ok.ensures.again ∙ row_at-of c.args.id c.self.inside.rows.items c.in-Some.row is)
    ∙ ap (λ at. failed c.args.id at c.self.inside.rows.items) c.min.ensures
    ∙ ap (λ (q : Rows). failed c.args.id (min c.args.at MAX_MOMENT) q.rows) c.self.view_is
  where
    waiting : Message → Row
    waiting m = record { message = m; out = false }

pub returns-in-Ok-clause-answer : goal.returns-in-Ok-clause-answer
returns-in-Ok-clause-answer c =
    let is = known-at c.args.id c.self.inside.rows.items c.in-Some.row c.in-Some.ensures.was in
    let own = ap (λ (m : Message). m.id) c.in-Ok.ensures.again ∙ row_at-of c.args.id c.self.inside.rows.items c.in-Some.row is in
    record {
      left = sym (ap (λ (q : Rows). exhausted c.args.id (messages_of q.rows)) c.self.view_is) ∙ not_exhausted c.args.id c.self.inside.rows.items c.in-Some.row c.self.invariant.rising is c.in-Ok.ensures.left;
      due = ap (λ rows. option_map (λ m. m.due) (message_at c.args.id rows)) c.put-in-Ok.ensures.items
          ∙ ap (option_map (λ m. m.due)) (message_at-put_in c.args.id (record { message = c.in-Ok.message; out = false }) c.take.new.self.items own);
    }

pub returns-in-Err-clause-rows : goal.returns-in-Err-clause-rows
returns-in-Err-clause-rows c =
    let is = known-at c.args.id c.self.inside.rows.items c.in-Some.row c.in-Some.ensures.was in
    c.in-Some.ensures.items
    ∙ failed-gone c.args.id c.min.result c.self.inside.rows.items c.in-Some.row c.self.invariant.rising is (fails-last c.min.result c.in-Some.row c.in-Err.ensures.last)
    ∙ ap (λ at. failed c.args.id at c.self.inside.rows.items) c.min.ensures
    ∙ ap (λ (q : Rows). failed c.args.id (min c.args.at MAX_MOMENT) q.rows) c.self.view_is

pub returns-in-Err-clause-answer : goal.returns-in-Err-clause-answer
returns-in-Err-clause-answer c =
    let is = known-at c.args.id c.self.inside.rows.items c.in-Some.row c.in-Some.ensures.was in
    sym (ap (λ (q : Rows). exhausted c.args.id (messages_of q.rows)) c.self.view_is)
    ∙ now_exhausted c.args.id c.self.inside.rows.items c.in-Some.row c.self.invariant.rising is c.in-Err.ensures.last ∙ ap Some (sym c.in-Err.ensures.exhausted)
