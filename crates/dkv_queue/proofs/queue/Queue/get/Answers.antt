use Rattle.std.proofs.Common.{sym, ap, ◌∙◌}
use Rattle.std.specs.List.{list_all}
use Rattle.dkv_base.specs.State.{is_in_id_order}
use Rattle.dkv_queue.specs.Rows.{Rows, messages_of, has_schedule}
use Rattle.dkv_queue.proofs.Looks.{all-messages, order-messages}
use Rattle.dkv_queue.proofs.queue.Queue.get.Goals as goal

pub returns-in-Some-clause-order : goal.returns-in-Some-clause-order
returns-in-Some-clause-order c = sym (ap (λ (q : Rows). is_in_id_order (messages_of q.rows)) c.self.view_is) ∙ order-messages c.self.inside.rows.items ∙ c.self.invariant.rising

pub returns-in-Some-clause-schedules : goal.returns-in-Some-clause-schedules
returns-in-Some-clause-schedules c =
    sym (ap (λ (q : Rows). list_all has_schedule (messages_of q.rows)) c.self.view_is) ∙ all-messages has_schedule c.self.inside.rows.items ∙ c.self.invariant.schedules

pub returns-in-None-clause-order : goal.returns-in-None-clause-order
returns-in-None-clause-order c = sym (ap (λ (q : Rows). is_in_id_order (messages_of q.rows)) c.self.view_is) ∙ order-messages c.self.inside.rows.items ∙ c.self.invariant.rising

pub returns-in-None-clause-schedules : goal.returns-in-None-clause-schedules
returns-in-None-clause-schedules c =
    sym (ap (λ (q : Rows). list_all has_schedule (messages_of q.rows)) c.self.view_is) ∙ all-messages has_schedule c.self.inside.rows.items ∙ c.self.invariant.schedules
