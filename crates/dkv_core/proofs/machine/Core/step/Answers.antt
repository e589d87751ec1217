use Rattle.std.proofs.Common.{ℕ, sym, ap, ◌∙◌}
use Rattle.std.proofs.lemmas.Result.{IfOk-weaker}
use Rattle.dkv_base.specs.declared.types.Ask.TheVariants as ask
use Rattle.dkv_core.specs.Runs.{IsAnswered, IsAnsweredBeside, IsStep}
use Rattle.dkv_core.proofs.Watching.{as_step, step_read, step_write, step_take, step_settle}
use Rattle.dkv_core.proofs.machine.Core.step.Goals as goal

pub returns-in-Read-clause-answer : goal.returns-in-Read-clause-answer
returns-in-Read-clause-answer c =
    let old = c.args.self.now in
    let new = c.answer_read.new.self in
    let seats = c.args.seats.now.items in
    let step = c.args.step.now in
    let ranges = c.as_slice.result.now in
    IfOk-weaker c.answer_read.result (λ a. (who : ℕ) → IsAnswered old who c.moment-at.result (ask.Read ranges) a new) (λ a. IsStep old seats step a new seats)
    (λ a is. step_read old new seats step ranges c.moment-at.result a c.moment-at.ensures.value (c.in-Read.is ∙ ap ask.Read (sym c.as_slice.ensures)) (is step.who))
    c.answer_read.ensures.answer

pub returns-in-Write-clause-answer : goal.returns-in-Write-clause-answer
returns-in-Write-clause-answer c =
    let old = c.args.self.now in
    let new = c.answer_write.new.self in
    let seats = c.args.seats.now.items in
    let step = c.args.step.now in
    let w = c.in-Write.write in
    IfOk-weaker c.answer_write.result (λ a. IsAnswered old step.who c.moment-at.result (ask.Write w) a new) (λ a. IsStep old seats step a new seats)
    (λ a is. step_write old new seats step w c.moment-at.result a c.moment-at.ensures.value c.in-Write.is is)
    c.answer_write.ensures.answer

pub returns-in-Take-clause-answer : goal.returns-in-Take-clause-answer
returns-in-Take-clause-answer c =
    let old = c.args.self.now in
    let new = c.answer_take.new.self in
    let seats = c.args.seats.now.items in
    let step = c.args.step.now in
    IfOk-weaker c.answer_take.result (λ a. (who : ℕ) → IsAnswered old who c.moment-at.result ask.Take a new) (λ a. IsStep old seats step a new seats)
    (λ a is. step_take old new seats step c.moment-at.result a c.moment-at.ensures.value c.in-Take.is (is step.who))
    c.answer_take.ensures.answer

pub returns-in-Settle-clause-answer : goal.returns-in-Settle-clause-answer
returns-in-Settle-clause-answer c =
    let old = c.args.self.now in
    let new = c.answer_settle.new.self in
    let seats = c.args.seats.now.items in
    let step = c.args.step.now in
    let a = ask.Settle c.in-Settle.id c.in-Settle.done in
    IfOk-weaker c.answer_settle.result (λ r. (who : ℕ) → IsAnswered old who c.moment-at.result a r new) (λ r. IsStep old seats step r new seats)
    (λ r is. step_settle old new seats step c.in-Settle.id c.in-Settle.done c.moment-at.result r c.moment-at.ensures.value c.in-Settle.is (is step.who))
    c.answer_settle.ensures.answer

pub returns-in-Watch-clause-answer : goal.returns-in-Watch-clause-answer
returns-in-Watch-clause-answer c =
    let old = c.args.self.now in
    let new = c.answer_watch.new.self in
    let seats = c.args.seats.now.items in
    let after = c.answer_watch.new.seats.items in
    let step = c.args.step.now in
    let a = ask.Watch c.in-Watch.keys in
    IfOk-weaker c.answer_watch.result (λ r. IsAnsweredBeside old seats step.who c.moment-at.result a r new after) (λ r. IsStep old seats step r new after)
    (λ r is. as_step old new seats after step a c.moment-at.result r c.moment-at.ensures.value c.in-Watch.is is)
    c.answer_watch.ensures.answer

pub returns-in-Poll-clause-answer : goal.returns-in-Poll-clause-answer
returns-in-Poll-clause-answer c =
    let old = c.args.self.now in
    let new = c.answer_poll.new.self in
    let seats = c.args.seats.now.items in
    let after = c.answer_poll.new.seats.items in
    let step = c.args.step.now in
    IfOk-weaker c.answer_poll.result (λ r. IsAnsweredBeside old seats step.who c.moment-at.result ask.Poll r new after) (λ r. IsStep old seats step r new after)
    (λ r is. as_step old new seats after step ask.Poll c.moment-at.result r c.moment-at.ensures.value c.in-Poll.is is)
    c.answer_poll.ensures.answer
