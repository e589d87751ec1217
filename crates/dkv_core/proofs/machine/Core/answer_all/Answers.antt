use Rattle.std.proofs.Common.{◌+◌, ◌<◌, List, [], length, take, sym, ap, subst, ◌∙◌, arith}
use Rattle.std.specs.Prelude.{Result, Ok, Err, OnErr}
use Rattle.dkv_base.specs.declared.types.Answer.{Answer}
use Rattle.dkv_core.specs.Seats.{rows_beside}
use Rattle.dkv_core.specs.declared.seats.Seat.{Seat}
use Rattle.dkv_core.proofs.Running.{Ran, ran_none, ran_next, cut_short}
use Rattle.dkv_core.proofs.Replying.{stays}
use Rattle.dkv_core.proofs.SeatRows.{beside_none}
use Rattle.dkv_core.proofs.machine.Core.answer_all.Goals as goal

on_err : {A E P : Type 0} (r : Result A E) → P → OnErr r P
on_err (Ok x) p = tt
on_err (Err e) p = p

pub loop-step-init : goal.loop-step-init
loop-step-init c = record {
  ran = subst (λ (rs : List Answer). Ran c.args.self.now [] rs c.args.self.now c.args.seats.now.items) (sym c.new-answers.ensures) (ran_none c.args.self.now c.args.seats.now.items c.requires.seats);
  few = omega arith;
  rows = ap (λ (ss : List Seat). rows_beside ss c.args.self.now.watches) c.requires.seats ∙ beside_none c.args.self.now.watches;
}

pub loop-step-preserved : goal.loop-step-preserved
loop-step-preserved c =
    let i = c.loop-step.step-index in
    let ps = c.args.steps.now in
    let lt : i < length ps = omega arith in
    record {
      ran = subst (λ (rs : List Answer). Ran c.args.self.now (take (i + 1) ps) rs c.step.new.self c.step.new.seats.items) (sym c.in_ok-add.ensures.ok)
          (ran_next c.args.self.now c.loop-step.self c.step.new.self c.loop-step.seats.items c.step.new.seats.items ps i c.step-item.result c.loop-step.answers c.in_ok-answer.answer lt c.step-item.is c.loop-step.invariant.ran c.in_ok-answer.ensures.answer);
      few = omega (arith, c.in_ok-answer.ensures.next, c.loop-step.invariant.few);
      rows = c.in_ok-answer.ensures.watches ∙ c.loop-step.invariant.rows;
    }

pub returns-in_err-add-clause-err : goal.returns-in_err-add-clause-err
returns-in_err-add-clause-err c =
    let i = c.loop-step.step-index in
    let ps = c.args.steps.now in
    let lt : i < length ps = omega arith in
    let ran = ran_next c.args.self.now c.loop-step.self c.step.new.self c.loop-step.seats.items c.step.new.seats.items ps i c.step-item.result c.loop-step.answers c.in_ok-answer.answer lt c.step-item.is c.loop-step.invariant.ran c.in_ok-answer.ensures.answer in
    on_err c.from_residual-in_err-add.result (cut_short c.args.self.now c.step.new.self ps (i + 1) ran.leads)

pub returns-in_err-answer-clause-err : goal.returns-in_err-answer-clause-err
returns-in_err-answer-clause-err c =
    on_err c.from_residual.result
    (cut_short c.args.self.now c.step.new.self c.args.steps.now c.loop-step.step-index (stays _ c.loop-step.self c.step.new.self c.in_err-answer.ensures.err c.loop-step.invariant.ran.leads))
