use Rattle.std.proofs.Common.{ap, ◌∙◌}
use Rattle.std.specs.Prelude.{Result, Ok, Err, OnErr, OnOk}
use Rattle.dkv_core.specs.Cores.{Database}
use Rattle.dkv_core.proofs.Running.{stays_run}
use Rattle.dkv_core.proofs.machine.Core.run.Goals as goal

on_ok : {A E P Q : Type 0} (r : Result A E) → (P → Q) → OnOk r P → OnOk r Q
on_ok (Ok x) so p = so p
on_ok (Err e) so p = tt

on_err : {A E P Q : Type 0} (r : Result A E) → (P → Q) → OnErr r P → OnErr r Q
on_err (Ok x) so p = tt
on_err (Err e) so p = so p

pub returns-clause-leaves : goal.returns-clause-leaves
returns-clause-leaves c =
    on_ok c.answer_all-answers.result (stays_run _ c.answer_all-answers.new.self c.leave_all.new.self c.answer_all-answers.new.seats.items c.leave_all.ensures) c.answer_all-answers.ensures.leaves

pub returns-clause-err : goal.returns-clause-err
returns-clause-err c =
    on_err c.answer_all-answers.result
    (λ cut. (cut.0, stays_run _ c.answer_all-answers.new.self c.leave_all.new.self c.answer_all-answers.new.seats.items c.leave_all.ensures cut.1))
    c.answer_all-answers.ensures.err

pub returns-clause-watches : goal.returns-clause-watches
returns-clause-watches c = ap (λ (v : Database). v.watches) c.leave_all.ensures ∙ c.answer_all-answers.ensures.watches
