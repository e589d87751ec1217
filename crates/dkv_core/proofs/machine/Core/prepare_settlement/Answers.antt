use Rattle.std.proofs.Common.{Bool, ℕ, sym, subst}
use Rattle.std.proofs.lemmas.Result.{IfOk-weaker}
use Rattle.dkv_base.specs.declared.types.Call.TheVariants.{Fail}
use Rattle.dkv_core.specs.Decisions.{Goes, settling}
use Rattle.dkv_core.proofs.machine.Core.prepare_settlement.Goals as goal

pub returns-then-done-clause-goes : goal.returns-then-done-clause-goes
returns-then-done-clause-goes c who =
    subst (λ (b : Bool). Goes c.args.self.now who c.args.at (settling b c.args.id) c.prepare_ack.result) (sym c.if-done.true) (c.prepare_ack.ensures who)

pub returns-else-done-clause-goes : goal.returns-else-done-clause-goes
returns-else-done-clause-goes c =
    let new = c.prepare_failure.new.self in
    IfOk-weaker c.prepare_failure.result (λ p. (who : ℕ) → Goes new who c.args.at (Fail c.args.id) p) (λ p. (who : ℕ) → Goes new who c.args.at (settling c.args.done c.args.id) p)
    (λ p is who. subst (λ (b : Bool). Goes new who c.args.at (settling b c.args.id) p) (sym c.if-done.false) (is who))
    c.prepare_failure.ensures.goes
