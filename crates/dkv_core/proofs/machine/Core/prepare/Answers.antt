use Rattle.std.proofs.Common.{sym, subst}
use Rattle.dkv_base.specs.declared.types.Call.{Call}
use Rattle.dkv_core.specs.Decisions.{Goes}
use Rattle.dkv_core.proofs.machine.Core.prepare.Goals as goal

pub returns-in-Ack-clause-decided : goal.returns-in-Ack-clause-decided
returns-in-Ack-clause-decided c =
    subst (λ (a : Call). Goes c.args.self.now c.args.who c.args.at a c.prepare_ack.result) (sym c.in-Ack.is) (c.prepare_ack.ensures c.args.who)

pub returns-in_ok-prepare_failure-in-Fail-clause-decided : goal.returns-in_ok-prepare_failure-in-Fail-clause-decided
returns-in_ok-prepare_failure-in-Fail-clause-decided c =
    subst (λ (a : Call). Goes c.prepare_failure.new.self c.args.who c.args.at a c.in_ok-prepare_failure-in-Fail.field-0) (sym c.in-Fail.is)
    (c.in_ok-prepare_failure-in-Fail.ensures.goes c.args.who)
