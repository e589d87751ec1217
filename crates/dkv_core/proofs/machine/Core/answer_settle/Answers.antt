use Rattle.std.proofs.Common.{◌≡◌, ℕ, true, List, sym, ap, subst, ◌∙◌, arith}
use Rattle.dkv_base.specs.declared.types.Answer.TheVariants as answer
use Rattle.dkv_base.specs.declared.types.Ask.TheVariants as ask
use Rattle.dkv_base.specs.declared.types.MsgId.{MsgId}
use Rattle.dkv_base.specs.State.{State}
use Rattle.dkv_base.specs.Messages.{is_out}
use Rattle.dkv_core.specs.Runs.{IsAnswered}
use Rattle.dkv_core.proofs.Replying.{Made, same_answers, settle_made}
use Rattle.dkv_core.proofs.machine.Core.answer_settle.Goals as goal

pub apply-requires : goal.apply-requires
apply-requires c = (c.in_ok-prepared.ensures.goes 0).ready

pub returns-clause-answer : goal.returns-clause-answer
returns-clause-answer c who =
    let mid = c.prepare_settlement.new.self in
    let new = c.apply.new.self in
    let id = c.args.id in
    let done = c.args.done in
    let p = c.in_ok-prepared.prepared in
    let out : is_out id mid.out ≡ true = ap (λ (ids : List MsgId). is_out id ids) c.in_ok-prepared.ensures.kept.out ∙ sym c.is_out.ensures ∙ c.if-not-is_out.false in
    let made : Made mid p new = record { state = c.apply.ensures.state; out = c.apply.ensures.out; greatest = c.apply.ensures.moment } in
    same_answers c.args.self.now mid new who c.args.at (ask.Settle id done) (answer.Settled c.apply.result) c.in_ok-prepared.ensures.kept
    (subst (λ (n : ℕ). IsAnswered mid who c.args.at (ask.Settle id done) (answer.Settled n) new) (sym c.apply.ensures.number)
    (settle_made mid new who c.args.at id done p out (c.in_ok-prepared.ensures.goes who) made))

pub returns-clause-next : goal.returns-clause-next
returns-clause-next c =
    let ready = (c.in_ok-prepared.ensures.goes 0).ready in
    omega (arith, ap (λ (s : State). s.number) c.apply.ensures.state, ready.number, ap (λ (s : State). s.number) c.in_ok-prepared.ensures.kept.state)
