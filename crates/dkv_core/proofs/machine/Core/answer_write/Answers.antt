use Rattle.std.proofs.Common.{ℕ, sym, ap, subst, arith}
use Rattle.dkv_base.specs.declared.types.Answer.TheVariants as answer
use Rattle.dkv_base.specs.declared.types.Ask.TheVariants as ask
use Rattle.dkv_base.specs.declared.types.Call.TheVariants.{Write}
use Rattle.dkv_base.specs.State.{State}
use Rattle.dkv_core.specs.declared.prepared.Decided.{Decided}
use Rattle.dkv_core.specs.Cores.{Database}
use Rattle.dkv_core.specs.Decisions.{IsDecided}
use Rattle.dkv_core.specs.Runs.{IsAnswered}
use Rattle.dkv_core.proofs.Replying.{Made, SameAt, same_answers, write_limited, write_fails, write_not_u64, write_goes}
use Rattle.dkv_core.proofs.machine.Core.answer_write.Goals as goal

pub apply-requires : goal.apply-requires
apply-requires c =
    let is = subst (λ (d : Decided). (who : ℕ) → IsDecided c.prepare_write.new.self who c.args.at (Write c.args.write.now) d) c.in-Goes.is c.in_ok-limit.ensures.decided in
    (is c.args.who).ready

pub returns-in-Limit-clause-answer : goal.returns-in-Limit-clause-answer
returns-in-Limit-clause-answer c =
    let mid = c.prepare_write.new.self in
    let w = c.args.write.now in
    let is = subst (λ (d : Decided). (who : ℕ) → IsDecided mid who c.args.at (Write w) d) c.in-Limit.is c.in_ok-limit.ensures.decided in
    write_limited c.args.self.now mid c.args.who c.args.at w c.in-Limit.limit (is c.args.who) c.in_ok-limit.ensures.kept

pub returns-in-Fails-clause-answer : goal.returns-in-Fails-clause-answer
returns-in-Fails-clause-answer c =
    let mid = c.prepare_write.new.self in
    let new = c.raise.new.self in
    let w = c.args.write.now in
    let is = subst (λ (d : Decided). (who : ℕ) → IsDecided mid who c.args.at (Write w) d) c.in-Fails.is c.in_ok-limit.ensures.decided in
    let raised : SameAt mid c.args.at new = record {
      state = ap (λ (v : Database). v.state) c.raise.ensures;
      out = ap (λ (v : Database). v.out) c.raise.ensures;
      greatest = ap (λ (v : Database). v.greatest) c.raise.ensures;
    } in
    same_answers c.args.self.now mid new c.args.who c.args.at (ask.Write w) (answer.Fails c.in-Fails.places) c.in_ok-limit.ensures.kept
    (write_fails mid new c.args.who c.args.at w c.in-Fails.places (is c.args.who) raised)

pub returns-in-NotU64-clause-answer : goal.returns-in-NotU64-clause-answer
returns-in-NotU64-clause-answer c =
    let mid = c.prepare_write.new.self in
    let new = c.raise-in-NotU64.new.self in
    let w = c.args.write.now in
    let is = subst (λ (d : Decided). (who : ℕ) → IsDecided mid who c.args.at (Write w) d) c.in-NotU64.is c.in_ok-limit.ensures.decided in
    let raised : SameAt mid c.args.at new = record {
      state = ap (λ (v : Database). v.state) c.raise-in-NotU64.ensures;
      out = ap (λ (v : Database). v.out) c.raise-in-NotU64.ensures;
      greatest = ap (λ (v : Database). v.greatest) c.raise-in-NotU64.ensures;
    } in
    same_answers c.args.self.now mid new c.args.who c.args.at (ask.Write w) (answer.NotU64 c.in-NotU64.index) c.in_ok-limit.ensures.kept
    (write_not_u64 mid new c.args.who c.args.at w c.in-NotU64.index (is c.args.who) raised)

pub returns-in-Goes-clause-answer : goal.returns-in-Goes-clause-answer
returns-in-Goes-clause-answer c =
    let mid = c.prepare_write.new.self in
    let new = c.apply.new.self in
    let w = c.args.write.now in
    let is = subst (λ (d : Decided). (who : ℕ) → IsDecided mid who c.args.at (Write w) d) c.in-Goes.is c.in_ok-limit.ensures.decided in
    let made : Made mid c.in-Goes.prepared new = record { state = c.apply.ensures.state; out = c.apply.ensures.out; greatest = c.apply.ensures.moment } in
    same_answers c.args.self.now mid new c.args.who c.args.at (ask.Write w) (answer.Written c.apply.result) c.in_ok-limit.ensures.kept
    (subst (λ (n : ℕ). IsAnswered mid c.args.who c.args.at (ask.Write w) (answer.Written n) new) (sym c.apply.ensures.number)
    (write_goes mid new c.args.who c.args.at w c.in-Goes.prepared (is c.args.who) made))

pub returns-in-Goes-clause-next : goal.returns-in-Goes-clause-next
returns-in-Goes-clause-next c =
    let mid = c.prepare_write.new.self in
    let is = subst (λ (d : Decided). (who : ℕ) → IsDecided mid who c.args.at (Write c.args.write.now) d) c.in-Goes.is c.in_ok-limit.ensures.decided in
    let ready = (is c.args.who).ready in
    omega (arith, ap (λ (s : State). s.number) c.apply.ensures.state, ready.number, ap (λ (s : State). s.number) c.in_ok-limit.ensures.kept.state)
