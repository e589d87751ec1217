use Rattle.std.proofs.Common.{subst}
use Rattle.dkv_core.specs.declared.takes.Taken.{Taken}
use Rattle.dkv_core.specs.Takes.{IsTaken}
use Rattle.dkv_core.proofs.Replying.{take_leased, take_nothing}
use Rattle.dkv_core.proofs.machine.Core.answer_take.Goals as goal

pub returns-in-Leased-clause-answer : goal.returns-in-Leased-clause-answer
returns-in-Leased-clause-answer c who =
    let old = c.args.self.now in
    let new = c.take.new.self in
    let is = subst (λ (t : Taken). IsTaken old c.args.at t new) c.in-Leased.is c.in_ok-message.ensures.taken in
    take_leased old new who c.args.at c.in-Leased.message is.0 is.1 is.2

pub returns-in-Nothing-clause-answer : goal.returns-in-Nothing-clause-answer
returns-in-Nothing-clause-answer c who =
    let old = c.args.self.now in
    let new = c.take.new.self in
    let is = subst (λ (t : Taken). IsTaken old c.args.at t new) c.in-Nothing.is c.in_ok-message.ensures.taken in
    take_nothing old new who c.args.at c.in-Nothing.next is.0 is.1 is.2
