use Rattle.std.proofs.Common.{◌≡◌, ◌-◌, ℕ, List, length, ap, sym, subst, ◌∙◌, arith, length-append}
use Rattle.dkv_key.specs.declared.part.Part.{Part}
use Rattle.dkv_key.specs.Parts.{key}
use Rattle.dkv_key.specs.Reading.{IsFront, FirstFault}
use Rattle.dkv_key.proofs.Finding.{some_left, none_left}
use Rattle.dkv_key.proofs.Fronts.{front_spelled, front_more, front_fault, front_key, no_key}
use Rattle.dkv_key.proofs.reading.decode.Goals as goal

pub overflow_sub-result : goal.overflow_sub-result
overflow_sub-result c = omega (arith, ap length (front_spelled c.loop-rest.parts c.args.key.now c.loop-rest.rest.now c.loop-rest.invariant), length-append (key c.loop-rest.parts) c.loop-rest.rest.now)

pub returns-in_default-clause-refused : goal.returns-in_default-clause-refused
returns-in_default-clause-refused c at e =
    let whole = c.args.key.now in
    let rest = c.loop-rest.rest.now in
    let place : length whole - length rest ≡ at = cc e in
    let some = some_left rest (sym c.is_empty.ensures ∙ c.loop-rest-test.true) in
    let none = rw c.in_default.is at c.in_ok-part.ensures in
    let fault = front_fault c.loop-rest.parts whole rest c.loop-rest.invariant some none in
    (subst (λ (n : ℕ). FirstFault n c.args.key.now) place fault, no_key (length whole - length rest) whole fault)

pub loop-rest-preserved : goal.loop-rest-preserved
loop-rest-preserved c =
    let begins = rw c.in-Some.is at c.in_ok-part.ensures in
    let front = front_more c.loop-rest.parts c.in-Some.part c.args.key.now c.loop-rest.rest.now c.in-Some.behind.now c.loop-rest.invariant begins in
    subst (λ (ps : List Part). IsFront ps c.args.key.now c.in-Some.behind.now) (sym c.in_ok-add.ensures.ok) front

pub returns-clause-parts : goal.returns-clause-parts
returns-clause-parts c =
    let rest = c.loop-rest.rest.now in
    let none = none_left rest (sym c.is_empty.ensures ∙ c.loop-rest-test.false) in
    front_key c.loop-rest.parts c.args.key.now (subst (λ (l : List ℕ). IsFront c.loop-rest.parts c.args.key.now l) none c.loop-rest.invariant)
