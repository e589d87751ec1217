use Rattle.std.proofs.Common.{◌≡◌, refl, sym, ◌∙◌, ap, subst, ℕ, ◌+◌, ◌≤◌, Bool, true, false, List, drop, length, arith}
use Rattle.dkv_journal.specs.Records.{first_layout, place_after}
use Rattle.dkv_store.specs.Making.{IsRemade}
use Rattle.dkv_store.specs.Opening.{first_place}
use Rattle.dkv_store.proofs.Replaying.{split_at, none_made, within, one_made, not_made, counted, few_bodies}
use Rattle.dkv_store.proofs.replay.replay.Goals as goal

pub loop-body-init : goal.loop-body-init
loop-body-init c = none_made c.args.bodies.now c.in-Ok.core _ c.empty.result c.in-Ok.is c.empty.ensures refl (record { out = refl; greatest = refl })

pub remake-requires-clause-numbered : goal.remake-requires-clause-numbered
remake-requires-clause-numbered c =
    let all = c.args.bodies.now in
    omega (arith, counted all c.loop-body.body-index c.loop-body.at c.loop-body.core c.loop-body.invariant, few_bodies all, c.requires, c.loop-body-test.true)

pub overflow_add-at : goal.overflow_add-at
overflow_add-at c =
    let all = c.args.bodies.now in
    let split = split_at all c.loop-body.body-index c.body-item.result c.loop-body-test.true c.body-item.is in
    let w : c.loop-body.at + (5 + length c.body-item.result) ≤ place_after first_layout first_place all =
    within all c.loop-body.body-index c.loop-body.at c.loop-body.core c.loop-body.invariant c.body-item.result _ split in
    omega (arith, w, c.requires, c.len.ensures)

pub overflow_add-at-in-Ok-true : goal.overflow_add-at-in-Ok-true
overflow_add-at-in-Ok-true c =
    let all = c.args.bodies.now in
    let split = split_at all c.loop-body.body-index c.body-item.result c.loop-body-test.true c.body-item.is in
    let w : c.loop-body.at + (5 + length c.body-item.result) ≤ place_after first_layout first_place all =
    within all c.loop-body.body-index c.loop-body.at c.loop-body.core c.loop-body.invariant c.body-item.result _ split in
    omega (arith, w, c.requires, c.len.ensures)

pub loop-body-preserved : goal.loop-body-preserved
loop-body-preserved c =
    let all = c.args.bodies.now in
    let split = split_at all c.loop-body.body-index c.body-item.result c.loop-body-test.true c.body-item.is in
    let made = subst (λ (b : List ℕ). IsRemade c.loop-body.core b c.remake.new.core true) c.as_slice.ensures
    (subst (λ (v : Bool). IsRemade c.loop-body.core c.as_slice.result.now c.remake.new.core v) c.in-Ok-true.field-0-test c.in-Ok-true.ensures) in
    one_made all c.loop-body.body-index c.loop-body.at c.loop-body.core c.loop-body.invariant c.body-item.result (drop (c.loop-body.body-index + 1) all) split
    c.remake.new.core made (c.loop-body.at + (5 + c.len.result)) (ap (λ (n : ℕ). c.loop-body.at + (5 + n)) c.len.ensures) refl

pub returns-in-Ok-false-clause-made : goal.returns-in-Ok-false-clause-made
returns-in-Ok-false-clause-made c =
    let all = c.args.bodies.now in
    let split = split_at all c.loop-body.body-index c.body-item.result c.loop-body-test.true c.body-item.is in
    let denied = subst (λ (b : List ℕ). IsRemade c.loop-body.core b c.remake.new.core false) c.as_slice.ensures
    (subst (λ (v : Bool). IsRemade c.loop-body.core c.as_slice.result.now c.remake.new.core v) c.in-Ok-false.field-0-test c.in-Ok-false.ensures) in
    not_made all c.loop-body.body-index c.loop-body.at c.loop-body.core c.loop-body.invariant c.body-item.result _ split c.remake.new.core denied
