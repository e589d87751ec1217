use Rattle.std.proofs.Common.{◌≡◌, refl, sym, ◌∙◌, ap, subst, true, false, ℕ, ◌+◌, ◌-◌, ◌≤◌, List, ◌++◌, length, drop, Some, Ok, IfSome, arith, length-drop}
use Rattle.std.specs.Option.{option_copied}
use Rattle.dkv_image.specs.Image.{standing}
use Rattle.dkv_image_io.specs.Reading.{narrow, IsEnough, StandsNot, IsFront}
use Rattle.dkv_image_io.proofs.Prepending.{front_taken, front_left}
use Rattle.dkv_image_io.proofs.rows.take_front.Goals as goal

pub returns-then-not-follows-clause-front : goal.returns-then-not-follows-clause-front
returns-then-not-follows-clause-front g c rest enough =
    let front = g.I.Item.front in
    let held = c.args.window.now.held in
    let test = g.I.Item.may_follow (narrow c.args.n c.args.now) (option_copied c.args.before) in
    let x = c.in-Some.item in
    let size = c.in-Some.size in
    let read = subst (λ o. IfSome o (λ y. (y.1 ≤ length c.held.result.now) × (front (c.held.result.now ++ rest) ≡ Some (y.0, drop y.1 c.held.result.now ++ rest)))) c.in-Some.is (c.in_ok-item.ensures.found rest) in
    let has = subst (λ (h : List ℕ). (size ≤ length h) × (front (h ++ rest) ≡ Some (x, drop size h ++ rest))) c.held.ensures read in
    let fails : test x ≡ false = sym c.follows.ensures ∙ c.if-not-follows.true in
    (front_left test (held ++ rest) (front (held ++ rest)) (subst (λ o. StandsNot test o) (sym has.1) fails), refl)

pub take-requires : goal.take-requires
take-requires g c =
    let front = g.I.Item.front in
    let read = subst (λ o. IfSome o (λ y. (y.1 ≤ length c.held.result.now) × (front (c.held.result.now ++ c.held.result.now) ≡ Some (y.0, drop y.1 c.held.result.now ++ c.held.result.now)))) c.in-Some.is (c.in_ok-item.ensures.found c.held.result.now) in
    omega (arith, read.0, ap length c.held.ensures)

pub returns-else-not-follows-clause-front : goal.returns-else-not-follows-clause-front
returns-else-not-follows-clause-front g c rest enough =
    let front = g.I.Item.front in
    let held = c.args.window.now.held in
    let test = g.I.Item.may_follow (narrow c.args.n c.args.now) (option_copied c.args.before) in
    let x = c.in-Some.item in
    let size = c.in-Some.size in
    let read = subst (λ o. IfSome o (λ y. (y.1 ≤ length c.held.result.now) × (front (c.held.result.now ++ rest) ≡ Some (y.0, drop y.1 c.held.result.now ++ rest)))) c.in-Some.is (c.in_ok-item.ensures.found rest) in
    let has = subst (λ (h : List ℕ). (size ≤ length h) × (front (h ++ rest) ≡ Some (x, drop size h ++ rest))) c.held.ensures read in
    let passes : test x ≡ true = sym c.follows.ensures ∙ c.if-not-follows.false in
    let here = front_taken test (held ++ rest) (drop size held ++ rest) x (front (held ++ rest)) has.1 passes in
    subst (λ (h : List ℕ). IsFront (standing test (held ++ rest) (front (held ++ rest))) (held ++ rest) (h ++ rest) (Some x)) (sym c.take.ensures.held) here

pub returns-else-not-follows-clause-place : goal.returns-else-not-follows-clause-place
returns-else-not-follows-clause-place g c few =
    let front = g.I.Item.front in
    let held = c.args.window.now.held in
    let read = subst (λ o. IfSome o (λ y. (y.1 ≤ length c.held.result.now) × (front (c.held.result.now ++ c.held.result.now) ≡ Some (y.0, drop y.1 c.held.result.now ++ c.held.result.now)))) c.in-Some.is (c.in_ok-item.ensures.found c.held.result.now) in
    let within : c.in-Some.size ≤ length held = omega (arith, read.0, ap length c.held.ensures) in
    let count : length held - length c.take.new.self.held ≡ c.in-Some.size = omega (arith, within, ap length c.take.ensures.held, length-drop c.in-Some.size held) in
    c.take.ensures.place (omega (arith, few, count)) ∙ ap (λ (n : ℕ). c.args.window.now.place + n) (sym count)

pub returns-in-None-clause-front : goal.returns-in-None-clause-front
returns-in-None-clause-front g c rest enough =
    let front = g.I.Item.front in
    let held = c.args.window.now.held in
    let before = option_copied c.args.before in
    let test = g.I.Item.may_follow (narrow c.args.n c.args.now) before in
    let none = c.in_ok-item.was ∙ ap (λ o. Ok o) c.in-None.is in
    let here = c.read.ensures.none rest c.args.n c.args.now before none (subst (λ (h : List ℕ). IsEnough h rest) (sym c.held.ensures) enough) in
    (front_left test (held ++ rest) (front (held ++ rest)) (subst (λ (h : List ℕ). StandsNot test (front (h ++ rest))) c.held.ensures here), refl)
