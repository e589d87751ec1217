use Rattle.std.proofs.Common.{◌≡◌, ◌∙◌, sym, ap, subst, false, ℕ, suc, ◌-◌, ◌^◌, ◌<◌, [], ◌∷◌, ◌++◌, length, Result, Ok, Err, OnOk, arith}
use Rattle.std.specs.Result.{is_err}
use Rattle.std.specs.Option.{option_copied}
use Rattle.dkv_image.specs.Image.{row_at, standing}
use Rattle.dkv_image_io.specs.Reading.{narrow, rest_in, last_of, IsFront}
use Rattle.dkv_image_io.proofs.Prepending.{prepended, row_on, row_falls, row_ended}
use Rattle.dkv_image_io.proofs.Looking.{reads_on}
use Rattle.dkv_image_io.proofs.rows.read_items.Goals as goal

-- what an Ok says
of_ok : {T E : Type 0} (r : Result T E) (P : Type 0) → is_err r ≡ false → OnOk r P → P
of_ok (Ok x) P is has = has
of_ok (Err e) P is has = absurd (cc is)

pub loop-left-preserved : goal.loop-left-preserved
loop-left-preserved g c =
    let inv = c.loop-left.invariant in
    let x = c.in-Ok-Some.item in
    let items = c.loop-left.items in
    let left = c.loop-left.left in
    let front = g.I.Item.front in
    let test = g.I.Item.may_follow (narrow c.args.n c.args.now) in
    let w = c.loop-left.window in
    let new = c.next_item.new.window in
    let last : option_copied c.last.result ≡ last_of items = c.last.ensures.value ∙ ap last_of c.as_slice.ensures in
    let grown : c.add.new.self ≡ items ++ x ∷ [] = of_ok c.add.result _ (sym c.is_err.ensures.value ∙ c.if-is_err.false) c.add.ensures.ok in
    let more : left ≡ suc (left - 1) = omega (arith, c.loop-left-test.true) in
    record {
      row = λ file told few.
          let told2 = inv.reads.same ∙ told in
          let few2 = subst (λ (n : ℕ). n < 2 ^ 64) (sym (inv.ends file told few)) few in
          let at_front = subst (IsFront (standing (test (option_copied c.last.result)) (rest_in file w) (front (rest_in file w))) (rest_in file w) (rest_in file new)) c.in-Ok-Some.field-0-is (c.in-Ok-Some.ensures.item file told2 few2) in
          let stands = subst (λ o. standing (test o) (rest_in file w) (front (rest_in file w)) ≡ Ok (x, rest_in file new)) last at_front in
          inv.row file told few
          ∙ row_on front test items x (last_of items) left (left - 1) (rest_in file w) (rest_in file new) more stands
          ∙ ap (λ l. prepended l (row_at front test (last_of l) (left - 1) (rest_in file new))) (sym grown);
      ends = λ file told few.
          let told2 = inv.reads.same ∙ told in
          let few2 = subst (λ (n : ℕ). n < 2 ^ 64) (sym (inv.ends file told few)) few in
          c.in-Ok-Some.ensures.ends file told2 few2 ∙ inv.ends file told few;
      onward = omega (arith, inv.onward, c.next_item.ensures.onward);
      reads = reads_on g.D.Disk.seen g.D.Disk.may_leave g.D.Disk.moment g.D.Disk.left_since g.met.D.Disk.counts_now c.args.disk.now c.loop-left.disk c.next_item.new.disk inv.reads c.next_item.ensures.reads;
      later = omega (arith, inv.later, c.next_item.ensures.later);
    }

pub returns-in-Ok-None-clause-row : goal.returns-in-Ok-None-clause-row
returns-in-Ok-None-clause-row g c file told few =
    let inv = c.loop-left.invariant in
    let items = c.loop-left.items in
    let left = c.loop-left.left in
    let front = g.I.Item.front in
    let test = g.I.Item.may_follow (narrow c.args.n c.args.now) in
    let w = c.loop-left.window in
    let new = c.next_item.new.window in
    let last : option_copied c.last.result ≡ last_of items = c.last.ensures.value ∙ ap last_of c.as_slice.ensures in
    let more : left ≡ suc (left - 1) = omega (arith, c.loop-left-test.true) in
    let told2 = inv.reads.same ∙ told in
    let few2 = subst (λ (n : ℕ). n < 2 ^ 64) (sym (inv.ends file told few)) few in
    let at_front = subst (IsFront (standing (test (option_copied c.last.result)) (rest_in file w) (front (rest_in file w))) (rest_in file w) (rest_in file new)) c.in-Ok-None.field-0-is (c.in-Ok-None.ensures.item file told2 few2) in
    let falls = subst (λ o. standing (test o) (rest_in file w) (front (rest_in file w)) ≡ Err (length (rest_in file w))) last at_front.0 in (
      length (rest_in file w),
      inv.row file told few ∙ row_falls front test items (last_of items) left (left - 1) (length (rest_in file w)) (rest_in file w) more falls,
      omega (arith, c.place.ensures, inv.ends file told few, c.in-Ok-None.ensures.ends file told2 few2, ap length at_front.1),
      omega (arith, c.place.ensures, inv.onward, c.next_item.ensures.onward),
    )

pub returns-clause-row : goal.returns-clause-row
returns-clause-row g c file told few =
    let inv = c.loop-left.invariant in
    let items = c.loop-left.items in
    let front = g.I.Item.front in
    let test = g.I.Item.may_follow (narrow c.args.n c.args.now) in
    let none : c.loop-left.left ≡ 0 = omega (arith, c.loop-left-test.false) in
    inv.row file told few
    ∙ ap (λ (n : ℕ). prepended items (row_at front test (last_of items) n (rest_in file c.loop-left.window))) none
    ∙ row_ended front test items (last_of items) (rest_in file c.loop-left.window)
