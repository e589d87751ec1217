use Rattle.std.proofs.Common.{◌≡◌, sym, ◌∙◌, subst, Bool, true, false, ◌==◌, nat_lt, ℕ, length, Option, arith}
use Rattle.std.proofs.lemmas.Bool.{lt-ltb}
use Rattle.std.proofs.lemmas.Bool.Decides.{nat_tests}
use Rattle.dkv_files.specs.declared.header.HeadState.{HeadState}
use Rattle.dkv_files.specs.Files.{is_open, image_length}
use Rattle.dkv_files.specs.Reading.{IsHeadState, IsNewOrCut}
use Rattle.dkv_files.specs.Recovered.{is_new}
use Rattle.dkv_files.proofs.Plain.{has_image, is_cut, is_no_new}
use Rattle.dkv_store.proofs.looks.judge.Goals as goal

pub returns-then-image-ne16-clause-refused : goal.returns-then-image-ne16-clause-refused
returns-then-image-ne16-clause-refused c fa fb seen_a seen_b =
    let head = subst (λ (h : HeadState). IsHeadState fa h) c.in-Stands.is seen_a.0 in
    let shut : is_open fb ≡ false = sym seen_b ∙ c.if-seen-2.false in
    let image : (image_length fa == 16) ≡ false = grind (arith, nat_tests, c.if-image-ne16.true, head.3) in
    has_image fa fb head.0 head.1 shut image

pub returns-in-Some-false-clause-refused : goal.returns-in-Some-false-clause-refused
returns-in-Some-false-clause-refused c fa fb seen_a seen_b =
    let head = subst (λ (h : HeadState). IsHeadState fa h) c.in-Stands.is seen_a.0 in
    let fresh = subst (λ (o : Option Bool). IsNewOrCut fa o) c.in-Some-false.is seen_a.1 in
    let shut : is_open fb ≡ false = sym seen_b ∙ c.if-seen-2.false in
    let image : (image_length fa == 16) ≡ true = grind (arith, nat_tests, c.if-image-ne16.false, head.3) in
    let long : nat_lt (length fa) 113 ≡ false = grind (arith, nat_tests, fresh.0) in
    let new : is_new fa ≡ false = cc (fresh.1, c.in-Some-false.field-0-is, c.in-Some-false.field-0-test, c.in-Some-false.is) in
    is_no_new fa fb head.0 head.1 shut image long new

pub returns-in-None-clause-refused : goal.returns-in-None-clause-refused
returns-in-None-clause-refused c fa fb seen_a seen_b =
    let head = subst (λ (h : HeadState). IsHeadState fa h) c.in-Stands.is seen_a.0 in
    let cut = subst (λ (o : Option Bool). IsNewOrCut fa o) c.in-None.is seen_a.1 in
    let shut : is_open fb ≡ false = sym seen_b ∙ c.if-seen-2.false in
    let image : (image_length fa == 16) ≡ true = grind (arith, nat_tests, c.if-image-ne16.false, head.3) in
    is_cut fa fb head.0 head.1 shut image (lt-ltb (length fa) 113 cut)
