use Rattle.std.proofs.Common.{ℕ, ◌<◌, ◌∙◌, sym, subst, arith, get_or}
use Rattle.std.proofs.lemmas.Bool.{false≢true}
use Rattle.dkv_heads.proofs.Values.{one_digit, digit_high, digit_at, one_more}
use Rattle.dkv_heads.proofs.fields.number.Goals as goal
use Rattle.dkv_heads.proofs.fields.number.Goals.{then-n-limit+then-is_ascii_digit, else-n-limit, else-n-limit-via-then-n-limit+else-is_ascii_digit, else-n-limit-via-else-n-limit}

pub loop-b-preserved : goal.loop-b-preserved
loop-b-preserved c =
    let i = c.loop-b.invariant in
    elim c.if-n-limit.branch [
      | then-n-limit+then-is_ascii_digit w ↦
          let digit = sym w.is_ascii_digit.ensures.value ∙ w.if-is_ascii_digit.true in
          let e = one_digit c.args.value.now c.loop-b.b-index c.loop-b.n c.loop-b-test.true digit (i.small w.if-n-limit.true) ∙ sym w.n-is in
          record {
            most = (let high = digit_high (get_or c.args.value.now c.loop-b.b-index 0) digit in omega (arith, w.n-is, w.if-n-limit.true, high));
            small = λ _. e;
            large = λ l. subst (λ (k : ℕ). c.args.limit < k) (sym e) l;
          }
      | else-n-limit w ↦ elim w.else-n-limit.branch [
        | else-n-limit-via-then-n-limit+else-is_ascii_digit z ↦
            absurd (false≢true (sym z.if-is_ascii_digit.false ∙ z.is_ascii_digit.ensures.value ∙ digit_at c.args.value.now c.loop-b.b-index c.requires.number c.loop-b-test.true))
        | else-n-limit-via-else-n-limit z ↦ record {
          most = (let most = i.most in omega (arith, w.n-is, most));
          small = λ s. absurd (omega (arith, w.n-is, s, z.if-n-limit.false));
          large = λ l. one_more c.args.value.now c.loop-b.b-index c.args.limit c.loop-b-test.true (i.large (omega (arith, z.if-n-limit.false)));
        }
      ]
    ]
