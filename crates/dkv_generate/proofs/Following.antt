-- Numbers that follow, some behind others.
use Rattle.std.proofs.Common.{◌≡◌, ◌∙◌, ℕ, zero, suc, ◌+◌, ◌*◌, ◌++◌, length, length-append, ap, sym, refl, arith}
use Rattle.std.specs.Int.{w64, to_le_bytes}
use Rattle.dkv_generate.specs.Numbers.{next, number_after, numbers_after}

-- none
pub none_taken : (x : ℕ) → number_after (9 * 0) x ≡ x
unfolding number_after
none_taken x = refl

-- so many behind so many
pub number_after_more : (j k x : ℕ) → number_after (j + k) x ≡ number_after j (number_after k x)
unfolding number_after
number_after_more zero k x = let same : zero + k ≡ k = omega arith in ap (λ (n : ℕ). number_after n x) same
number_after_more (suc j) k x =
    let same : suc j + k ≡ suc (j + k) = omega arith in
    ap (λ (n : ℕ). number_after n x) same ∙ ap next (number_after_more j k x)

-- each takes eight bytes
pub numbers_size : (k x : ℕ) → length (numbers_after k x) ≡ 8 * k
unfolding numbers_after
numbers_size zero x = omega arith
numbers_size (suc k) x =
    omega (arith, numbers_size k x, length-append (numbers_after k x) (to_le_bytes w64 (number_after (suc k) x)))

-- one number more
pub one_number_more : (k x : ℕ) → number_after (k + 1) x ≡ next (number_after k x)
unfolding number_after
one_number_more k x = let same : k + 1 ≡ suc k = omega arith in ap (λ (n : ℕ). number_after n x) same

-- and its bytes
pub one_more_in_bytes : (k x : ℕ) → numbers_after (k + 1) x ≡ numbers_after k x ++ to_le_bytes w64 (next (number_after k x))
unfolding number_after numbers_after
one_more_in_bytes k x = let same : k + 1 ≡ suc k = omega arith in ap (λ (n : ℕ). numbers_after n x) same

-- the numbers of one group more
pub one_group_taken : (k number x y : ℕ) → x ≡ number_after (9 * k) number → y ≡ number_after 9 x → y ≡ number_after (9 * (k + 1)) number
one_group_taken k number x y before taken =
    let same : 9 + 9 * k ≡ 9 * (k + 1) = omega arith in
    taken ∙ ap (number_after 9) before ∙ sym (number_after_more 9 (9 * k) number) ∙ ap (λ (n : ℕ). number_after n number) same
