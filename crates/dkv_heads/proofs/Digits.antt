-- Digits, the last of them first.
use Rattle.std.proofs.Common.{ℕ, ◌≡◌, ◌≢◌, ◌+◌, ◌-◌, ◌*◌, ◌<◌, ◌≤◌, take, refl, sym, ap, ◌∙◌, subst, true, false, List, length, get_or, arith}
use Rattle.std.specs.Prelude.{◌==◌, nat_le}
use Rattle.std.specs.List.{list_all}
use Rattle.std.specs.Str.Parse.{digits_value}
use Rattle.std.specs.Char.{is_ascii_digit}
use Rattle.std.proofs.lemmas.Bool.{and_parts, eqb-true, eq-eqb, ne_eqb}
use Rattle.std.proofs.lemmas.Bool.Decides.{nat_tests}
use Rattle.std.proofs.lemmas.List.{take_all}
use Rattle.std.proofs.lemmas.List.Folds.{list_all_more}
use Rattle.dkv_heads.proofs.Values.{same_bool, one_digit}

-- a number by its last digit and those before it
pub record Last (bs : List ℕ) : Type 0 where
  pub front : list_all is_ascii_digit (take (length bs - 1) bs) ≡ true
  pub low : 48 ≤ get_or bs (length bs - 1) 0
  pub high : get_or bs (length bs - 1) 0 ≤ 57
  pub value : digits_value 10 bs ≡ digits_value 10 (take (length bs - 1) bs) * 10 + (get_or bs (length bs - 1) 0 - 48)

last_by : (bs : List ℕ) (i : ℕ) → i + 1 ≡ length bs → i ≡ length bs - 1 → list_all is_ascii_digit bs ≡ true → Last bs
last_by bs i one is e =
    let less : i < length bs = omega (arith, one) in
    let all : take (i + 1) bs ≡ bs = take_all (i + 1) bs (omega (arith, one)) in
    let parts = and_parts (list_all is_ascii_digit (take i bs)) (is_ascii_digit (get_or bs i 0)) (sym (list_all_more is_ascii_digit bs i 0 less) ∙ ap (list_all is_ascii_digit) all ∙ e) in
    let both = and_parts (nat_le 48 (get_or bs i 0)) (nat_le (get_or bs i 0) 57) parts.1 in
    let at_least = both.0 in
    let at_most = both.1 in
    let low : 48 ≤ get_or bs i 0 = grind (arith, nat_tests, at_least) in
    let high : get_or bs i 0 ≤ 57 = grind (arith, nat_tests, at_most) in
    record {
      front = subst (λ (k : ℕ). list_all is_ascii_digit (take k bs) ≡ true) is parts.0;
      low = subst (λ (k : ℕ). 48 ≤ get_or bs k 0) is low;
      high = subst (λ (k : ℕ). get_or bs k 0 ≤ 57) is high;
      value = subst (λ (k : ℕ). digits_value 10 bs ≡ digits_value 10 (take k bs) * 10 + (get_or bs k 0 - 48)) is
          (ap (digits_value 10) (sym all) ∙ one_digit bs i _ less parts.1 refl);
    }

pub last_digit : (bs : List ℕ) → 1 ≤ length bs → list_all is_ascii_digit bs ≡ true → Last bs
last_digit bs some e = last_by bs (length bs - 1) (omega (arith, some)) refl e

pub same_test : (a b c d : ℕ) → (a ≡ b → c ≡ d) → (c ≡ d → a ≡ b) → (a == b) ≡ (c == d)
same_test a b c d f g = same_bool (a == b) (c == d) (λ t. eq-eqb c d (f (eqb-true a b t))) (λ t. eq-eqb a b (g (eqb-true c d t)))

-- the last digit is not zero
pub not_zero : (bs : List ℕ) → 1 ≤ length bs → list_all is_ascii_digit bs ≡ true → get_or bs (length bs - 1) 0 ≢ 48 → (digits_value 10 bs == 0) ≡ false
not_zero bs some e other =
    let l = last_digit bs some e in
    ne_eqb (digits_value 10 bs) 0 (λ z. other (omega (arith, l.value, l.low, z)))

-- a zero behind the others
pub zero_behind : (bs : List ℕ) → 1 ≤ length bs → list_all is_ascii_digit bs ≡ true → get_or bs (length bs - 1) 0 ≡ 48
    → (digits_value 10 (take (length bs - 1) bs) == 0) ≡ (digits_value 10 bs == 0)
zero_behind bs some e zero =
    let l = last_digit bs some e in
    same_test _ 0 _ 0 (λ z. omega (arith, l.value, zero, z)) (λ z. omega (arith, l.value, zero, z))

-- the last digits are not the same
pub apart : (a b : List ℕ) → 1 ≤ length a → 1 ≤ length b → list_all is_ascii_digit a ≡ true → list_all is_ascii_digit b ≡ true
    → get_or a (length a - 1) 0 ≢ get_or b (length b - 1) 0 → (digits_value 10 a == digits_value 10 b) ≡ false
apart a b some_a some_b e f other =
    let l = last_digit a some_a e in
    let m = last_digit b some_b f in
    ne_eqb (digits_value 10 a) (digits_value 10 b) (λ z. other (omega (arith, l.value, l.low, l.high, m.value, m.low, m.high, z)))

-- the last digits are the same
pub together : (a b : List ℕ) → 1 ≤ length a → 1 ≤ length b → list_all is_ascii_digit a ≡ true → list_all is_ascii_digit b ≡ true
    → get_or a (length a - 1) 0 ≡ get_or b (length b - 1) 0
    → (digits_value 10 (take (length a - 1) a) == digits_value 10 (take (length b - 1) b)) ≡ (digits_value 10 a == digits_value 10 b)
together a b some_a some_b e f same =
    let l = last_digit a some_a e in
    let m = last_digit b some_b f in
    same_test _ _ _ _ (λ z. omega (arith, l.value, m.value, same, z)) (λ z. omega (arith, l.value, l.low, l.high, m.value, m.low, m.high, same, z))
