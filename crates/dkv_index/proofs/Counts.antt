-- How many items there are after a put and a removal.
use Rattle.std.proofs.Common.{◌≡◌, ◌+◌, ℕ, true, false, cond, not, List, [], ◌∷◌, length, Option, Some, None, refl, ap, arith}
use Rattle.std.specs.List.{list_all}
use Rattle.std.specs.Ordering.{is_lt, is_eq, match_ordering}
use Rattle.std.specs.declared.cmp.Ordering.{Ordering}
use Rattle.std.specs.declared.cmp.Ordering.TheVariants.{Less, Equal, Greater}
use Rattle.std.specs.Cmp.{IsTotalOrder}
use Rattle.std.proofs.lemmas.Bool.{and_parts, and_from}
use Rattle.dkv_base.specs.Ordered.{found, put_in, left_out, is_rising}
use Rattle.dkv_base.proofs.Ranks.{eq_is}
use Rattle.dkv_base.proofs.RankedLists.{found-above, found-here, left_out-above, all_above-lt, all_above-eq}

-- one where there is a value
abbrev pub one_of : {X : Type 0} → Option X → ℕ
one_of None = 0
one_of (Some x) = 1

module _ {T : Type 0} {cmp : T → T → Ordering} (o : IsTotalOrder cmp) where
  pub length-put_in : (x : T) (ys : List T) → is_rising cmp ys ≡ true → length (put_in cmp x ys) + one_of (found cmp x ys) ≡ length ys + 1
  length-put_in x [] h = refl
  length-put_in x (y ∷ ys) h =
      elim (cmp x y) as (λ r. cmp x y ≡ r → length (match_ordering r (x ∷ y ∷ ys) (x ∷ ys) (y ∷ put_in cmp x ys)) + one_of (found cmp x (y ∷ ys)) ≡ length (y ∷ ys) + 1) [
        | Less ↦ λ e.
            let none = found-above o x (y ∷ ys) (and_from _ _ (ap is_lt e) (all_above-lt o x y ys (ap is_lt e) (and_parts _ _ h).0)) in
            rw none (omega arith)
        | Equal ↦ λ e. rw (found-here o x y ys e) (omega arith)
        | Greater ↦ λ e.
            let rest : length (put_in cmp x ys) + one_of (found cmp x ys) ≡ length ys + 1 = length-put_in x ys (and_parts (list_all (λ z. is_lt (cmp y z)) ys) _ h).1 in
            let same : found cmp x (y ∷ ys) ≡ found cmp x ys = (λ i. cond (ap is_eq e i) (Some y) (found cmp x ys)) in
            rw same (omega (arith, rest))
      ] refl

  pub length-left_out : (x : T) (ys : List T) → is_rising cmp ys ≡ true → length (left_out cmp x ys) + one_of (found cmp x ys) ≡ length ys
  length-left_out x [] h = refl
  length-left_out x (y ∷ ys) h =
      elim (is_eq (cmp x y)) as (λ b. is_eq (cmp x y) ≡ b → length (cond (not b) (y ∷ left_out cmp x ys) (left_out cmp x ys)) + one_of (cond b (Some y) (found cmp x ys)) ≡ length (y ∷ ys)) [
        | true ↦ λ e. rw (left_out-above o x ys (all_above-eq o x y ys (eq_is _ e) (and_parts _ _ h).0)) (omega arith)
        | false ↦ λ e. omega (arith, length-left_out x ys (and_parts _ _ h).1)
      ] refl

  -- what is not there is not left out
  pub left_out-absent : (x : T) (ys : List T) → found cmp x ys ≡ None → left_out cmp x ys ≡ ys
  left_out-absent x [] h = refl
  left_out-absent x (y ∷ ys) h =
      elim (is_eq (cmp x y)) as (λ b. cond b (Some y) (found cmp x ys) ≡ None → cond (not b) (y ∷ left_out cmp x ys) (left_out cmp x ys) ≡ y ∷ ys) [
        | true ↦ λ e. absurd (cc e)
        | false ↦ λ e. ap (λ us. y ∷ us) (left_out-absent x ys e)
      ] h
