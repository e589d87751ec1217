-- Laws that other crates cite: beginnings of one list, and the own items in them.
use Rattle.std.proofs.Common.{◌≡◌, ℕ, suc, ◌≤◌, List, [], ◌∷◌, ◌++◌, length, refl, ap, sym, ◌∙◌, arith, append_assoc, length-append, subst, ◌==◌, cond, false, ne_eqb}
use mathlib.Core.List.{IsPrefix}
use mathlib.Core.Option.{some}
use lib.ListN.{get_elem?}
use Rattle.atomic_table.proofs.Lists.{at_longer}
use Rattle.dkv_turn.specs.Histories.{mine, NoneSince}

-- each list begins with itself
pub prefix_self : {A : Type 0} (xs : List A) → IsPrefix xs xs
prefix_self [] = ([], refl)
prefix_self (x ∷ xs) = (let r = prefix_self xs in r.0, ap (λ ys. x ∷ ys) (prefix_self xs).1)

-- a beginning of a beginning is one
pub prefix_trans : {A : Type 0} (xs ys zs : List A) → IsPrefix xs ys → IsPrefix ys zs → IsPrefix xs zs
prefix_trans xs ys zs p q = (p.0 ++ q.0, sym (append_assoc xs p.0 q.0) ∙ (ap (λ w. w ++ q.0) p.1 ∙ q.1))

-- of two beginnings of one list the shorter begins the longer
pub prefix_shorter : {A : Type 0} (xs ys zs : List A) → IsPrefix xs zs → IsPrefix ys zs → length xs ≤ length ys → IsPrefix xs ys
prefix_shorter [] ys zs p q le = (ys, refl)
prefix_shorter (x ∷ xs) [] zs p q le = absurd (omega arith)
prefix_shorter (x ∷ xs) (y ∷ ys) [] p q le = absurd (cc (p.1))
prefix_shorter (x ∷ xs) (y ∷ ys) (z ∷ zs) p q le =
    let heads : x ≡ y = cc (p.1, q.1) in
    let rest = prefix_shorter xs ys zs (p.0, cc (p.1)) (q.0, cc (q.1)) (omega arith) in
    (rest.0, cc (heads, rest.1))

-- a beginning is no longer than the whole
pub prefix_length : {A : Type 0} (xs ys : List A) → IsPrefix xs ys → length xs ≤ length ys
prefix_length xs ys p = omega (arith, length-append xs p.0, ap length p.1)

-- what stands at a place of a beginning stands there in the whole
pub prefix_get : {A : Type 0} (xs ys : List A) (i : ℕ) (x : A) → IsPrefix xs ys → get_elem? xs i ≡ some x → get_elem? ys i ≡ some x
prefix_get xs ys i x p e = subst (λ l. get_elem? l i ≡ some x) p.1 (at_longer xs p.0 i x e)

module _ {I : Type 0} (carries : I → ℕ) (who : ℕ) where
  -- where no item carries the number, none is its own
  pub mine_of_others : (log : List I) → NoneSince carries who [] log → mine carries who log ≡ []
  mine_of_others [] none = refl
  mine_of_others (x ∷ xs) none =
      let other : (carries x == who) ≡ false = ne_eqb (carries x) who (λ e. absurd (omega (arith, none 0 x refl e))) in
      ap (λ b. cond b (x ∷ mine carries who xs) (mine carries who xs)) other ∙ mine_of_others xs (λ i y at e. absurd (omega (arith, none (suc i) y at e)))

  -- where no item past those seen carries the number, its own items are those seen
  pub mine_after : (seen log : List I) → IsPrefix seen log → NoneSince carries who seen log → mine carries who log ≡ mine carries who seen
  mine_after [] log begins none = mine_of_others log none
  mine_after (x ∷ xs) [] begins none = absurd (cc (begins.1))
  mine_after (x ∷ xs) (y ∷ ys) begins none =
      let head : x ≡ y = cc (begins.1) in
      let tail : mine carries who ys ≡ mine carries who xs = mine_after xs ys (begins.0, cc (begins.1)) (λ i z at e. omega (arith, none (suc i) z at e)) in
      ap (λ zs. cond (carries y == who) (y ∷ zs) zs) tail ∙ sym (ap (λ z. cond (carries z == who) (z ∷ mine carries who xs) (mine carries who xs)) head)
