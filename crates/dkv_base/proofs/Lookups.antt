-- What a look-up finds after a put and a removal, and that rising items are told by their look-ups.
use Rattle.std.proofs.Common.{◌≡◌, ℕ, zero, suc, ◌<◌, Bool, true, false, cond, not, List, [], ◌∷◌, length, get_or, Option, Some, None, refl, sym, ap, ◌∙◌, subst, arith}
use Rattle.std.specs.List.{list_all, Contains}
use Rattle.std.specs.Ordering.{is_lt, is_eq, match_ordering}
use Rattle.std.specs.declared.cmp.Ordering.{Ordering}
use Rattle.std.specs.declared.cmp.Ordering.TheVariants.{Less, Equal, Greater}
use Rattle.std.specs.Cmp.{IsTotalOrder, alike_right, tied_back, tied_itself}
use Rattle.std.proofs.lemmas.Bool.{and_parts, and_from, true≢false}
use Rattle.dkv_base.specs.Ordered.{found, put_in, left_out, is_rising}
use Rattle.dkv_base.proofs.Ranks.{eq_is, less, not_eq-below}
use Rattle.dkv_base.proofs.Lists.{all_at}
use Rattle.dkv_base.proofs.RankedLists.{found-here, found-above, all_above-lt, all_above-eq}

cond_same : {X : Type 0} (b : Bool) (x : X) → cond b x x ≡ x
cond_same true x = refl
cond_same false x = refl

module _ {T : Type 0} {cmp : T → T → Ordering} (o : IsTotalOrder cmp) where
  same : (q x y : T) (rest : Option T) → cmp x y ≡ Equal → (b : Bool) → is_eq (cmp q x) ≡ b → cond b (Some x) rest ≡ cond b (Some x) (cond (is_eq (cmp q y)) (Some y) rest)
  same q x y rest e true h = refl
  same q x y rest e false h = λ i. cond ((sym h ∙ ap is_eq (alike_right o x y q e)) i) (Some y) rest

  apart : (q x y : T) (rest : Option T) → cmp x y ≡ Greater → (a b : Bool) → is_eq (cmp q y) ≡ a → is_eq (cmp q x) ≡ b
      → cond a (Some y) (cond b (Some x) rest) ≡ cond b (Some x) (cond a (Some y) rest)
  apart q x y rest e true true h k = absurd (cc (sym e ∙ o.congr x q y (tied_back o q x (eq_is _ k)) ∙ eq_is _ h))
  apart q x y rest e true false h k = refl
  apart q x y rest e false b h k = refl

  gone : (q x y : T) (rest : Option T) → cmp x y ≡ Equal → (b : Bool) → is_eq (cmp q x) ≡ b → cond b None rest ≡ cond b None (cond (is_eq (cmp q y)) (Some y) rest)
  gone q x y rest e true h = refl
  gone q x y rest e false h = λ i. cond ((sym h ∙ ap is_eq (alike_right o x y q e)) i) (Some y) rest

  kept : (q x y : T) (rest : Option T) → is_eq (cmp x y) ≡ false → (a b : Bool) → is_eq (cmp q y) ≡ a → is_eq (cmp q x) ≡ b
      → cond a (Some y) (cond b None rest) ≡ cond b None (cond a (Some y) rest)
  kept q x y rest e true true h k = absurd (true≢false (sym (ap is_eq (o.congr x q y (tied_back o q x (eq_is _ k)) ∙ eq_is _ h)) ∙ e))
  kept q x y rest e true false h k = refl
  kept q x y rest e false b h k = refl

  -- a look-up goes by the rank alone
  pub found_same : (q r : T) → cmp q r ≡ Equal → (ys : List T) → found cmp q ys ≡ found cmp r ys
  found_same q r e [] = refl
  found_same q r e (y ∷ ys) = λ i. cond (is_eq (o.congr q r y e i)) (Some y) (found_same q r e ys i)

  -- after a put, a look-up finds the new item at its rank, and what was there at another
  pub found-put_in : (q x : T) (ys : List T) → found cmp q (put_in cmp x ys) ≡ cond (is_eq (cmp q x)) (Some x) (found cmp q ys)
  found-put_in q x [] = refl
  found-put_in q x (y ∷ ys) =
      elim (cmp x y) as (λ r. cmp x y ≡ r → found cmp q (match_ordering r (x ∷ y ∷ ys) (x ∷ ys) (y ∷ put_in cmp x ys)) ≡ cond (is_eq (cmp q x)) (Some x) (found cmp q (y ∷ ys))) [
        | Less ↦ λ e. refl
        | Equal ↦ λ e. same q x y (found cmp q ys) e (is_eq (cmp q x)) refl
        | Greater ↦ λ e. ap (cond (is_eq (cmp q y)) (Some y)) (found-put_in q x ys) ∙ apart q x y (found cmp q ys) e (is_eq (cmp q y)) (is_eq (cmp q x)) refl refl
      ] refl

  -- after a removal, a look-up finds nothing of that rank, and what was there of another
  pub found-left_out : (q x : T) (ys : List T) → found cmp q (left_out cmp x ys) ≡ cond (is_eq (cmp q x)) None (found cmp q ys)
  found-left_out q x [] = sym (cond_same (is_eq (cmp q x)) None)
  found-left_out q x (y ∷ ys) =
      elim (is_eq (cmp x y)) as (λ b. is_eq (cmp x y) ≡ b → found cmp q (cond (not b) (y ∷ left_out cmp x ys) (left_out cmp x ys)) ≡ cond (is_eq (cmp q x)) None (found cmp q (y ∷ ys))) [
        | true ↦ λ e. found-left_out q x ys ∙ gone q x y (found cmp q ys) (eq_is _ e) (is_eq (cmp q x)) refl
        | false ↦ λ e. ap (cond (is_eq (cmp q y)) (Some y)) (found-left_out q x ys) ∙ kept q x y (found cmp q ys) e (is_eq (cmp q y)) (is_eq (cmp q x)) refl refl
      ] refl

  -- what is found is an item that ranks so
  pub found-member : (q y : T) (ys : List T) → found cmp q ys ≡ Some y → Contains ys y × (cmp q y ≡ Equal)
  found-member q y [] e = absurd (cc e)
  found-member q y (z ∷ ys) e =
      elim (is_eq (cmp q z)) as (λ b. is_eq (cmp q z) ≡ b → cond b (Some z) (found cmp q ys) ≡ Some y → Contains (z ∷ ys) y × (cmp q y ≡ Equal)) [
        | true ↦ λ h is. let same : z ≡ y = cc is in ((0, omega arith, same), ap (cmp q) (sym same) ∙ eq_is _ h)
        | false ↦ λ h is. let rest = found-member q y ys is in ((suc rest.0.0, omega (arith, rest.0.1), rest.0.2), rest.1)
      ] refl e

  -- each of rising items is found by its own rank
  pub found-itself : (y : T) (ys : List T) → is_rising cmp ys ≡ true → Contains ys y → found cmp y ys ≡ Some y
  found-itself y ys h (k, lt, is) = here ys k h lt is
    where
      here : (ys : List T) (k : ℕ) → is_rising cmp ys ≡ true → k < length ys → get_or ys k y ≡ y → found cmp y ys ≡ Some y
      here [] k h lt is = absurd (omega arith)
      here (z ∷ ys) zero h lt is = found-here o y z ys (ap (cmp y) is ∙ tied_itself o y) ∙ ap Some is
      here (z ∷ ys) (suc k) h lt is =
          let below = subst (λ w. is_lt (cmp z w) ≡ true) is (all_at (λ w. is_lt (cmp z w)) ys k y (and_parts _ _ h).0 (omega arith)) in
          (λ i. cond (not_eq-below o y z below i) (Some z) (found cmp y ys)) ∙ here ys k (and_parts _ _ h).1 (omega arith) is

  -- rising items with the same look-ups are the same
  pub same_items : (ys zs : List T) → is_rising cmp ys ≡ true → is_rising cmp zs ≡ true → ((q : T) → found cmp q ys ≡ found cmp q zs) → ys ≡ zs
  same_items [] [] h k each = refl
  same_items [] (z ∷ zs) h k each = absurd (cc (each z ∙ found-here o z z zs (tied_itself o z)))
  same_items (y ∷ ys) [] h k each = absurd (cc (sym (each y) ∙ found-here o y y ys (tied_itself o y)))
  same_items (y ∷ ys) (z ∷ zs) h k each =
      elim (cmp y z) as (λ r. cmp y z ≡ r → y ∷ ys ≡ z ∷ zs) [
        | Less ↦ λ e. absurd (cc (sym (found-here o y y ys (tied_itself o y)) ∙ each y ∙ found-above o y (z ∷ zs) (above_both y z zs (ap is_lt e) (and_parts _ _ k).0)))
        | Equal ↦ λ e.
            let first : y ≡ z = cc (sym (found-here o y y ys (tied_itself o y)) ∙ each y ∙ found-here o y z zs e) in
            let rest : ys ≡ zs = same_items ys zs (and_parts _ _ h).1 (and_parts _ _ k).1 (λ q. behind q y z ys zs e (and_parts _ _ h).0 (and_parts _ _ k).0 (each q)) in
            λ i. first i ∷ rest i
        | Greater ↦ λ e. absurd (cc (sym (found-here o z z zs (tied_itself o z)) ∙ sym (each z) ∙ found-above o z (y ∷ ys) (above_both z y ys (less o y z e) (and_parts _ _ h).0)))
      ] refl
    where
      above_both : (x y : T) (ys : List T) → is_lt (cmp x y) ≡ true → list_all (λ w. is_lt (cmp y w)) ys ≡ true → list_all (λ w. is_lt (cmp x w)) (y ∷ ys) ≡ true
      above_both x y ys h k = and_from _ _ h (all_above-lt o x y ys h k)

      behind : (q y z : T) (ys zs : List T) → cmp y z ≡ Equal → list_all (λ w. is_lt (cmp y w)) ys ≡ true → list_all (λ w. is_lt (cmp z w)) zs ≡ true
          → found cmp q (y ∷ ys) ≡ found cmp q (z ∷ zs) → found cmp q ys ≡ found cmp q zs
      behind q y z ys zs e h k same =
          elim (is_eq (cmp q y)) as (λ b. is_eq (cmp q y) ≡ b → found cmp q ys ≡ found cmp q zs) [
            | true ↦ λ is. found-above o q ys (all_above-eq o q y ys (eq_is _ is) h) ∙ sym (found-above o q zs (all_above-eq o q z zs (sym (alike_right o y z q e) ∙ eq_is _ is) k))
            | false ↦ λ is. (λ i. cond (sym is i) (Some y) (found cmp q ys)) ∙ same ∙ (λ i. cond ((ap is_eq (sym (alike_right o y z q e)) ∙ is) i) (Some z) (found cmp q zs))
          ] refl
