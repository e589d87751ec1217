-- What keeps items in rising order.
use Rattle.std.proofs.Common.{◌≡◌, Bool, true, false, cond, List, [], ◌∷◌, ◌++◌, filter, refl, sym, ap, ◌∙◌}
use Rattle.std.specs.List.{list_all}
use Rattle.std.specs.Ordering.{is_lt, match_ordering}
use Rattle.std.specs.declared.cmp.Ordering.{Ordering}
use Rattle.std.specs.declared.cmp.Ordering.TheVariants.{Less, Equal, Greater}
use Rattle.std.specs.Cmp.{IsTotalOrder}
use Rattle.std.proofs.lemmas.Bool.{and_parts, and_from}
use Rattle.std.proofs.lemmas.List.{append-nil}
use Rattle.dkv_base.specs.Ordered.{put_in, left_out, is_rising}
use Rattle.dkv_base.proofs.Lists.{all-filter}
use Rattle.dkv_base.proofs.Ranks.{less}
use Rattle.dkv_base.proofs.RankedLists.{all_above-lt, all_above-eq, put_in-below}

module _ {T : Type 0} (cmp : T → T → Ordering) where
  -- what holds of all holds after a removal
  pub all-left_out : (p : T → Bool) (x : T) (ys : List T) → list_all p ys ≡ true → list_all p (left_out cmp x ys) ≡ true
  all-left_out p x ys = all-filter p _ ys

  -- what holds of all and of a new item holds after its put
  pub all-put_in : (p : T → Bool) (x : T) (ys : List T) → p x ≡ true → list_all p ys ≡ true → list_all p (put_in cmp x ys) ≡ true
  all-put_in p x [] px h = and_from _ _ px refl
  all-put_in p x (y ∷ ys) px h =
      elim (cmp x y) as (λ r. list_all p (match_ordering r (x ∷ y ∷ ys) (x ∷ ys) (y ∷ put_in cmp x ys)) ≡ true) [
        | Less ↦ and_from _ _ px h
        | Equal ↦ and_from _ _ px (and_parts _ _ h).1
        | Greater ↦ and_from _ _ (and_parts _ _ h).0 (all-put_in p x ys px (and_parts _ _ h).1)
      ]

  -- a filter keeps the order
  pub rising-filter : (p : T → Bool) (ys : List T) → is_rising cmp ys ≡ true → is_rising cmp (filter p ys) ≡ true
  rising-filter p [] h = refl
  rising-filter p (y ∷ ys) h =
      elim (p y) as (λ b. is_rising cmp (cond b (y ∷ filter p ys) (filter p ys)) ≡ true) [
        | true ↦ and_from _ _ (all-filter _ p ys (and_parts _ _ h).0) (rising-filter p ys (and_parts _ _ h).1)
        | false ↦ rising-filter p ys (and_parts _ _ h).1
      ]

  -- a removal keeps the order
  pub rising-left_out : (x : T) (ys : List T) → is_rising cmp ys ≡ true → is_rising cmp (left_out cmp x ys) ≡ true
  rising-left_out x ys = rising-filter _ ys

module _ {T : Type 0} {cmp : T → T → Ordering} (o : IsTotalOrder cmp) where
  -- a put keeps the order
  pub rising-put_in : (x : T) (ys : List T) → is_rising cmp ys ≡ true → is_rising cmp (put_in cmp x ys) ≡ true
  rising-put_in x [] h = refl
  rising-put_in x (y ∷ ys) h =
      let parts = and_parts (list_all (λ z. is_lt (cmp y z)) ys) _ h in
      elim (cmp x y) as (λ r. cmp x y ≡ r → is_rising cmp (match_ordering r (x ∷ y ∷ ys) (x ∷ ys) (y ∷ put_in cmp x ys)) ≡ true) [
        | Less ↦ λ e. and_from _ _ (and_from _ _ (ap is_lt e) (all_above-lt o x y ys (ap is_lt e) parts.0)) h
        | Equal ↦ λ e. and_from _ _ (all_above-eq o x y ys e parts.0) parts.1
        | Greater ↦ λ e. and_from _ _ (all-put_in cmp _ x ys (less o x y e) parts.0) (rising-put_in x ys parts.1)
      ] refl

  -- an item that ranks above all is put last
  pub put_in-last : (x : T) (ys : List T) → list_all (λ y. is_lt (cmp y x)) ys ≡ true → put_in cmp x ys ≡ ys ++ x ∷ []
  put_in-last x [] h = refl
  put_in-last x (y ∷ ys) h = ap (put_in cmp x) (sym (append-nil (y ∷ ys))) ∙ put_in-below o x (y ∷ ys) [] h
