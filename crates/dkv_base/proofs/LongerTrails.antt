-- The items of a longer trail.
use Rattle.std.proofs.Common.{◌≡◌, ℕ, Bool, true, false, not, ◌&&◌, ◌||◌, List, [], ◌∷◌, ◌++◌, filter, refl, sym, ap, ◌∙◌, append_assoc}
use Rattle.std.specs.List.{list_any}
use Rattle.std.proofs.lemmas.List.{append-nil}
use Rattle.std.proofs.lemmas.List.Elements.{filter-append}
use Rattle.std.proofs.lemmas.List.Folds.{list_any-append}
use Rattle.std.proofs.lemmas.Grind.{flat_map-append}
use Rattle.std.proofs.Math.Bool.{and_assoc}
use Rattle.dkv_base.specs.declared.types.Item.{Item}
use Rattle.dkv_base.specs.State.{State}
use Rattle.dkv_base.specs.Trails.{commits, commits_of, out, takes, settles, is_item_legal, items_legal_from}
use Rattle.dkv_base.proofs.Lists.{filter_all, two_filters, or_false}

-- ---- the items of a longer trail

pub commits-push : (xs : List Item) (x : Item) → commits (xs ++ x ∷ []) ≡ commits xs ++ commits_of x
commits-push xs x = flat_map-append commits_of xs (x ∷ []) ∙ ap (λ cs. commits xs ++ cs) (append-nil (commits_of x))

pub out-push : (xs : List Item) (x : Item) → out (xs ++ x ∷ []) ≡ filter (λ id. not (settles id x)) (out xs) ++ takes x
out-push [] x = ap (λ ids. ids ++ []) (filter_all (takes x)) ∙ append-nil (takes x)
out-push (y ∷ xs) x =
    (λ i. filter (λ id. not ((list_any-append (settles id) xs (x ∷ []) ∙ ap (λ b. list_any (settles id) xs || b) (or_false (settles id x))) i)) (takes y) ++ out-push xs x i)
    ∙ (λ i. two_filters (λ id. list_any (settles id) xs) (λ id. settles id x) (takes y) i ++ (filter (λ id. not (settles id x)) (out xs) ++ takes x))
    ∙ sym (append_assoc (filter (λ id. not (settles id x)) (filter (λ id. not (list_any (settles id) xs)) (takes y))) _ (takes x))
    ∙ ap (λ ids. ids ++ takes x) (sym (filter-append (λ id. not (settles id x)) (filter (λ id. not (list_any (settles id) xs)) (takes y)) (out xs)))

pub items-push : (base : State) (limit : ℕ) (before xs : List Item) (x : Item)
    → items_legal_from base limit before (xs ++ x ∷ []) ≡ (items_legal_from base limit before xs && is_item_legal base limit (before ++ xs) x)
items-push base limit before [] x = and_true _ ∙ ap (λ b. is_item_legal base limit b x) (sym (append-nil before))
  where
    and_true : (b : Bool) → (b && true) ≡ b
    and_true true = refl
    and_true false = refl
items-push base limit before (y ∷ xs) x =
    ap (λ b. is_item_legal base limit before y && b)
    (items-push base limit (before ++ y ∷ []) xs x ∙ ap (λ b. items_legal_from base limit (before ++ y ∷ []) xs && is_item_legal base limit b x) (append_assoc before (y ∷ []) xs))
    ∙ sym (and_assoc (is_item_legal base limit before y) (items_legal_from base limit (before ++ y ∷ []) xs) _)
