-- The next message of a walk over a queue.
use Rattle.std.proofs.Common.{◌≡◌, refl, sym, ◌∙◌, ap, subst, Bool, true, false, cond, List, [], ◌∷◌, filter, find, Option, Some, None}
use Rattle.std.specs.Prelude.{option_map}
use Rattle.std.specs.List.{list_all}
use Rattle.std.specs.Ordering.{is_lt}
use Rattle.std.proofs.lemmas.Bool.{and_parts}
use Rattle.dkv_base.specs.declared.types.Message.{Message}
use Rattle.dkv_base.specs.declared.types.MsgId.{MsgId}
use Rattle.dkv_base.specs.State.{id_cmp, is_in_id_order}
use Rattle.dkv_base.proofs.IdOrder.{id_total}
use Rattle.dkv_base.proofs.Lists.{all_weaker}
use Rattle.dkv_base.proofs.Ranks.{not_lt-below, lt_lt}
use Rattle.dkv_queue.specs.declared.row.Row.{Row}
use Rattle.dkv_queue.specs.Rows.{messages_of}
use Rattle.dkv_image_io.specs.Walks.{is_later, later}
use Rattle.dkv_image.proofs.Taken.{some_is}

-- the message of the first row is the first message
pub rows_find : (p : Message → Bool) (rows : List Row) → option_map (λ r. r.message) (find (λ r. p r.message) rows) ≡ find p (messages_of rows)
rows_find p [] = refl
rows_find p (r ∷ rows) = by (p r.message) (rows_find p rows)
  where
    by : (b : Bool) → option_map (λ r. r.message) (find (λ r. p r.message) rows) ≡ find p (messages_of rows)
        → option_map (λ r. r.message) (cond b (Some r) (find (λ r. p r.message) rows)) ≡ cond b (Some r.message) (find p (messages_of rows))
    by true rest = refl
    by false rest = rest

filter_keeps : {X : Type 0} (p : X → Bool) (xs : List X) → list_all p xs ≡ true → filter p xs ≡ xs
filter_keeps p [] all = refl
filter_keeps p (x ∷ xs) all = let parts = and_parts _ _ all in (λ i. cond (parts.0 i) (x ∷ filter p xs) (filter p xs)) ∙ ap (λ ys. x ∷ ys) (filter_keeps p xs parts.1)

find_passes : {X : Type 0} (p q : X → Bool) (xs : List X) (m : X) → list_all q xs ≡ true → find p xs ≡ Some m → q m ≡ true
find_passes p q [] m all is = absurd (cc is)
find_passes {X = X} p q (x ∷ xs) m all is = by (p x) is (λ later. find_passes p q xs m (and_parts _ _ all).1 later)
  where
    by : (b : Bool) → cond b (Some x) (find p xs) ≡ Some m → (find p xs ≡ Some m → q m ≡ true) → q m ≡ true
    by true is rest = ap q (sym (some_is x m is)) ∙ (and_parts _ _ all).0
    by false is rest = rest is

pub none_left : {X : Type 0} (p : X → Bool) (xs : List X) → find p xs ≡ None → filter p xs ≡ []
none_left p [] is = refl
none_left {X = X} p (x ∷ xs) is = by (p x) is (λ later. none_left p xs later)
  where
    by : (b : Bool) → cond b (Some x) (find p xs) ≡ None → (find p xs ≡ None → filter p xs ≡ []) → cond b (x ∷ filter p xs) (filter p xs) ≡ []
    by true is rest = absurd (cc is)
    by false is rest = rest is

not_itself : (i : MsgId) → is_lt (id_cmp i i) ≡ false
not_itself i = elim (is_lt (id_cmp i i)) as (λ b. is_lt (id_cmp i i) ≡ b → b ≡ false) [
  | true ↦ λ h. sym h ∙ not_lt-below id_total i i h
  | false ↦ λ h. refl
] refl

-- what is above a later message is later
all_later : (last : Option MsgId) (x : Message) (xs : List Message) → is_later last x ≡ true → list_all (λ z. is_lt (id_cmp x.id z.id)) xs ≡ true → list_all (is_later last) xs ≡ true
all_later None x xs h all = all_weaker _ _ (λ z k. refl) xs all
all_later (Some i) x xs h all = all_weaker _ _ (λ z k. lt_lt id_total i x.id z.id h k) xs all

-- nothing is before a message that is below it
pass_by : (x m : Message) (xs : List Message) → is_lt (id_cmp m.id x.id) ≡ false → later (Some m.id) (x ∷ xs) ≡ later (Some m.id) xs
pass_by x m xs h i = cond (h i) (x ∷ later (Some m.id) xs) (later (Some m.id) xs)

pub next_is : (last : Option MsgId) (ms : List Message) (m : Message) → is_in_id_order ms ≡ true → find (is_later last) ms ≡ Some m → later last ms ≡ m ∷ later (Some m.id) ms
next_is last [] m order is = absurd (cc is)
next_is last (x ∷ xs) m order is = by (is_later last x) refl is (λ later. next_is last xs m (and_parts _ _ order).1 later)
  where
    above : list_all (λ z. is_lt (id_cmp x.id z.id)) xs ≡ true
    above = (and_parts _ _ order).0

    here : is_later last x ≡ true → x ∷ later last xs ≡ x ∷ later (Some x.id) (x ∷ xs)
    here h = ap (λ (ys : List Message). x ∷ ys) (filter_keeps (is_later last) xs (all_later last x xs h above) ∙ sym (pass_by x x xs (not_itself x.id) ∙ filter_keeps (is_later (Some x.id)) xs above))

    by : (b : Bool) → is_later last x ≡ b → cond b (Some x) (find (is_later last) xs) ≡ Some m → (find (is_later last) xs ≡ Some m → later last xs ≡ m ∷ later (Some m.id) xs)
        → cond b (x ∷ later last xs) (later last xs) ≡ m ∷ later (Some m.id) (x ∷ xs)
    by true h is rest = subst (λ (y : Message). x ∷ later last xs ≡ y ∷ later (Some y.id) (x ∷ xs)) (some_is x m is) (here h)
    by false h is rest = rest is ∙ ap (λ (ys : List Message). m ∷ ys) (sym (pass_by x m xs (not_lt-below id_total m.id x.id (find_passes (is_later last) (λ z. is_lt (id_cmp x.id z.id)) xs m above is))))
