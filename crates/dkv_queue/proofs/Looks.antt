-- What the row of an id says of the rows, and what a change does to it.
use Rattle.std.proofs.Common.{◌≡◌, suc, Bool, true, false, cond, not, ◌&&◌, ◌||◌, ◌==◌, List, [], ◌∷◌, length, map, filter, find, Option, Some, None, IfSome, is_some, option_and_then, Contains, refl, sym, ap, ◌∙◌, arith}
use Rattle.std.specs.Prelude.{slice_get}
use Rattle.std.specs.List.{list_all, list_any}
use Rattle.std.specs.Option.{option_map_or}
use Rattle.std.specs.Ordering.{is_lt}
use Rattle.std.proofs.lemmas.Bool.{and_parts, and_from, or_from, or_parts, not-true}
use Rattle.dkv_base.specs.declared.types.Message.{Message}
use Rattle.dkv_base.specs.declared.types.MsgId.{MsgId}
use Rattle.dkv_base.specs.State.{id_cmp, same_id, is_in_id_order}
use Rattle.dkv_base.specs.Messages.{exhausted, is_out}
use Rattle.dkv_base.specs.Ordered.{found, put_in, left_out, is_rising}
use Rattle.dkv_base.proofs.Lookups.{found-put_in, found-left_out, found-itself}
use Rattle.dkv_queue.specs.declared.row.Row.{Row}
use Rattle.dkv_queue.specs.Rows.{row_cmp, is_row_of, row_at, messages_of, is_row_out, waits, out_of, waiting_of, next_row}
use Rattle.dkv_queue.specs.Kept.{row_for}
use Rattle.dkv_queue.proofs.Laws.{out-rows}
use Rattle.dkv_base.proofs.NamedMessages.{same_id-true}
use Rattle.dkv_base.proofs.IdOrder.{id_ties}
use Rattle.dkv_queue.proofs.Ids.{row_total, not_above}

find_agree : {X : Type 0} (p q : X → Bool) → ((x : X) → p x ≡ q x) → (xs : List X) → find p xs ≡ find q xs
find_agree p q same [] = refl
find_agree p q same (x ∷ xs) = λ i. cond (same x i) (Some x) (find_agree p q same xs i)

-- a search by rank is one by id
pub found-row_at : (id : MsgId) (rows : List Row) → found row_cmp (row_for id) rows ≡ row_at id rows
found-row_at id rows = find_agree _ _ (λ r. id_ties id r.message.id) rows

pub row_at-put_in : (id : MsgId) (r : Row) (rows : List Row) → row_at id (put_in row_cmp r rows) ≡ cond (same_id id r.message.id) (Some r) (row_at id rows)
row_at-put_in id r rows =
    sym (found-row_at id (put_in row_cmp r rows)) ∙ found-put_in row_total (row_for id) r rows
    ∙ (λ i. cond (id_ties id r.message.id i) (Some r) (found-row_at id rows i))

pub row_at-left_out : (id other : MsgId) (rows : List Row) → row_at id (left_out row_cmp (row_for other) rows) ≡ cond (same_id id other) None (row_at id rows)
row_at-left_out id other rows =
    sym (found-row_at id (left_out row_cmp (row_for other) rows)) ∙ found-left_out row_total (row_for id) (row_for other) rows
    ∙ (λ i. cond (id_ties id other i) None (found-row_at id rows i))

-- each row is the row of its id
pub row_at-itself : (r : Row) (rows : List Row) → is_rising row_cmp rows ≡ true → Contains rows r → row_at r.message.id rows ≡ Some r
row_at-itself r rows rising is = sym (found-row_at r.message.id rows) ∙ found-itself row_total r rows rising is

-- it is a row of the id
pub row_at-of : (id : MsgId) (rows : List Row) (r : Row) → row_at id rows ≡ Some r → r.message.id ≡ id
row_at-of id [] r is = absurd (cc is)
row_at-of id (s ∷ rows) r is = by (is_row_of id s) refl is (row_at-of id rows r)
  where
    by : (b : Bool) → is_row_of id s ≡ b → cond b (Some s) (row_at id rows) ≡ Some r → (row_at id rows ≡ Some r → r.message.id ≡ id) → r.message.id ≡ id
    by true of is rest = let same : r ≡ s = cc is in ap (λ x. x.message.id) same ∙ sym (same_id-true id s.message.id of)
    by false of is rest = rest is

-- no row above another is of its id
none_above : (t : Row → Bool) (id : MsgId) (r : Row) (rows : List Row) → is_row_of id r ≡ true → list_all (λ s. is_lt (row_cmp r s)) rows ≡ true
    → list_any (λ s. is_row_of id s && t s) rows ≡ false
none_above t id r [] of above = refl
none_above t id r (s ∷ rows) of above =
    let not_of : is_row_of id s ≡ false = ap (λ x. same_id x s.message.id) (same_id-true id r.message.id of) ∙ not_above r s (and_parts _ _ above).0 in
    or_from _ _ (λ i. not_of i && t s) (none_above t id r rows of (and_parts _ _ above).1)

or_none : (b c : Bool) → c ≡ false → (b || c) ≡ b
or_none true c none = refl
or_none false c none = none

-- a test of the rows of an id is one of the row of the id
pub any-at : (t : Row → Bool) (id : MsgId) (rows : List Row) → is_rising row_cmp rows ≡ true → list_any (λ r. is_row_of id r && t r) rows ≡ option_map_or t (row_at id rows) false
any-at t id [] rising = refl
any-at t id (r ∷ rows) rising =
    elim (is_row_of id r) as (λ b. is_row_of id r ≡ b → ((b && t r) || list_any (λ s. is_row_of id s && t s) rows) ≡ option_map_or t (cond b (Some r) (row_at id rows)) false) [
      | true ↦ λ of. or_none (t r) _ (none_above t id r rows of (and_parts _ _ rising).0)
      | false ↦ λ of. any-at t id rows (and_parts _ _ rising).1
    ] refl

pub out-at : (id : MsgId) (rows : List Row) → is_rising row_cmp rows ≡ true → is_row_out id rows ≡ option_map_or (λ r. r.out) (row_at id rows) false
out-at id rows rising = any-at (λ r. r.out) id rows rising

pub waits-at : (id : MsgId) (rows : List Row) → is_rising row_cmp rows ≡ true → waits id rows ≡ option_map_or (λ r. not r.out) (row_at id rows) false
waits-at id rows rising = any-at (λ r. not r.out) id rows rising

-- where a test of the row of the id holds, there is that row
pub some-at : (t : Row → Bool) (o : Option Row) → option_map_or t o false ≡ true → (r : Row) × (o ≡ Some r) × (t r ≡ true)
some-at t None h = absurd (cc h)
some-at t (Some r) h = (r, refl, h)

-- the message of the id, if it had its last failure
abbrev pub exhausted_row : Row → Option Message
exhausted_row r = cond (r.message.fails == length r.message.backoff) (Some r.message) None

pub exhausted-at : (id : MsgId) (rows : List Row) → is_rising row_cmp rows ≡ true → exhausted id (messages_of rows) ≡ option_and_then exhausted_row (row_at id rows)
exhausted-at id [] rising = refl
exhausted-at id (r ∷ rows) rising =
    elim (is_row_of id r) as (λ b. is_row_of id r ≡ b
    → cond (b && (r.message.fails == length r.message.backoff)) (Some r.message) (exhausted id (messages_of rows)) ≡ option_and_then exhausted_row (cond b (Some r) (row_at id rows))) [
      | true ↦ λ of. ap (cond (r.message.fails == length r.message.backoff) (Some r.message)) (none rows (none_above (λ s. s.message.fails == length s.message.backoff) id r rows of (and_parts _ _ rising).0))
      | false ↦ λ of. exhausted-at id rows (and_parts _ _ rising).1
    ] refl
  where
    none : (rows : List Row) → list_any (λ s. is_row_of id s && (s.message.fails == length s.message.backoff)) rows ≡ false → exhausted id (messages_of rows) ≡ None
    none [] h = refl
    none (s ∷ rows) h =
        let parts = or_parts (is_row_of id s && (s.message.fails == length s.message.backoff)) (list_any (λ r. is_row_of id r && (r.message.fails == length r.message.backoff)) rows) h in
        (λ i. cond (parts.0 i) (Some s.message) (exhausted id (messages_of rows))) ∙ none rows parts.1

-- a filter of what a list is mapped to
pub filter-map : {X Y : Type 0} (p : Y → Bool) (f : X → Y) (xs : List X) → filter p (map f xs) ≡ map f (filter (λ x. p (f x)) xs)
filter-map p f [] = refl
filter-map p f (x ∷ xs) =
    elim (p (f x)) as (λ b. cond b (f x ∷ filter p (map f xs)) (filter p (map f xs)) ≡ map f (cond b (x ∷ filter (λ y. p (f y)) xs) (filter (λ y. p (f y)) xs))) [
      | true ↦ ap (λ ys. f x ∷ ys) (filter-map p f xs)
      | false ↦ filter-map p f xs
    ]

-- what is among the rest is among all
pub behind : {X : Type 0} (x y : X) (xs : List X) → Contains xs y → Contains (x ∷ xs) y
behind x y xs (k, lt, is) = (suc k, omega (arith, lt), is)

pub ahead : {X : Type 0} (x : X) (xs : List X) → Contains (x ∷ xs) x
ahead x xs = (0, omega arith, refl)

filter-each : {X : Type 0} (p q : X → Bool) (xs : List X) → ((x : X) → Contains xs x → p x ≡ q x) → filter p xs ≡ filter q xs
filter-each p q [] same = refl
filter-each p q (x ∷ xs) same = λ i. cond (same x (ahead x xs) i) (x ∷ filter-each p q xs (λ y is. same y (behind x y xs is)) i) (filter-each p q xs (λ y is. same y (behind x y xs is)) i)

-- the messages that aren't out are those of the rows that aren't
pub waiting-messages : (rows : List Row) → is_rising row_cmp rows ≡ true → waiting_of rows ≡ messages_of (filter (λ r. not r.out) rows)
waiting-messages rows rising =
    filter-map (λ m. not (is_out m.id (out_of rows))) (λ r. r.message) rows
    ∙ ap messages_of (filter-each _ _ rows (λ r is. ap not (out-rows r.message.id rows ∙ out-at r.message.id rows rising ∙ ap (λ o. option_map_or (λ s. s.out) o false) (row_at-itself r rows rising is))))

-- a test of all or of some of what a filter leaves
pub any-filtered : {X Y : Type 0} (q : X → Bool) (f : X → Y) (t : Y → Bool) (xs : List X) → list_any t (map f (filter q xs)) ≡ list_any (λ x. q x && t (f x)) xs
any-filtered q f t [] = refl
any-filtered q f t (x ∷ xs) =
    elim (q x) as (λ b. list_any t (map f (cond b (x ∷ filter q xs) (filter q xs))) ≡ ((b && t (f x)) || list_any (λ y. q y && t (f y)) xs)) [
      | true ↦ ap (λ c. t (f x) || c) (any-filtered q f t xs)
      | false ↦ any-filtered q f t xs
    ]

pub all-filtered : {X Y : Type 0} (q : X → Bool) (f : X → Y) (t : Y → Bool) (xs : List X) → ((x : X) → Contains xs x → q x ≡ true → t (f x) ≡ true) → list_all t (map f (filter q xs)) ≡ true
all-filtered q f t [] each = refl
all-filtered q f t (x ∷ xs) each =
    let rest = all-filtered q f t xs (λ y is. each y (behind x y xs is)) in
    elim (q x) as (λ b. q x ≡ b → list_all t (map f (cond b (x ∷ filter q xs) (filter q xs))) ≡ true) [
      | true ↦ λ h. and_from _ _ (each x (ahead x xs) h) rest
      | false ↦ λ h. rest
    ] refl

-- what holds of all messages holds of those of all rows
pub all-messages : (t : Message → Bool) (rows : List Row) → list_all t (messages_of rows) ≡ list_all (λ r. t r.message) rows
all-messages t [] = refl
all-messages t (r ∷ rows) = ap (λ b. t r.message && b) (all-messages t rows)

-- messages are in order where their rows are
pub order-messages : (rows : List Row) → is_in_id_order (messages_of rows) ≡ is_rising row_cmp rows
order-messages [] = refl
order-messages (r ∷ rows) = λ i. all-messages (λ m. is_lt (id_cmp r.message.id m.id)) rows i && order-messages rows i

-- the first of all rows
pub first-row : (rows : List Row) → next_row None rows ≡ slice_get rows 0
first-row [] = refl
first-row (r ∷ rows) = refl

-- whether the message is out, by what a search by rank finds
pub out-found : (id : MsgId) (rows : List Row) (o : Option Row) → is_rising row_cmp rows ≡ true → found row_cmp (row_for id) rows ≡ o → is_row_out id rows ≡ option_map_or (λ r. r.out) o false
out-found id rows o rising is = out-at id rows rising ∙ ap (λ x. option_map_or (λ r. r.out) x false) (sym (found-row_at id rows) ∙ is)

-- where the message is out, the search finds its row, which is out
pub out-row : (id : MsgId) (rows : List Row) (o : Option Row) → is_rising row_cmp rows ≡ true → o ≡ found row_cmp (row_for id) rows → is_row_out id rows ≡ true
    → (r : Row) × (o ≡ Some r) × (row_at id rows ≡ Some r) × (r.out ≡ true)
out-row id rows o rising is out =
    let some = some-at (λ r. r.out) (row_at id rows) (sym (out-at id rows rising) ∙ out) in
    (some.0, is ∙ found-row_at id rows ∙ some.1, some.1, some.2)

-- where it waits, the row isn't out
pub waits-row : (id : MsgId) (rows : List Row) (o : Option Row) → is_rising row_cmp rows ≡ true → o ≡ found row_cmp (row_for id) rows → waits id rows ≡ true
    → (r : Row) × (o ≡ Some r) × (row_at id rows ≡ Some r) × (r.out ≡ false)
waits-row id rows o rising is waiting =
    let some = some-at (λ r. not r.out) (row_at id rows) (sym (waits-at id rows rising) ∙ waiting) in
    (some.0, is ∙ found-row_at id rows ∙ some.1, some.1, not-true _ some.2)

-- what a clause says of what is there
pub if-some : {X : Type 0} (o : Option X) (x : X) (P : Type 0) → o ≡ Some x → IfSome o (λ _. P) → P
if-some None x P is h = absurd (cc is)
if-some (Some y) x P is h = h

pub if-there : {X : Type 0} (o : Option X) (P : Type 0) → is_some o ≡ true → IfSome o (λ _. P) → P
if-there None P is h = absurd (cc is)
if-there (Some y) P is h = h

-- the row that the search found is the row of the id
pub known-at : (id : MsgId) (rows : List Row) (r : Row) → Some r ≡ found row_cmp (row_for id) rows → row_at id rows ≡ Some r
known-at id rows r is = sym (found-row_at id rows) ∙ sym is

pub known-out : (id : MsgId) (rows : List Row) (r : Row) → is_rising row_cmp rows ≡ true → row_at id rows ≡ Some r → is_row_out id rows ≡ true → r.out ≡ true
known-out id rows r rising is out = sym (out-at id rows rising ∙ ap (λ o. option_map_or (λ s. s.out) o false) is) ∙ out

pub known-waits : (id : MsgId) (rows : List Row) (r : Row) → is_rising row_cmp rows ≡ true → row_at id rows ≡ Some r → waits id rows ≡ true → r.out ≡ false
known-waits id rows r rising is waiting = not-true r.out (sym (waits-at id rows rising ∙ ap (λ o. option_map_or (λ s. not s.out) o false) is) ∙ waiting)

-- a message that waits or is out is found
pub never-none : (t : Row → Bool) (id : MsgId) (rows : List Row) → is_rising row_cmp rows ≡ true → None ≡ found row_cmp (row_for id) rows → list_any (λ r. is_row_of id r && t r) rows ≡ true → ⊥
never-none t id rows rising is any =
    let no : false ≡ true = ap (λ o. option_map_or t o false) (is ∙ found-row_at id rows) ∙ sym (any-at t id rows rising) ∙ any in
    cc no
