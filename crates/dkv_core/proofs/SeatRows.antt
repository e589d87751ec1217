-- The rows of those who watch beside the seats of callers.
use Rattle.std.proofs.Common.{◌≡◌, ℕ, zero, suc, ◌<◌, Bool, true, false, cond, not, ◌||◌, ◌&&◌, ◌==◌, List, [], ◌∷◌, ◌++◌, length, get_or, set, filter, None, refl, sym, ap, subst, ◌∙◌, arith}
use Rattle.std.specs.List.{list_any}
use Rattle.std.specs.Cmp.Lexicographic.{pointwise}
use Rattle.std.specs.Prelude.{bytes_eq}
use Rattle.std.proofs.lemmas.Bool.{eq-eqb}
use Rattle.std.proofs.lemmas.List.{append-nil}
use Rattle.std.proofs.lemmas.List.Elements.{filter-append}
use Rattle.std.proofs.lemmas.List.Folds.{list_any-append}
use Rattle.std.proofs.lemmas.Slice.Eq.{bytes_eq-Decides, slice_eq-Decides}
use Rattle.dkv_base.proofs.Lists.{filter_all, or_false}
use Rattle.dkv_hub.specs.Rows.{Watch, WatchRow, is_free, is_row_of, new_row, rows_without, same_keys}
use Rattle.dkv_core.specs.Cores.{Database}
use Rattle.dkv_core.specs.Seats.{AreWithRow, is_seated, rows_beside}
use Rattle.dkv_core.specs.declared.seats.Seat.{Seat}

-- whether the row is that of the seat's watcher
abbrev pub is_of : WatchRow → Seat → Bool
is_of r s = is_row_of s.watcher.number s.watcher.keys r

-- ---- the seats that have a row

any_same : (r : WatchRow) (seats : List Seat) (i : ℕ) (s d : Seat) → is_of r s ≡ is_of r (get_or seats i d) → list_any (is_of r) (set seats i s) ≡ list_any (is_of r) seats
any_same r [] i s d e = refl
any_same r (x ∷ seats) zero s d e = ap (λ b. b || list_any (is_of r) seats) e
any_same r (x ∷ seats) (suc i) s d e = ap (λ b. is_of r x || b) (any_same r seats i s d e)

any_gone : (r : WatchRow) (seats : List Seat) (i : ℕ) (s d : Seat) → i < length seats → is_of r s ≡ false → (is_of r (get_or seats i d) || list_any (is_of r) (set seats i s)) ≡ list_any (is_of r) seats
any_gone r [] i s d lt e = absurd (omega arith)
any_gone r (x ∷ seats) zero s d lt e = ap (λ b. is_of r x || (b || list_any (is_of r) seats)) e
any_gone r (x ∷ seats) (suc i) s d lt e =
    turn (is_of r (get_or seats i d)) (is_of r x) (list_any (is_of r) (set seats i s))
    ∙ ap (λ b. is_of r x || b) (any_gone r seats i s d (omega arith) e)
  where
    turn : (a b c : Bool) → (a || (b || c)) ≡ (b || (a || c))
    turn true true c = refl
    turn true false c = refl
    turn false b c = refl

any_has : (r : WatchRow) (seats : List Seat) (i : ℕ) (s : Seat) → i < length seats → is_of r s ≡ true → list_any (is_of r) (set seats i s) ≡ true
any_has r [] i s lt e = absurd (omega arith)
any_has r (x ∷ seats) zero s lt e = ap (λ b. b || list_any (is_of r) seats) e
any_has r (x ∷ seats) (suc i) s lt e = ap (λ b. is_of r x || b) (any_has r seats i s (omega arith) e) ∙ or_true (is_of r x)
  where
    or_true : (b : Bool) → (b || true) ≡ true
    or_true true = refl
    or_true false = refl

-- ---- rows

or_parts : (a b : Bool) → not (a || b) ≡ true → (a ≡ false) × (not b ≡ true)
or_parts true b h = absurd (cc h)
or_parts false b h = (refl, h)

-- two tests that agree on all rows but those of one number leave the same of rows without that number
agree : (p q : WatchRow → Bool) (n : ℕ) → ((r : WatchRow) → (r.number == n) ≡ false → p r ≡ q r) → (rows : List WatchRow) → is_free n rows ≡ true → filter p rows ≡ filter q rows
agree p q n so [] free = refl
agree p q n so (r ∷ rows) free =
    let parts = or_parts (r.number == n) (list_any (λ k. k.number == n) rows) free in
    let rest = agree p q n so rows parts.1 in
    (λ i. cond (so r parts.0 i) (r ∷ rest i) (rest i))

-- a row of another number is not that of the watcher
other_row : (n : ℕ) (keys : List (List ℕ)) (r : WatchRow) → (r.number == n) ≡ false → is_row_of n keys r ≡ false
other_row n keys r other = ap (λ b. b && same_keys r.keys keys) other

-- a new row is that of its watcher
own_row : (n : ℕ) (keys : List (List ℕ)) → is_row_of n keys (new_row n keys) ≡ true
own_row n keys =
    let alike : pointwise bytes_eq keys keys ≡ true = (slice_eq-Decides bytes_eq-Decides keys keys (pointwise bytes_eq keys keys) refl).1 refl in
    (λ i. eq-eqb n n refl i && alike i)

-- what a test leaves of rows, and then of a row that fails it
last_gone : (p : WatchRow → Bool) (rows : List WatchRow) (r : WatchRow) → p r ≡ false → filter p (rows ++ r ∷ []) ≡ filter p rows
last_gone p rows r fails = filter-append p rows (r ∷ []) ∙ (λ i. filter p rows ++ cond (fails i) (r ∷ []) []) ∙ append-nil (filter p rows)

-- two tests in a row
both_tests : (a b : WatchRow → Bool) (rows : List WatchRow) → filter (λ r. not (b r)) (filter (λ r. not (a r)) rows) ≡ filter (λ r. not (a r || b r)) rows
both_tests a b [] = refl
both_tests a b (r ∷ rows) =
    elim (a r) as (λ t. filter (λ k. not (b k)) (cond (not t) (r ∷ filter (λ k. not (a k)) rows) (filter (λ k. not (a k)) rows)) ≡ cond (not (t || b r)) (r ∷ filter (λ k. not (a k || b k)) rows) (filter (λ k. not (a k || b k)) rows)) [
      | true ↦ both_tests a b rows
      | false ↦ ap (λ ks. cond (not (b r)) (r ∷ ks) ks) (both_tests a b rows)
    ]

-- ---- what the calls leave

-- with no seats
pub beside_none : (rows : List WatchRow) → rows_beside [] rows ≡ rows
beside_none rows = filter_all rows

-- a watcher that ends at once
pub beside_ended : (before rows : List WatchRow) (seats : List Seat) (s : Seat) → AreWithRow before s rows → rows_beside seats (rows_without s.watcher.number s.watcher.keys rows) ≡ rows_beside seats before
beside_ended before rows seats s is =
    let n = s.watcher.number in
    let keys = s.watcher.keys in
    let p : WatchRow → Bool = λ r. not (is_row_of n keys r) in
    ap (rows_beside seats)
    (ap (λ rs. filter p rs) is.added ∙ last_gone p before (new_row n keys) (ap not (own_row n keys))
    ∙ agree p (λ r. true) n (λ r other. ap not (other_row n keys r other)) before is.free ∙ filter_all before)

-- a new seat behind the others
pub beside_pushed : (before rows : List WatchRow) (seats : List Seat) (s : Seat) → AreWithRow before s rows → rows_beside (seats ++ s ∷ []) rows ≡ rows_beside seats before
beside_pushed before rows seats s is =
    let n = s.watcher.number in
    let keys = s.watcher.keys in
    let p : WatchRow → Bool = λ r. not (is_seated (seats ++ s ∷ []) r) in
    let last : (r : WatchRow) → is_seated (seats ++ s ∷ []) r ≡ (is_seated seats r || (is_of r s || false)) = λ r. list_any-append (is_of r) seats (s ∷ []) in
    ap (λ rs. filter p rs) is.added
    ∙ last_gone p before (new_row n keys) (ap not (last (new_row n keys) ∙ ap (λ b. is_seated seats (new_row n keys) || (b || false)) (own_row n keys) ∙ or_true (is_seated seats (new_row n keys))))
    ∙ agree p (λ r. not (is_seated seats r)) n (λ r other. ap not (last r ∙ ap (λ b. is_seated seats r || (b || false)) (other_row n keys r other) ∙ or_false (is_seated seats r))) before is.free
  where
    or_true : (b : Bool) → (b || true) ≡ true
    or_true true = refl
    or_true false = refl

-- a new seat in the place of another, whose watcher ends
pub beside_replaced : (before rows : List WatchRow) (seats : List Seat) (i : ℕ) (s old : Seat) → i < length seats → old ≡ get_or seats i old → AreWithRow before s rows
    → rows_beside (set seats i s) (rows_without old.watcher.number old.watcher.keys rows) ≡ rows_beside seats before
beside_replaced before rows seats i s old lt was is =
    let n = s.watcher.number in
    let keys = s.watcher.keys in
    let p : WatchRow → Bool = λ r. not (is_of r old || is_seated (set seats i s) r) in
    let gone : (r : WatchRow) → is_of r s ≡ false → (is_of r old || is_seated (set seats i s) r) ≡ is_seated seats r =
    λ r other. ap (λ (o : Seat). is_of r o || is_seated (set seats i s) r) was ∙ any_gone r seats i s old lt other in
    both_tests (λ r. is_of r old) (is_seated (set seats i s)) rows
    ∙ ap (λ rs. filter p rs) is.added
    ∙ last_gone p before (new_row n keys) (ap not (ap (λ b. is_of (new_row n keys) old || b) (any_has (new_row n keys) seats i s lt (own_row n keys)) ∙ or_true (is_of (new_row n keys) old)))
    ∙ agree p (λ r. not (is_seated seats r)) n (λ r other. ap not (gone r (other_row n keys r other))) before is.free
  where
    or_true : (b : Bool) → (b || true) ≡ true
    or_true true = refl
    or_true false = refl

-- a watcher that shows something keeps its row
pub beside_shown : (rows : List WatchRow) (seats : List Seat) (i : ℕ) (s old : Seat) → old ≡ get_or seats i old → s.watcher.number ≡ old.watcher.number → s.watcher.keys ≡ old.watcher.keys
    → rows_beside (set seats i s) rows ≡ rows_beside seats rows
beside_shown rows seats i s old was number keys = each rows
  where
    same : (r : WatchRow) → is_seated (set seats i s) r ≡ is_seated seats r
    same r = any_same r seats i s old ((λ j. is_row_of (number j) (keys j) r) ∙ ap (λ (o : Seat). is_of r o) was)

    each : (rs : List WatchRow) → rows_beside (set seats i s) rs ≡ rows_beside seats rs
    each [] = refl
    each (r ∷ rs) = λ j. cond (not (same r j)) (r ∷ each rs j) (each rs j)

other_way : (a b : Bool) → (a || b) ≡ (b || (a || false))
other_way true true = refl
other_way true false = refl
other_way false true = refl
other_way false false = refl

-- the watcher of the last seat ends
pub beside_left : (rows : List WatchRow) (seats : List Seat) (s : Seat) → rows_beside seats (rows_without s.watcher.number s.watcher.keys rows) ≡ rows_beside (seats ++ s ∷ []) rows
beside_left rows seats s = both_tests (λ r. is_of r s) (is_seated seats) rows ∙ each rows
  where
    turned : (r : WatchRow) → (is_of r s || is_seated seats r) ≡ is_seated (seats ++ s ∷ []) r
    turned r = other_way (is_of r s) (is_seated seats r) ∙ sym (list_any-append (is_of r) seats (s ∷ []))

    each : (rs : List WatchRow) → filter (λ r. not (is_of r s || is_seated seats r)) rs ≡ rows_beside (seats ++ s ∷ []) rs
    each [] = refl
    each (r ∷ rs) = λ j. cond (not (turned r j)) (r ∷ each rs j) (each rs j)

-- the row of a watch that began and then showed something, or nothing
pub with_row : (c d : Database) (who : ℕ) (keys : List (List ℕ)) (w later : Watch) → w ≡ record { number = w.number; keys = keys; shown = None } → is_free w.number c.watches ≡ true
    → d ≡ record c { watches = c.watches ++ new_row w.number keys ∷ [] } → later.keys ≡ w.keys → later.number ≡ w.number → AreWithRow c.watches (record { who = who; watcher = later }) d.watches
with_row c d who keys w later begun free row same number = record {
  added = ap (λ (v : Database). v.watches) row ∙ (λ i. c.watches ++ new_row (sym number i) (sym (same ∙ ap (λ (x : Watch). x.keys) begun) i) ∷ []);
  free = subst (λ n. is_free n c.watches ≡ true) (sym number) free;
}
