-- The first of the due ones names the message that is due first.
use Rattle.std.proofs.Common.{All, Contains, ◌≡◌, ℕ, ◌<◌, ◌≤◌, Bool, true, false, cond, not, ◌&&◌, ◌||◌, ◌==◌, nat_le, List, [], ◌∷◌, filter, Option, Some, None, is_some, option_map, if◌then◌else◌, refl, sym, ap, ◌∙◌, subst, arith}
use Rattle.std.specs.Prelude.{slice_get}
use Rattle.std.specs.List.{list_all, list_any}
use Rattle.std.specs.Option.{option_map_or}
use Rattle.std.specs.Ordering.{is_eq, is_lt, is_le, ordering_reverse}
use Rattle.std.specs.declared.cmp.Ordering.{Ordering}
use Rattle.std.specs.declared.cmp.Ordering.TheVariants.{Less, Equal, Greater}
use Rattle.std.proofs.lemmas.Bool.{and_parts, and_from, or_left, or_right, le-leb, lt-leb, eqb-true, eq-eqb}
use Rattle.std.proofs.lemmas.Cmp.{tied_itself, tied_back}
use Rattle.std.proofs.lemmas.List.Elements.{All-head, All-tail, All-map, All-filter, All-weaker, All-contains_itself}
use Rattle.dkv_base.specs.declared.types.Message.{Message}
use Rattle.dkv_base.specs.State.{same_id}
use Rattle.dkv_base.specs.Messages.{first_due, is_before, is_out}
use Rattle.dkv_base.specs.Ordered.{found, is_rising}
use Rattle.dkv_base.proofs.Ranks.{eq_is, lt_eq, number-le}
use Rattle.dkv_base.proofs.Lists.{all_at, all-filter}
use Rattle.dkv_queue.specs.declared.row.Row.{Row}
use Rattle.dkv_queue.specs.declared.moment.DueAt.{DueAt}
use Rattle.dkv_queue.specs.Rows.{row_cmp, row_at, message_at, messages_of, out_of, waiting_of, waits, due_at}
use Rattle.dkv_queue.specs.Answers.{IsDueNow, IsNoneDue}
use Rattle.dkv_queue.specs.Kept.{due_cmp, is_due_at, IsLinked}
use Rattle.dkv_base.proofs.NamedMessages.{same_id-true}
use Rattle.dkv_queue.proofs.Ids.{due_total, due_ties}
use Rattle.dkv_queue.proofs.Looks.{row_at-itself, any-at, waits-at, some-at, waiting-messages, any-filtered, all-filtered}
use Rattle.dkv_queue.proofs.Keeps.{due_of}

-- what holds of all holds of the first that is due
first_due-holds : (P : Message → Type 0) (ms : List Message) (k : Message) → All P ms → first_due ms ≡ Some k → P k
first_due-holds P [] k all is = absurd (cc is)
first_due-holds P (m ∷ ms) k all is = by (first_due ms) (first_due-holds P ms) is
  where
    told : (x : Message) → ◌≡◌ {A = Option Message} (Some x) (Some k) → P x → P k
    told x same h = let alike : x ≡ k = cc same in subst P alike h

    pick : (b : Bool) (j : Message) → ◌≡◌ {A = Option Message} (Some (if b then j else m)) (Some k) → P j → P k
    pick true j same h = told j same h
    pick false j same h = told m same (All-head P m ms all)

    by : (o : Option Message) → ((x : Message) → All P ms → o ≡ Some x → P x) → Some (option_map_or (λ j. if is_before j m then j else m) o m) ≡ Some k → P k
    by None rest same = told m same (All-head P m ms all)
    by (Some j) rest same = pick (is_before j m) j same (rest j (All-tail P m ms all) refl)

pub first_due-all : (q : Message → Bool) (ms : List Message) (k : Message) → list_all q ms ≡ true → first_due ms ≡ Some k → q k ≡ true
first_due-all q ms k all is = first_due-holds (λ m. q m ≡ true) ms k (λ i d lt. all_at q ms i d all lt) is

le_not_lt : (r : Ordering) → is_le r ≡ true → is_lt r ≡ false → is_eq r ≡ true
le_not_lt Less le lt = absurd (cc lt)
le_not_lt Equal le lt = refl
le_not_lt Greater le lt = absurd (cc le)

turned_le : (r : Ordering) → is_le r ≡ true → is_lt (ordering_reverse r) ≡ false
turned_le Less le = refl
turned_le Equal le = refl
turned_le Greater le = absurd (cc le)

-- where one ties with the least, it is the first that is due
pub first_due-least : (d : DueAt) (ms : List Message) → list_any (λ m. is_eq (due_cmp d (due_of m))) ms ≡ true → list_all (λ m. is_le (due_cmp d (due_of m))) ms ≡ true
    → (m : Message) × (first_due ms ≡ Some m) × (is_eq (due_cmp d (due_of m)) ≡ true)
first_due-least d [] any all = absurd (cc any)
first_due-least d (m ∷ ms) any all = by (list_any (λ k. is_eq (due_cmp d (due_of k))) ms) refl any (λ some. first_due-least d ms some behind)
  where
    here : is_le (due_cmp d (due_of m)) ≡ true
    here = (and_parts (is_le (due_cmp d (due_of m))) (list_all (λ k. is_le (due_cmp d (due_of k))) ms) all).0

    behind : list_all (λ k. is_le (due_cmp d (due_of k))) ms ≡ true
    behind = (and_parts (is_le (due_cmp d (due_of m))) (list_all (λ k. is_le (due_cmp d (due_of k))) ms) all).1

    -- a later one ties: it is the first, or this one ties too
    later : (k : Message) (b : Bool) → is_before k m ≡ b → first_due ms ≡ Some k → is_eq (due_cmp d (due_of k)) ≡ true
        → (x : Message) × (first_due (m ∷ ms) ≡ Some x) × (is_eq (due_cmp d (due_of x)) ≡ true)
    later k true before is ties = (k, ap (λ o. Some (option_map_or (λ j. if is_before j m then j else m) o m)) is ∙ (λ i. Some (if before i then k else m)), ties)
    later k false before is ties = (
      m,
      ap (λ o. Some (option_map_or (λ j. if is_before j m then j else m) o m)) is ∙ (λ i. Some (if before i then k else m)),
      le_not_lt _ here (ap is_lt (due_total.congr d (due_of k) (due_of m) (eq_is _ ties)) ∙ before),
    )

    -- this one ties, and none is before it
    now : (o : Option Message) → first_due ms ≡ o → is_eq (due_cmp d (due_of m)) ≡ true → (x : Message) × (first_due (m ∷ ms) ≡ Some x) × (is_eq (due_cmp d (due_of x)) ≡ true)
    now None is ties = (m, ap (λ o. Some (option_map_or (λ j. if is_before j m then j else m) o m)) is, ties)
    now (Some k) is ties =
        let above : is_le (due_cmp d (due_of k)) ≡ true = first_due-all (λ j. is_le (due_cmp d (due_of j))) ms k behind is in
        let le : is_le (due_cmp (due_of m) (due_of k)) ≡ true = ap is_le (sym (due_total.congr d (due_of m) (due_of k) (eq_is _ ties))) ∙ above in
        let not_before : is_before k m ≡ false = ap is_lt (due_total.antisymm (due_of k) (due_of m)) ∙ turned_le _ le in
        (m, ap (λ o. Some (option_map_or (λ j. if is_before j m then j else m) o m)) is ∙ (λ i. Some (if not_before i then k else m)), ties)

    by : (b : Bool) → list_any (λ k. is_eq (due_cmp d (due_of k))) ms ≡ b → (is_eq (due_cmp d (due_of m)) || b) ≡ true
        → (b ≡ true → (k : Message) × (first_due ms ≡ Some k) × (is_eq (due_cmp d (due_of k)) ≡ true))
        → (x : Message) × (first_due (m ∷ ms) ≡ Some x) × (is_eq (due_cmp d (due_of x)) ≡ true)
    by true is either rest = let found = rest refl in later found.0 (is_before found.0 m) refl found.1 found.2
    by false is either rest = now (first_due ms) refl (or_none (is_eq (due_cmp d (due_of m))) either)
      where
        or_none : (b : Bool) → (b || false) ≡ true → b ≡ true
        or_none true h = refl
        or_none false h = absurd (cc h)

-- a row of the very moment and id waits, or none does
any-waiting : (d : DueAt) (rows : List Row) → is_rising row_cmp rows ≡ true → list_any (λ m. is_eq (due_cmp d (due_of m))) (waiting_of rows) ≡ is_due_at d.due (row_at d.id rows)
any-waiting d rows rising =
    ap (list_any (λ m. is_eq (due_cmp d (due_of m)))) (waiting-messages rows rising)
    ∙ any-filtered (λ r. not r.out) (λ r. r.message) (λ m. is_eq (due_cmp d (due_of m))) rows
    ∙ any_agree _ _ (λ r. ap (λ b. not r.out && b) (due_ties d (due_of r.message)) ∙ around (not r.out) (d.due == r.message.due) (same_id d.id r.message.id)) rows
    ∙ any-at (λ r. not r.out && (d.due == r.message.due)) d.id rows rising
  where
    any_agree : (p q : Row → Bool) → ((r : Row) → p r ≡ q r) → (rs : List Row) → list_any p rs ≡ list_any q rs
    any_agree p q same [] = refl
    any_agree p q same (r ∷ rs) = λ i. same r i || any_agree p q same rs i

    around : (a b c : Bool) → (a && (b && c)) ≡ (c && (a && b))
    around true true true = refl
    around true true false = refl
    around true false true = refl
    around true false false = refl
    around false b true = refl
    around false b false = refl

le_lt : (r : Ordering) → is_lt r ≡ true → is_le r ≡ true
le_lt Less h = refl
le_lt Equal h = absurd (cc h)
le_lt Greater h = absurd (cc h)

-- what is found among rising ones is not below the first
rising-first : (d e : DueAt) (dues : List DueAt) → is_rising due_cmp (e ∷ dues) ≡ true → is_some (found due_cmp d (e ∷ dues)) ≡ true → is_le (due_cmp e d) ≡ true
rising-first d e dues rising is = by (is_eq (due_cmp d e)) refl is
  where
    among : (fs : List DueAt) → list_all (λ f. is_lt (due_cmp e f)) fs ≡ true → is_some (found due_cmp d fs) ≡ true → is_le (due_cmp e d) ≡ true
    among [] above some = absurd (cc some)
    among (f ∷ fs) above some = at (is_eq (due_cmp d f)) refl some (among fs (and_parts _ _ above).1)
      where
        at : (b : Bool) → is_eq (due_cmp d f) ≡ b → is_some (cond b (Some f) (found due_cmp d fs)) ≡ true → (is_some (found due_cmp d fs) ≡ true → is_le (due_cmp e d) ≡ true) → is_le (due_cmp e d) ≡ true
        at true ties h rest = le_lt _ (lt_eq due_total e f d (and_parts (is_lt (due_cmp e f)) (list_all (λ g. is_lt (due_cmp e g)) fs) above).0 (eq_is _ ties))
        at false ties h rest = rest h

    by : (b : Bool) → is_eq (due_cmp d e) ≡ b → is_some (cond b (Some e) (found due_cmp d dues)) ≡ true → is_le (due_cmp e d) ≡ true
    by true ties h = ap is_le (tied_back due_total d e (eq_is _ ties))
    by false ties h = among dues (and_parts (list_all (λ f. is_lt (due_cmp e f)) dues) (is_rising due_cmp dues) rising).0 h

-- the row that waits is among the due ones
waits-listed : (rows : List Row) (dues : List DueAt) (r : Row) → is_rising row_cmp rows ≡ true → IsLinked rows dues → Contains rows r → not r.out ≡ true → is_some (found due_cmp (due_of r.message) dues) ≡ true
waits-listed rows dues r rising linked is waits =
    linked (due_of r.message) ∙ ap (is_due_at r.message.due) (row_at-itself r rows rising is)
    ∙ and_from _ _ waits (eq-eqb r.message.due r.message.due refl)

-- none that waits is below the first of the due ones
all-waiting : (rows : List Row) (e : DueAt) (dues : List DueAt) → is_rising row_cmp rows ≡ true → is_rising due_cmp (e ∷ dues) ≡ true → IsLinked rows (e ∷ dues)
    → list_all (λ m. is_le (due_cmp e (due_of m))) (waiting_of rows) ≡ true
all-waiting rows e dues rising order linked =
    ap (list_all (λ m. is_le (due_cmp e (due_of m)))) (waiting-messages rows rising)
    ∙ all-filtered (λ r. not r.out) (λ r. r.message) (λ m. is_le (due_cmp e (due_of m))) rows
    (λ r is waits. rising-first (due_of r.message) e dues order (waits-listed rows (e ∷ dues) r rising linked is waits))

-- where there are no due ones, none waits
none-waiting : (rows : List Row) → is_rising row_cmp rows ≡ true → IsLinked rows [] → waiting_of rows ≡ []
none-waiting rows rising linked = waiting-messages rows rising ∙ empty _ (all-filtered (λ r. not r.out) (λ r. r.message) (λ m. false) rows (λ r is waits. waits-listed rows [] r rising linked is waits))
  where
    empty : (ms : List Message) → list_all (λ m. false) ms ≡ true → ms ≡ []
    empty [] h = refl
    empty (m ∷ ms) h = absurd (cc h)

listed : (e : DueAt) (dues : List DueAt) → is_some (found due_cmp e (e ∷ dues)) ≡ true
listed e dues = ap (λ b. is_some (cond b (Some e) (found due_cmp e dues))) (ap is_eq (tied_itself due_total e))

some-waits : (rows : List Row) (e : DueAt) (dues : List DueAt) → is_rising row_cmp rows ≡ true → IsLinked rows (e ∷ dues) → list_any (λ m. is_eq (due_cmp e (due_of m))) (waiting_of rows) ≡ true
some-waits rows e dues rising linked = any-waiting e rows rising ∙ sym (linked e) ∙ listed e dues

-- the message that is due first is the message of its id
pub due-found : (at : ℕ) (rows : List Row) (m : Message) → is_rising row_cmp rows ≡ true → due_at at rows ≡ Some m → message_at m.id rows ≡ Some m
due-found at rows m rising first =
    first_due-holds (λ k. message_at k.id rows ≡ Some k) (filter (λ k. nat_le k.due at) (waiting_of rows)) m
    (All-filter (λ k. nat_le k.due at) (λ k. message_at k.id rows ≡ Some k) (waiting_of rows)
    (All-filter (λ k. not (is_out k.id (out_of rows))) (λ k. message_at k.id rows ≡ Some k) (messages_of rows)
    (All-map (λ k. message_at k.id rows ≡ Some k) (λ r. r.message) rows
    (All-weaker (Contains rows) (λ r. message_at r.message.id rows ≡ Some r.message) (λ r is. ap (option_map (λ s. s.message)) (row_at-itself r rows rising is)) rows (All-contains_itself rows)))))
    first

-- the first of the due ones is due
pub now-due : (at : ℕ) (rows : List Row) (e : DueAt) (dues : List DueAt) → is_rising row_cmp rows ≡ true → is_rising due_cmp (e ∷ dues) ≡ true → IsLinked rows (e ∷ dues)
    → e.due ≤ at → IsDueNow at rows e.id
now-due at rows e dues rising order linked early =
    let first = first_due-least e (filter (λ m. nat_le m.due at) (waiting_of rows)) (among (waiting_of rows) (some-waits rows e dues rising linked))
    (all-filter (λ m. is_le (due_cmp e (due_of m))) (λ m. nat_le m.due at) (waiting_of rows) (all-waiting rows e dues rising order linked)) in
    let row = some-at _ _ (sym (linked e) ∙ listed e dues) in
    let own : e.id ≡ first.0.id = same_id-true e.id first.0.id (and_parts (e.due == first.0.due) (same_id e.id first.0.id) (sym (due_ties e (due_of first.0)) ∙ first.2)).1 in
    record {
      message = first.0;
      first = first.1;
      named = sym own;
      found = ap (λ x. message_at x rows) own ∙ due-found at rows first.0 rising first.1;
      waits = waits-at e.id rows rising ∙ ap (λ o. option_map_or (λ r. not r.out) o false) row.1 ∙ (and_parts (not row.0.out) (e.due == row.0.message.due) row.2).0;
    }
  where
    due_then : (m : Message) → is_eq (due_cmp e (due_of m)) ≡ true → nat_le m.due at ≡ true
    due_then m ties =
        let same : e.due ≡ m.due = eqb-true e.due m.due (and_parts (e.due == m.due) (same_id e.id m.id) (sym (due_ties e (due_of m)) ∙ ties)).0 in
        le-leb m.due at (omega arith)

    among : (ms : List Message) → list_any (λ m. is_eq (due_cmp e (due_of m))) ms ≡ true → list_any (λ m. is_eq (due_cmp e (due_of m))) (filter (λ m. nat_le m.due at) ms) ≡ true
    among [] any = any
    among (m ∷ ms) any = on (is_eq (due_cmp e (due_of m))) refl any (among ms)
      where
        on : (b : Bool) → is_eq (due_cmp e (due_of m)) ≡ b → (b || list_any (λ k. is_eq (due_cmp e (due_of k))) ms) ≡ true
            → (list_any (λ k. is_eq (due_cmp e (due_of k))) ms ≡ true → list_any (λ k. is_eq (due_cmp e (due_of k))) (filter (λ k. nat_le k.due at) ms) ≡ true)
            → list_any (λ k. is_eq (due_cmp e (due_of k))) (filter (λ k. nat_le k.due at) (m ∷ ms)) ≡ true
        on true ties either rest =
            (λ i. list_any (λ k. is_eq (due_cmp e (due_of k))) (cond (due_then m ties i) (m ∷ filter (λ k. nat_le k.due at) ms) (filter (λ k. nat_le k.due at) ms)))
            ∙ or_left _ _ ties
        on false ties either rest =
            elim (nat_le m.due at) as (λ b. list_any (λ k. is_eq (due_cmp e (due_of k))) (cond b (m ∷ filter (λ k. nat_le k.due at) ms) (filter (λ k. nat_le k.due at) ms)) ≡ true) [
              | true ↦ or_right _ _ (rest either)
              | false ↦ rest either
            ]

-- it is later, and so are all that wait
pub later-due : (at : ℕ) (rows : List Row) (e : DueAt) (dues : List DueAt) → is_rising row_cmp rows ≡ true → is_rising due_cmp (e ∷ dues) ≡ true → IsLinked rows (e ∷ dues)
    → at < e.due → IsNoneDue at rows (Some e.due)
later-due at rows e dues rising order linked late =
    let all = all-waiting rows e dues rising order linked in
    let first = first_due-least e (waiting_of rows) (some-waits rows e dues rising linked) all in
    let same : e.due ≡ first.0.due = eqb-true e.due first.0.due (and_parts (e.due == first.0.due) (same_id e.id first.0.id) (sym (due_ties e (due_of first.0)) ∙ first.2)).0 in
    record {
      none = ap first_due (none (waiting_of rows) all);
      next = ap Some same ∙ sym (ap (option_map (λ m. m.due)) first.1);
    }
  where
    none : (ms : List Message) → list_all (λ m. is_le (due_cmp e (due_of m))) ms ≡ true → filter (λ m. nat_le m.due at) ms ≡ []
    none [] all = refl
    none (m ∷ ms) all =
        let parts = and_parts (is_le (due_cmp e (due_of m))) (list_all (λ k. is_le (due_cmp e (due_of k))) ms) all in
        let no_sooner : e.due ≤ m.due = number-le e.due m.due _ parts.0 in
        let not_yet : nat_le m.due at ≡ false = lt-leb m.due at (omega arith) in
        (λ i. cond (not_yet i) (m ∷ filter (λ k. nat_le k.due at) ms) (filter (λ k. nat_le k.due at) ms)) ∙ none ms parts.1

-- there is none
pub none-due : (at : ℕ) (rows : List Row) → is_rising row_cmp rows ≡ true → IsLinked rows [] → IsNoneDue at rows None
none-due at rows rising linked =
    let none = none-waiting rows rising linked in
    record {
      none = ap (λ ms. first_due (filter (λ m. nat_le m.due at) ms)) none;
      next = sym (ap (λ ms. option_map (λ m. m.due) (first_due ms)) none);
    }

-- the first of all decides
pub first-now : (at : ℕ) (rows : List Row) (dues : List DueAt) (e : DueAt) → is_rising row_cmp rows ≡ true → is_rising due_cmp dues ≡ true → IsLinked rows dues
    → slice_get dues 0 ≡ Some e → e.due ≤ at → IsDueNow at rows e.id
first-now at rows [] e rising order linked is early = absurd (cc is)
first-now at rows (d ∷ dues) e rising order linked is early =
    let same : d ≡ e = cc is in
    subst (λ x. IsDueNow at rows x.id) same (now-due at rows d dues rising order linked (rw same early))

pub first-later : (at : ℕ) (rows : List Row) (dues : List DueAt) (e : DueAt) → is_rising row_cmp rows ≡ true → is_rising due_cmp dues ≡ true → IsLinked rows dues
    → slice_get dues 0 ≡ Some e → at < e.due → IsNoneDue at rows (Some e.due)
first-later at rows [] e rising order linked is late = absurd (cc is)
first-later at rows (d ∷ dues) e rising order linked is late =
    let same : d ≡ e = cc is in
    subst (λ x. IsNoneDue at rows (Some x.due)) same (later-due at rows d dues rising order linked (rw same late))

pub first-none : (at : ℕ) (rows : List Row) (dues : List DueAt) → is_rising row_cmp rows ≡ true → IsLinked rows dues → slice_get dues 0 ≡ None → IsNoneDue at rows None
first-none at rows [] rising linked is = none-due at rows rising linked
first-none at rows (d ∷ dues) rising linked is = absurd (cc is)
