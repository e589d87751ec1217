-- The two indexes fit together after each step of a change.
use Rattle.std.proofs.Common.{◌≡◌, ℕ, ◌+◌, ◌-◌, ◌≤◌, Bool, true, false, cond, not, ◌&&◌, ◌||◌, ◌==◌, List, ◌∷◌, length, Option, Some, None, is_some, refl, sym, ap, ◌∙◌, arith}
use Rattle.std.specs.Ordering.{is_eq}
use Rattle.std.proofs.lemmas.Bool.{and_from, eq-eqb}
use Rattle.dkv_base.specs.declared.types.Message.{Message}
use Rattle.dkv_base.specs.declared.types.MsgId.{MsgId}
use Rattle.dkv_base.specs.State.{same_id}
use Rattle.dkv_index.specs.Contents.{Contents}
use Rattle.dkv_base.specs.Ordered.{found, put_in, left_out}
use Rattle.dkv_base.proofs.Lookups.{found-put_in, found-left_out}
use Rattle.dkv_base.proofs.Risings.{all-put_in, all-left_out, rising-put_in, rising-left_out}
use Rattle.dkv_queue.specs.declared.row.Row.{Row}
use Rattle.dkv_queue.specs.declared.moment.DueAt.{DueAt}
use Rattle.dkv_queue.specs.Rows.{row_cmp, row_at, out_rows, has_schedule}
use Rattle.dkv_queue.specs.Kept.{row_for, due_cmp, is_due_at, IsLinked, IsKept}
use Rattle.dkv_base.proofs.NamedMessages.{same_id-true, same_id_self}
use Rattle.dkv_queue.proofs.Ids.{row_total, due_total, due_ties}
use Rattle.dkv_queue.proofs.Looks.{row_at-put_in, row_at-left_out, row_at-of}
use Rattle.dkv_queue.proofs.Changes.{all_row_at}
use Rattle.dkv_queue.proofs.Counts.{count-put_in, count-left_out}

-- when the message is due, and its id
abbrev pub due_of : Message → DueAt
due_of m = record { due = m.due; id = m.id }

some_put : {X : Type 0} (b : Bool) (x : X) (o : Option X) → is_some (cond b (Some x) o) ≡ (b || is_some o)
some_put true x o = refl
some_put false x o = refl

some_left : {X : Type 0} (b : Bool) (o : Option X) → is_some (cond b None o) ≡ (not b && is_some o)
some_left true o = refl
some_left false o = refl

-- a look-up at an id of which there is no row
absent_at : (id other : MsgId) (rows : List Row) → row_at other rows ≡ None → same_id id other ≡ true → row_at id rows ≡ None
absent_at id other rows none same = ap (λ x. row_at x rows) (same_id-true id other same) ∙ none

present_at : (id other : MsgId) (rows : List Row) (r : Row) → row_at other rows ≡ Some r → same_id id other ≡ true → row_at id rows ≡ Some r
present_at id other rows r is same = ap (λ x. row_at x rows) (same_id-true id other same) ∙ is

-- a row that isn't out comes, and its moment with it
linked-in : (rows : List Row) (dues : List DueAt) (m : Message) → IsLinked rows dues → row_at m.id rows ≡ None
    → IsLinked (put_in row_cmp (record { message = m; out = false }) rows) (put_in due_cmp (due_of m) dues)
linked-in rows dues m linked absent d =
    ap is_some (found-put_in due_total d (due_of m) dues) ∙ some_put (is_eq (due_cmp d (due_of m))) (due_of m) (found due_cmp d dues)
    ∙ (λ i. due_ties d (due_of m) i || linked d i)
    ∙ by (same_id d.id m.id) refl
    ∙ sym (ap (is_due_at d.due) (row_at-put_in d.id (record { message = m; out = false }) rows))
  where
    or_false : (b : Bool) → ((b && true) || false) ≡ b
    or_false true = refl
    or_false false = refl

    and_false : (b c : Bool) → ((b && false) || c) ≡ c
    and_false true c = refl
    and_false false c = refl

    by : (b : Bool) → same_id d.id m.id ≡ b
        → (((d.due == m.due) && b) || is_due_at d.due (row_at d.id rows)) ≡ is_due_at d.due (cond b (Some (record { message = m; out = false })) (row_at d.id rows))
    by true same = ap (λ o. ((d.due == m.due) && true) || is_due_at d.due o) (absent_at d.id m.id rows absent same) ∙ or_false (d.due == m.due)
    by false same = and_false (d.due == m.due) (is_due_at d.due (row_at d.id rows))

-- a row that is out comes
linked-in_out : (rows : List Row) (dues : List DueAt) (r : Row) → IsLinked rows dues → row_at r.message.id rows ≡ None → r.out ≡ true → IsLinked (put_in row_cmp r rows) dues
linked-in_out rows dues r linked absent out d = linked d ∙ by (same_id d.id r.message.id) refl ∙ sym (ap (is_due_at d.due) (row_at-put_in d.id r rows))
  where
    by : (b : Bool) → same_id d.id r.message.id ≡ b → is_due_at d.due (row_at d.id rows) ≡ is_due_at d.due (cond b (Some r) (row_at d.id rows))
    by true same = ap (is_due_at d.due) (absent_at d.id r.message.id rows absent same) ∙ sym (ap (λ o. not o && (d.due == r.message.due)) out)
    by false same = refl

-- a row that is out goes
linked-gone : (rows : List Row) (dues : List DueAt) (id : MsgId) (r : Row) → IsLinked rows dues → row_at id rows ≡ Some r → r.out ≡ true → IsLinked (left_out row_cmp (row_for id) rows) dues
linked-gone rows dues id r linked is out d = linked d ∙ by (same_id d.id id) refl ∙ sym (ap (is_due_at d.due) (row_at-left_out d.id id rows))
  where
    by : (b : Bool) → same_id d.id id ≡ b → is_due_at d.due (row_at d.id rows) ≡ is_due_at d.due (cond b None (row_at d.id rows))
    by true same = ap (is_due_at d.due) (present_at d.id id rows r is same) ∙ ap (λ o. not o && (d.due == r.message.due)) out
    by false same = refl

-- a row that isn't out goes, and its moment with it
linked-out : (rows : List Row) (dues : List DueAt) (id : MsgId) (r : Row) → IsLinked rows dues → row_at id rows ≡ Some r
    → IsLinked (left_out row_cmp (row_for id) rows) (left_out due_cmp (record { due = r.message.due; id = id }) dues)
linked-out rows dues id r linked is d =
    ap is_some (found-left_out due_total d (record { due = r.message.due; id = id }) dues)
    ∙ some_left (is_eq (due_cmp d (record { due = r.message.due; id = id }))) (found due_cmp d dues)
    ∙ (λ i. not (due_ties d (record { due = r.message.due; id = id }) i) && linked d i)
    ∙ by (same_id d.id id) refl
    ∙ sym (ap (is_due_at d.due) (row_at-left_out d.id id rows))
  where
    never : (b c : Bool) → (not (b && true) && (c && b)) ≡ false
    never true true = refl
    never true false = refl
    never false true = refl
    never false false = refl

    kept : (b c : Bool) → (not (b && false) && c) ≡ c
    kept true c = refl
    kept false c = refl

    by : (b : Bool) → same_id d.id id ≡ b
        → (not ((d.due == r.message.due) && b) && is_due_at d.due (row_at d.id rows)) ≡ is_due_at d.due (cond b None (row_at d.id rows))
    by true same = ap (λ o. not ((d.due == r.message.due) && true) && is_due_at d.due o) (present_at d.id id rows r is same) ∙ never (d.due == r.message.due) (not r.out)
    by false same = kept (d.due == r.message.due) (is_due_at d.due (row_at d.id rows))

-- a row that isn't out has its moment among the due ones
pub due_listed : (rows : List Row) (dues : List DueAt) (id : MsgId) (r : Row) → IsLinked rows dues → row_at id rows ≡ Some r → r.out ≡ false
    → is_some (found due_cmp (record { due = r.message.due; id = id }) dues) ≡ true
due_listed rows dues id r linked is waits =
    linked (record { due = r.message.due; id = id }) ∙ ap (is_due_at r.message.due) is
    ∙ and_from _ _ (ap not waits) (eq-eqb r.message.due r.message.due refl)

count_of : (b : Bool) (r : Row) (rows : List Row) → r.out ≡ b → length (out_rows (r ∷ rows)) ≡ length (cond b (r ∷ out_rows rows) (out_rows rows))
count_of b r rows is i = length (cond (is i) (r ∷ out_rows rows) (out_rows rows))

-- a row that isn't out comes, and its moment with it
pub kept-in : (rows later : Contents Row) (due then : Contents DueAt) (count room left : ℕ) (m : Message) → IsKept rows due count room
    → has_schedule m ≡ true → row_at m.id rows.items ≡ None
    → then.items ≡ put_in due_cmp (due_of m) due.items → due.spare ≤ then.spare + 1
    → later.items ≡ put_in row_cmp (record { message = m; out = false }) rows.items → rows.spare ≤ later.spare + 1
    → room ≡ left + 1 → IsKept later then count left
kept-in rows later due then count room left m kept schedule absent dues due_room items rows_room one =
    let r : Row = record { message = m; out = false } in
    record {
      rising = rw items (rising-put_in row_total r rows.items kept.rising);
      schedules = rw items (all-put_in row_cmp (λ s. has_schedule s.message) r rows.items schedule kept.schedules);
      linked = rw (items, dues) (linked-in rows.items due.items m kept.linked absent);
      outs = rw items (kept.outs ∙ sym (count-put_in r rows.items absent));
      rows_room = omega (arith, kept.rows_room);
      due_room = omega (arith, kept.due_room);
    }

-- a row that is out comes
pub kept-in_out : (rows later : Contents Row) (due : Contents DueAt) (count room left : ℕ) (r : Row) → IsKept rows due count room
    → has_schedule r.message ≡ true → row_at r.message.id rows.items ≡ None → r.out ≡ true
    → later.items ≡ put_in row_cmp r rows.items → rows.spare ≤ later.spare + 1
    → room ≡ left + 1 → IsKept later due (count + 1) left
kept-in_out rows later due count room left r kept schedule absent out items rows_room one = record {
  rising = rw items (rising-put_in row_total r rows.items kept.rising);
  schedules = rw items (all-put_in row_cmp (λ s. has_schedule s.message) r rows.items schedule kept.schedules);
  linked = rw items (linked-in_out rows.items due.items r kept.linked absent out);
  outs =
      let counted = count-put_in r rows.items absent ∙ count_of true r rows.items out in
      rw items (omega (arith, kept.outs, counted));
  rows_room = omega (arith, kept.rows_room);
  due_room = omega (arith, kept.due_room);
}

-- a row that is out goes
pub kept-gone : (rows later : Contents Row) (due : Contents DueAt) (count less room : ℕ) (id : MsgId) (r : Row) → IsKept rows due count room
    → row_at id rows.items ≡ Some r → r.out ≡ true
    → later.items ≡ left_out row_cmp (row_for id) rows.items → rows.spare + 1 ≤ later.spare
    → count ≡ less + 1 → IsKept later due less (room + 1)
kept-gone rows later due count less room id r kept is out items rows_room one = record {
  rising = rw items (rising-left_out row_cmp (row_for id) rows.items kept.rising);
  schedules = rw items (all-left_out row_cmp (λ s. has_schedule s.message) (row_for id) rows.items kept.schedules);
  linked = rw items (linked-gone rows.items due.items id r kept.linked is out);
  outs =
      let counted = count-left_out id rows.items r kept.rising is ∙ count_of true r (left_out row_cmp (row_for id) rows.items) out in
      rw items (omega (arith, kept.outs, counted));
  rows_room = omega (arith, kept.rows_room);
  due_room = omega (arith, kept.due_room);
}

-- a row that isn't out goes, and its moment with it
pub kept-out : (rows later : Contents Row) (due then : Contents DueAt) (count room : ℕ) (id : MsgId) (r : Row) → IsKept rows due count room
    → row_at id rows.items ≡ Some r → r.out ≡ false
    → later.items ≡ left_out row_cmp (row_for id) rows.items → rows.spare + 1 ≤ later.spare
    → then.items ≡ left_out due_cmp (record { due = r.message.due; id = id }) due.items → due.spare + 1 ≤ then.spare
    → IsKept later then count (room + 1)
kept-out rows later due then count room id r kept is waits items rows_room dues due_room = record {
  rising = rw items (rising-left_out row_cmp (row_for id) rows.items kept.rising);
  schedules = rw items (all-left_out row_cmp (λ s. has_schedule s.message) (row_for id) rows.items kept.schedules);
  linked = rw (items, dues) (linked-out rows.items due.items id r kept.linked is);
  outs =
      let counted = count-left_out id rows.items r kept.rising is ∙ count_of false r (left_out row_cmp (row_for id) rows.items) waits in
      rw items (omega (arith, kept.outs, counted));
  rows_room = omega (arith, kept.rows_room);
  due_room = omega (arith, kept.due_room);
}

-- room may be counted as less
pub kept-less : (rows : Contents Row) (due : Contents DueAt) (count room less : ℕ) → less ≤ room → IsKept rows due count room → IsKept rows due count less
kept-less rows due count room less le kept = record {
  rising = kept.rising;
  schedules = kept.schedules;
  linked = kept.linked;
  outs = kept.outs;
  rows_room = omega (arith, kept.rows_room);
  due_room = omega (arith, kept.due_room);
}

-- what is taken out is there no more
pub absent-left : (id : MsgId) (rows : List Row) → row_at id (left_out row_cmp (row_for id) rows) ≡ None
absent-left id rows = row_at-left_out id id rows ∙ ap (λ b. cond b None (row_at id rows)) (same_id_self id)

-- where a row is out, some are
pub kept-some : (rows : Contents Row) (due : Contents DueAt) (count room : ℕ) (id : MsgId) (r : Row) → IsKept rows due count room → row_at id rows.items ≡ Some r → r.out ≡ true → 1 ≤ count
kept-some rows due count room id r kept is out =
    let counted = count-left_out id rows.items r kept.rising is ∙ count_of true r (left_out row_cmp (row_for id) rows.items) out in
    omega (arith, kept.outs, counted)

-- each row has a schedule
pub kept-schedule : (rows : Contents Row) (due : Contents DueAt) (count room : ℕ) (id : MsgId) (r : Row) → IsKept rows due count room → row_at id rows.items ≡ Some r → has_schedule r.message ≡ true
kept-schedule rows due count room id r kept is = all_row_at (λ s. has_schedule s.message) id rows.items r kept.schedules is

-- what was taken out is absent, and so may be put in
pub absent-after : (id other : MsgId) (rows left : List Row) → left ≡ left_out row_cmp (row_for id) rows → other ≡ id → row_at other left ≡ None
absent-after id other rows left is same = (λ i. row_at (same i) (is i)) ∙ absent-left id rows

-- a row that isn't out is taken out with its moment, and put in as one that is
pub kept-handed_out : (rows less later : Contents Row) (due then : Contents DueAt) (count room : ℕ) (id : MsgId) (r : Row) → IsKept rows due count room
    → row_at id rows.items ≡ Some r → r.out ≡ false
    → less.items ≡ left_out row_cmp (row_for id) rows.items → rows.spare + 1 ≤ less.spare
    → then.items ≡ left_out due_cmp (record { due = r.message.due; id = id }) due.items → due.spare + 1 ≤ then.spare
    → later.items ≡ put_in row_cmp (record { message = r.message; out = true }) less.items → less.spare ≤ later.spare + 1
    → IsKept later then (count + 1) room
kept-handed_out rows less later due then count room id r kept is waits gone less_room dues due_room items later_room =
    kept-in_out less later then count (room + 1) room (record { message = r.message; out = true })
    (kept-out rows less due then count room id r kept is waits gone less_room dues due_room)
    (kept-schedule rows due count room id r kept is) (absent-after id r.message.id rows.items less.items gone (row_at-of id rows.items r is)) refl
    items later_room refl

-- a row that is out is taken out, and put in as one that isn't
pub kept-again : (rows less later : Contents Row) (due then : Contents DueAt) (count room : ℕ) (id : MsgId) (r : Row) (m : Message) → IsKept rows due count room
    → row_at id rows.items ≡ Some r → r.out ≡ true → m.id ≡ id → has_schedule m ≡ true
    → less.items ≡ left_out row_cmp (row_for id) rows.items → rows.spare + 1 ≤ less.spare
    → then.items ≡ put_in due_cmp (record { due = m.due; id = id }) due.items → due.spare ≤ then.spare + 1
    → later.items ≡ put_in row_cmp (record { message = m; out = false }) less.items → less.spare ≤ later.spare + 1
    → IsKept later then (count - 1) room
kept-again rows less later due then count room id r m kept is out own schedule gone less_room dues due_room items later_room =
    let some = kept-some rows due count room id r kept is out in
    kept-in less later due then (count - 1) (room + 1) room m
    (kept-gone rows less due count (count - 1) room id r kept is out gone less_room (omega arith))
    schedule (absent-after id m.id rows.items less.items gone own)
    (dues ∙ (λ i. put_in due_cmp (record { due = m.due; id = sym own i }) due.items)) due_room
    items later_room refl

-- a row that is out is taken out
pub kept-settled : (rows less : Contents Row) (due : Contents DueAt) (count room : ℕ) (id : MsgId) (r : Row) → IsKept rows due count room
    → row_at id rows.items ≡ Some r → r.out ≡ true
    → less.items ≡ left_out row_cmp (row_for id) rows.items → rows.spare + 1 ≤ less.spare
    → IsKept less due (count - 1) room
kept-settled rows less due count room id r kept is out gone less_room =
    let some = kept-some rows due count room id r kept is out in
    kept-less less due (count - 1) (room + 1) room (omega arith) (kept-gone rows less due count (count - 1) room id r kept is out gone less_room (omega arith))
