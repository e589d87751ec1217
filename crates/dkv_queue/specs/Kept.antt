-- How a queue keeps its rows: all by id, and those that aren't out by the moment at which they are due.
--     row_for id      a row of the id, as a search stands for it
--     due_cmp d e      by moment and then by id
--     is_due_at at o      whether there is a row that isn't out and is due at this very moment
--     IsLinked rows dues      whether the due ones are those of the rows that aren't out
--     IsKept rows due count room      the two indexes fit together, and the room is there in both
use Rattle.std.specs.Prelude.{ℕ, ◌≡◌, ◌+◌, ◌≤◌, Bool, false, not, ◌&&◌, ◌==◌, IsTrue, List, [], length, Option, is_some}
use Rattle.std.specs.List.{list_all}
use Rattle.std.specs.Option.{option_map_or}
use Rattle.std.specs.Ordering.{nat_cmp, ordering_then}
use Rattle.std.specs.declared.cmp.Ordering.{Ordering}
use Rattle.dkv_base.specs.declared.types.MsgId.{MsgId}
use Rattle.dkv_base.specs.State.{id_cmp}
use Rattle.dkv_index.specs.Contents.{Contents}
use Rattle.dkv_base.specs.Ordered.{found, is_rising}
use Rattle.dkv_queue.specs.declared.row.Row.{Row}
use Rattle.dkv_queue.specs.declared.moment.DueAt.{DueAt}
use Rattle.dkv_queue.specs.Rows.{row_cmp, row_at, out_rows, has_schedule}

-- a row of the id, whatever else it says
abbrev pub row_for : MsgId → Row
row_for id = record { message = record { id = id; payload = []; due = 0; fails = 0; undelivered = []; backoff = [] }; out = false }

-- by moment and then by id
abbrev pub due_cmp : DueAt → DueAt → Ordering
due_cmp d e = ordering_then (nat_cmp d.due e.due) (id_cmp d.id e.id)

-- there is a row that isn't out and is due at this very moment
abbrev pub is_due_at : ℕ → Option Row → Bool
is_due_at at o = option_map_or (λ r. not r.out && (at == r.message.due)) o false

-- a moment and an id are among the due ones exactly where a row that isn't out has them
abbrev pub IsLinked : List Row → List DueAt → Type 0
IsLinked rows dues = (d : DueAt) → is_some (found due_cmp d dues) ≡ is_due_at d.due (row_at d.id rows)

-- the rows are in order, the due ones are theirs, and each row that is out finds room there again
pub record IsKept (rows : Contents Row) (due : Contents DueAt) (count room : ℕ) : Type 0 where
  pub rising : IsTrue (is_rising row_cmp rows.items)
  pub schedules : IsTrue (list_all (λ r. has_schedule r.message) rows.items)
  pub linked : IsLinked rows.items due.items
  pub outs : count ≡ length (out_rows rows.items)
  pub rows_room : room ≤ rows.spare
  pub due_room : room + count ≤ due.spare
