-- The messages that wait for delivery or are out.
--     Rows      what contracts see of a queue: a row for each message in rising order of ids, and how many more find room
--     messages_of rows, row_at id rows, message_at id rows      the messages; the row of an id, and its message
--     is_row_out id rows, waits id rows      whether the message is out, or waits
--     out_of rows, situation_of rows      the ids of the messages that are out; the database that the rows speak of
--     waiting_of rows, due_at at rows      the messages that aren't out; the one that is due first, if it is due
--     next_row id rows      the first row above an id, or the first of all
--     added m rows, handed_out id rows, rows_without id rows, failed id at rows      the rows after each change
--     has_schedule m      whether the message has a schedule, and has not failed more often than that is long
use Rattle.std.specs.Prelude.{ℕ, ◌+◌, Bool, true, false, not, ◌&&◌, nat_le, ◌==◌, if◌then◌else◌, List, length, map, filter, filter_map, find, Option, Some, None, option_map}
use Rattle.std.specs.Option.{option_map_or}
use Rattle.std.specs.List.{list_any}
use Rattle.std.specs.Ordering.{is_lt}
use Rattle.std.specs.declared.cmp.Ordering.{Ordering}
use Rattle.dkv_base.specs.declared.types.Message.{Message}
use Rattle.dkv_base.specs.declared.types.MsgId.{MsgId}
use Rattle.dkv_base.specs.State.{empty_state, id_cmp, same_id}
use Rattle.dkv_base.specs.Messages.{interval, waiting, next}
use Rattle.dkv_base.specs.Ordered.{put_in}
use Rattle.dkv_base.specs.Sound.{is_schedule}
use Rattle.dkv_base.specs.Steps.{Situation, opened}
use Rattle.dkv_queue.specs.declared.row.Row.{Row}

-- a row for each message in rising order of ids, and how many more find room without memory
pub record Rows : Type 0 where
  pub rows : List Row
  pub spare : ℕ

-- rows by the ids of their messages
abbrev pub row_cmp : Row → Row → Ordering
row_cmp r s = id_cmp r.message.id s.message.id

-- the row of the message with this id
abbrev pub is_row_of : MsgId → Row → Bool
is_row_of id r = same_id id r.message.id

-- the messages in rising order of ids
abbrev pub messages_of : List Row → List Message
messages_of rows = map (λ r. r.message) rows

-- the row of the id
abbrev pub row_at : MsgId → List Row → Option Row
row_at id rows = find (is_row_of id) rows

-- the message of the id
abbrev pub message_at : MsgId → List Row → Option Message
message_at id rows = option_map (λ r. r.message) (row_at id rows)

-- the message of the id is out
abbrev pub is_row_out : MsgId → List Row → Bool
is_row_out id rows = list_any (λ r. is_row_of id r && r.out) rows

-- the message of the id is there, and not out
abbrev pub waits : MsgId → List Row → Bool
waits id rows = list_any (λ r. is_row_of id r && not r.out) rows

-- the rows that are out
abbrev pub out_rows : List Row → List Row
out_rows rows = filter (λ r. r.out) rows

-- the ids of the messages that are out, in their order
abbrev pub out_of : List Row → List MsgId
out_of rows = map (λ r. r.message.id) (out_rows rows)

-- a database with these messages, of which these are out
abbrev pub situation_of : List Row → Situation
situation_of rows = record (opened (record empty_state { messages = messages_of rows }) 0) { out = out_of rows }

-- the messages that aren't out
abbrev pub waiting_of : List Row → List Message
waiting_of rows = waiting (situation_of rows).state (out_of rows)

-- the first of those that are due and not out
abbrev pub due_at : ℕ → List Row → Option Message
due_at at rows = next (situation_of rows).state (out_of rows) at

-- the first row above the id, or the first of all
abbrev pub next_row : Option MsgId → List Row → Option Row
next_row id rows = find (λ r. option_map_or (λ i. is_lt (id_cmp i r.message.id)) id true) rows

-- with this message, which isn't out
abbrev pub added : Message → List Row → List Row
added m rows = put_in row_cmp (record { message = m; out = false }) rows

-- the message of the id is out
abbrev pub handed_out : MsgId → List Row → List Row
handed_out id rows = map (λ r. if is_row_of id r then record r { out = true } else r) rows

-- without the message of the id
abbrev pub rows_without : MsgId → List Row → List Row
rows_without id rows = filter (λ r. not (is_row_of id r)) rows

-- it failed once more, and is due an interval later
abbrev pub with_failure : ℕ → Message → Message
with_failure at m = record m { fails = m.fails + 1; due = at + interval m.backoff (m.fails + 1) }

-- a message that failed as often as its schedule is long is gone; another one isn't out any more
abbrev pub after_failure : ℕ → Row → Option Row
after_failure at r =
    if r.message.fails == length r.message.backoff then None else Some (record { message = with_failure at r.message; out = false })

-- the message of the id failed at this moment
abbrev pub failed : MsgId → ℕ → List Row → List Row
failed id at rows = filter_map (λ r. if is_row_of id r then after_failure at r else Some r) rows

-- a schedule, and no more failures than that has intervals
abbrev pub has_schedule : Message → Bool
has_schedule m = is_schedule m.backoff && nat_le m.fails (length m.backoff)
