-- What settles a message, and the messages after it.
--     is_last_failure id m      whether one failure more is one too many for this message
--     after_ack id ms, after_failure id at ms      the messages after an acknowledgement, and after a failure
--     after_settlement t at ms, out_after t ids      the messages, and the ids that are out, after what settles a message, if something does
--     payloads n found      the entries that commit n makes of a message that had its last failure, if there is one
use Rattle.std.specs.Prelude.{ℕ, Bool, not, ◌&&◌, ◌==◌, if◌then◌else◌, List, [], length, map, filter, Option}
use Rattle.std.specs.Option.{option_map_or}
use Rattle.dkv_base.specs.declared.types.Entry.{Entry}
use Rattle.dkv_base.specs.declared.types.Message.{Message}
use Rattle.dkv_base.specs.declared.types.MsgId.{MsgId}
use Rattle.dkv_base.specs.State.{same_id}
use Rattle.dkv_base.specs.After.{payload_entry}
use Rattle.dkv_queue.specs.Rows.{with_failure}
use Rattle.dkv_core.specs.declared.prepared.Settled.{Settled}

-- the ids but this one
abbrev pub without_id : MsgId → List MsgId → List MsgId
without_id id ids = filter (λ other. not (same_id other id)) ids

-- one failure more is one more than its schedule is long
abbrev pub is_last_failure : MsgId → Message → Bool
is_last_failure id m = same_id id m.id && (m.fails == length m.backoff)

-- the messages without the one that was handled
abbrev pub after_ack : MsgId → List Message → List Message
after_ack id ms = filter (λ m. not (same_id id m.id)) ms

-- the messages where one was not handled: it waits again, or is gone
abbrev pub after_failure : MsgId → ℕ → List Message → List Message
after_failure id at ms = map (λ m. if same_id id m.id then with_failure at m else m) (filter (λ m. not (is_last_failure id m)) ms)

-- the messages after what settles one of them
abbrev pub settle : Settled → ℕ → List Message → List Message
settle t at ms = if t.done then after_ack t.id ms else after_failure t.id at ms

-- the payload of a message under each of its undelivered keys, set by commit n
abbrev pub payloads : ℕ → Option Message → List Entry
payloads n found = option_map_or (λ m. map (payload_entry m n) m.undelivered) found []

-- after what settles one, if something does
abbrev pub after_settlement : Option Settled → ℕ → List Message → List Message
after_settlement t at ms = option_map_or (λ s. settle s at ms) t ms

-- the ids that are out then
abbrev pub out_after : Option Settled → List MsgId → List MsgId
out_after t ids = option_map_or (λ s. without_id s.id ids) t ids
