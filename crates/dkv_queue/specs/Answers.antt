-- What a queue answers.
--     IsDue at rows d      whether d names the message that is due first at the moment, or none is and d says when one will be
--     IsRetry id old new a      whether a says when the message that failed is due again, or that it had its last failure
use Rattle.std.specs.Prelude.{ℕ, ◌≡◌, IsTrue, List, Option, Some, None, option_map}
use Rattle.dkv_base.specs.declared.types.Message.{Message}
use Rattle.dkv_base.specs.declared.types.MsgId.{MsgId}
use Rattle.dkv_base.specs.Messages.{exhausted}
use Rattle.dkv_base.specs.Steps.{next_moment}
use Rattle.dkv_queue.specs.declared.row.Row.{Row}
use Rattle.dkv_queue.specs.declared.answers.Due.{Due}
use Rattle.dkv_queue.specs.declared.answers.Due.TheVariants as due
use Rattle.dkv_queue.specs.declared.answers.Retry.{Retry}
use Rattle.dkv_queue.specs.declared.answers.Retry.TheVariants as retry
use Rattle.dkv_queue.specs.Rows.{messages_of, message_at, waits, situation_of, due_at}

-- the message is the first of those that are due and not out
pub record IsDueNow (at : ℕ) (rows : List Row) (id : MsgId) : Type 0 where
  pub message : Message
  pub first : due_at at rows ≡ Some message
  pub named : message.id ≡ id
  pub found : message_at id rows ≡ Some message
  pub waits : IsTrue (waits id rows)

-- none is due; the first of those that wait will be at this moment
pub record IsNoneDue (at : ℕ) (rows : List Row) (moment : Option ℕ) : Type 0 where
  pub none : due_at at rows ≡ None
  pub next : moment ≡ next_moment (situation_of rows)

abbrev pub IsDue : ℕ → List Row → Due → Type 0
IsDue at rows (due.Now id) = IsDueNow at rows id
IsDue at rows (due.Nothing next) = IsNoneDue at rows next

-- the message is due again at this moment
pub record IsAgain (id : MsgId) (old new : List Row) (moment : ℕ) : Type 0 where
  pub left : exhausted id (messages_of old) ≡ None
  pub due : option_map (λ m. m.due) (message_at id new) ≡ Some moment

abbrev pub IsRetry : MsgId → List Row → List Row → Retry → Type 0
IsRetry id old new (retry.Again due) = IsAgain id old new due
IsRetry id old new (retry.Exhausted m) = exhausted id (messages_of old) ≡ Some m
