-- What is due, and what a take gives.
--     IsNextDue c at r      whether at the core c and the moment this is the message that is due first, or when one will be
--     IsTaken c at r d      whether this is what a take gives, and leads to the core d
use Rattle.std.specs.Prelude.{ℕ, ◌≡◌, Bool, not, ◌||◌, ◌&&◌, IsTrue, Some, None, Option, option_map}
use Rattle.dkv_base.specs.declared.types.Message.{Message}
use Rattle.dkv_base.specs.declared.types.MsgId.{MsgId}
use Rattle.dkv_base.specs.State.{same_id}
use Rattle.dkv_base.specs.After.{is_pending_id}
use Rattle.dkv_base.specs.Messages.{is_out, next, waiting, first_due}
use Rattle.dkv_core.specs.declared.takes.NextDue.{NextDue}
use Rattle.dkv_core.specs.declared.takes.NextDue.TheVariants as due
use Rattle.dkv_core.specs.declared.takes.Taken.{Taken}
use Rattle.dkv_core.specs.declared.takes.Taken.TheVariants as taken
use Rattle.dkv_core.specs.Cores.{Database}

-- the message waits: it is there, and not out
abbrev pub waits : Database → MsgId → Bool
waits c id = is_pending_id c.state id && not (is_out id c.out)

-- it is due, and none before it is
pub record IsFirst (c : Database) (at : ℕ) (m : Message) : Type 0 where
  pub first : next c.state c.out at ≡ Some m
  pub waits : IsTrue (waits c m.id)

-- none is due; the first of those that wait will be at this moment
pub record IsNone (c : Database) (at : ℕ) (moment : Option ℕ) : Type 0 where
  pub none : next c.state c.out at ≡ None
  pub told : moment ≡ option_map (λ m. m.due) (first_due (waiting c.state c.out))

abbrev pub IsNextDue : Database → ℕ → NextDue → Type 0
IsNextDue c at (due.Message m) = IsFirst c at m.now
IsNextDue c at (due.Nothing moment) = IsNone c at moment

-- the core's state at a later moment
pub record IsRaised (c : Database) (at : ℕ) (d : Database) : Type 0 where
  pub state : d.state ≡ c.state
  pub greatest : d.greatest ≡ at

-- the message is out, beside those that were
abbrev pub IsOutToo : Database → MsgId → Database → Type 0
IsOutToo c id d = (k : MsgId) → is_out k d.out ≡ (is_out k c.out || same_id k id)

abbrev pub IsTaken : Database → ℕ → Taken → Database → Type 0
IsTaken c at (taken.Leased m) d = IsFirst c at m × IsOutToo c m.id d × IsRaised c at d
IsTaken c at (taken.Nothing moment) d = IsNone c at moment × (d.out ≡ c.out) × IsRaised c at d
