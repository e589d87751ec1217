-- What contracts see of a core and of a prepared commit.
--     Database, Change      what they see of the one and of the other
--     SameContent c d      whether two cores have one state, one greatest moment and the same messages out, whoever watches
--     IsEffective c at      whether a call may have this moment
--     applied p s      the state after the prepared commit
--     IsReady c p      whether the prepared commit may be made now, without memory
use Rattle.std.specs.Prelude.{ℕ, ◌≡◌, ◌+◌, ◌≤◌, ◌==◌, Bool, true, not, ◌&&◌, nat_le, IsTrue, List, ◌++◌, length, fold, count_by, Option}
use Rattle.std.specs.List.{list_all}
use Rattle.std.specs.Option.{option_map_or}
use Rattle.dkv_base.specs.declared.types.Entry.{Entry}
use Rattle.dkv_base.specs.declared.types.Message.{Message}
use Rattle.dkv_base.specs.declared.types.MsgId.{MsgId}
use Rattle.dkv_base.specs.Sound.{is_schedule}
use Rattle.dkv_base.specs.State.{State, put, without, visible, is_in_id_order}
use Rattle.dkv_base.specs.declared.moments.TheConstants.{MAX_MOMENT}
use Rattle.dkv_base.specs.Messages.{is_out}
use Rattle.dkv_hub.specs.Frames.{are_committed}
use Rattle.dkv_hub.specs.Rows.{WatchRow}
use Rattle.dkv_core.specs.Settling.{after_settlement}
use Rattle.dkv_core.specs.declared.prepared.Settled.{Settled}

-- how many entries, how many that end, and how many messages find room without memory
pub record SpareRoom : Type 0 where
  pub entries : ℕ
  pub endings : ℕ
  pub messages : ℕ

-- the state, the messages that are out, the greatest moment so far, the rows of those who watch, and the room
pub record Database : Type 0 where
  pub state : State
  pub out : List MsgId
  pub greatest : ℕ
  pub watches : List WatchRow
  pub room : SpareRoom

-- the number and the moment of a commit, the entries that it stores, the keys that it takes away, the messages that it makes, and what it settles
pub record Change : Type 0 where
  pub number : ℕ
  pub moment : ℕ
  pub puts : List Entry
  pub removed : List (List ℕ)
  pub added : List Message
  pub settled : Option Settled

-- the two differ in nothing but their room and who watches
pub record SameContent (c d : Database) : Type 0 where
  pub state : d.state ≡ c.state
  pub out : d.out ≡ c.out
  pub greatest : d.greatest ≡ c.greatest

-- there is no less of it
pub record IsNoLess (r s : SpareRoom) : Type 0 where
  pub entries : r.entries ≤ s.entries
  pub endings : r.endings ≤ s.endings
  pub messages : r.messages ≤ s.messages

-- no earlier than the greatest moment so far, and no later than the last that there is
pub record IsEffective (c : Database) (at : ℕ) : Type 0 where
  pub late : c.greatest ≤ at
  pub within : at ≤ MAX_MOMENT

-- the entries without these keys
abbrev pub without_all : List (List ℕ) → List Entry → List Entry
without_all keys es = fold (λ fs key. without key fs) es keys

-- the entries with these in order, each in the place of the one under its key
abbrev pub put_all : List Entry → List Entry → List Entry
put_all puts es = fold (λ fs e. put e fs) es puts

-- the state after the commit: what has ended is gone, then the keys are taken away, and the entries are stored; a message is settled, and others are made
abbrev pub applied : Change → State → State
applied p s = record {
  number = p.number;
  moment = p.moment;
  entries = put_all p.puts (without_all p.removed (visible p.moment s.entries));
  messages = after_settlement p.settled p.moment s.messages ++ p.added;
}

-- the entry ends some day
abbrev pub ends : Entry → Bool
ends e = not (e.expire == 0)

-- a message of a commit up to n that has not failed more often than its schedule is long
abbrev pub is_kept : ℕ → Message → Bool
is_kept n m = nat_le m.id.commit n && nat_le m.fails (length m.backoff)

-- a message that commit n makes
abbrev pub is_made_by : ℕ → Message → Bool
is_made_by n m = (m.id.commit == n) && is_schedule m.backoff && nat_le m.fails (length m.backoff)

-- it is the next commit, its moment is effective, there is room for it, its messages are its own in order, what it settles is out, and it leaves no entry of commit 0
pub record IsReady (c : Database) (p : Change) : Type 0 where
  pub number : p.number ≡ c.state.number + 1
  pub moment : IsEffective c p.moment
  pub entries : length p.puts ≤ c.room.entries
  pub endings : count_by ends p.puts ≤ c.room.endings
  pub messages : length p.added ≤ c.room.messages
  pub made : IsTrue (list_all (is_made_by p.number) p.added)
  pub order : IsTrue (is_in_id_order p.added)
  pub settles : IsTrue (option_map_or (λ t. is_out t.id c.out) p.settled true)
  pub committed : IsTrue (are_committed (applied p c.state).entries)
