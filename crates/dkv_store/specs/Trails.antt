-- What contracts see of the items of a term, and of the places that are kept for settlements.
--     Items      the items, the room for more, the messages that lost their place, and the record for a settlement
--     KeepsPlaces ..      each message that is out has a place for its settlement, or lost it
--     spent, freed      the messages without a place once a settlement used its own, and once it was made
--     FitsIn, IsTooHeavy      whether a write finds room for its item under the limit
--     stop_told items      none where no item is a stop, else whether one of the stops is the last
--     KnowsStops items stop ended      whether this is the place of the first stop, and whether one of the stops is the last
--     FindsNoStop a items, FindsStop a items place      whether the call is no write behind a stop; whether it is one behind the stop at this place
use Rattle.std.specs.Prelude.{ℕ, ◌≡◌, ◌+◌, ◌<◌, ◌≤◌, Bool, true, false, IsTrue, List, [], ◌∷◌, ◌++◌, Option, Some, None, is_some, option_map, if◌then◌else◌}
use Rattle.std.specs.List.{list_any}
use Rattle.dkv_base.specs.declared.types.Call.{Call}
use Rattle.dkv_base.specs.declared.types.Call.TheVariants as called
use Rattle.dkv_base.specs.declared.types.Commit.{Commit}
use Rattle.dkv_base.specs.declared.types.Commit.TheVariants as commit
use Rattle.dkv_base.specs.declared.types.Item.{Item}
use Rattle.dkv_base.specs.declared.types.Item.TheVariants as item
use Rattle.dkv_base.specs.declared.types.MsgId.{MsgId}
use Rattle.dkv_base.specs.Messages.{is_out}
use Rattle.dkv_base.specs.Trails.{out, weight, first_stop}
use Rattle.dkv_core.specs.Settling.{without_id}
use Rattle.dkv_journal.specs.Records.{IsLaid}

-- the items in order; how many more find room beside the kept places; the messages that lost their place; the record for a settlement
pub record Items : Type 0 where
  pub items : List Item
  pub room : ℕ
  pub roomless : List MsgId
  pub settling : Option (List ℕ)

-- how many of these messages have a place, where those lost theirs
abbrev pub places : List MsgId → List MsgId → ℕ
places lost [] = 0
places lost (id ∷ ids) = (if is_out id lost then 0 else 1) + places lost ids

-- a record of a settlement, if it is one
abbrev pub IsSettling : Option (List ℕ) → Type 0
IsSettling None = Unit {0}
IsSettling (Some laid) = IsLaid 25 laid

-- Each message that is out has a place among the kept ones, or lost it, and there is a record for its settlement. There are n items of
-- at most `most`, and m messages that lost their place of at most `lost_most`.
pub record KeepsPlaces (items : List Item) (n most : ℕ) (lost : List MsgId) (m lost_most kept : ℕ) (settling : Option (List ℕ)) : Type 0 where
  pub counted : places lost (out items) ≤ kept
  pub within : n + kept ≤ most
  pub lost_within : m + kept ≤ lost_most
  pub settled : IsSettling settling
  pub laid : (id : MsgId) → is_out id (out items) ≡ true → IsTrue (is_some settling)

-- the message that a commit settles
abbrev pub message_of : Commit → Option MsgId
message_of (commit.Wrote who at w) = None
message_of (commit.Acked who at id) = Some id
message_of (commit.Failed who at id) = Some id

-- it is one of these, if there is one
abbrev pub IfOut : Option MsgId → List MsgId → Type 0
IfOut None ids = Unit {0}
IfOut (Some id) ids = is_out id ids ≡ true

-- it has a place, where these have none
abbrev pub HasPlace : Option MsgId → List MsgId → Type 0
HasPlace None lost = ⊥
HasPlace (Some id) lost = is_out id lost ≡ false

-- the messages without a place, once this one's was used
abbrev pub spent : Option MsgId → List MsgId → List MsgId
spent None lost = lost
spent (Some id) lost = if is_out id lost then lost else lost ++ id ∷ []

-- the messages without a place, once this one was settled
abbrev pub freed : Option MsgId → List MsgId → List MsgId
freed None lost = lost
freed (Some id) lost = without_id id lost

-- the record that was laid out anew, or else the one that is kept
abbrev pub chosen : Option (List ℕ) → Option (List ℕ) → Option (List ℕ)
chosen None kept = kept
chosen (Some laid) kept = Some laid

-- with a write's item the weight is within the limit; a settlement needs no room
abbrev pub FitsIn : ℕ → List Item → Commit → Type 0
FitsIn limit trail (commit.Wrote who at w) = weight (trail ++ item.Made (commit.Wrote who at w) ∷ []) ≤ limit
FitsIn limit trail (commit.Acked who at id) = Unit {0}
FitsIn limit trail (commit.Failed who at id) = Unit {0}

-- with a write's item the weight passes the limit
abbrev pub IsTooHeavy : ℕ → List Item → Commit → Type 0
IsTooHeavy limit trail (commit.Wrote who at w) = limit < weight (trail ++ item.Made (commit.Wrote who at w) ∷ [])
IsTooHeavy limit trail (commit.Acked who at id) = ⊥
IsTooHeavy limit trail (commit.Failed who at id) = ⊥

-- ---- stops

-- a stop after which no term begins
abbrev pub is_last_stop : Item → Bool
is_last_stop (item.Made c) = false
is_last_stop (item.Took who at id) = false
is_last_stop (item.Doubt who at) = false
is_last_stop (item.Stop who at last) = last

-- none where no item is a stop, else whether one of the stops is the last
abbrev pub stop_told : List Item → Option Bool
stop_told items = option_map (λ place. list_any is_last_stop items) (first_stop items)

-- the place of the first stop, and whether one of the stops is the last
pub record KnowsStops (items : List Item) (stop : Option ℕ) (ended : Bool) : Type 0 where
  pub first : stop ≡ first_stop items
  pub last : ended ≡ list_any is_last_stop items

-- a write finds no stop among the items; a settlement asks for none
abbrev pub FindsNoStop : Call → List Item → Type 0
FindsNoStop (called.Write w) items = first_stop items ≡ None
FindsNoStop (called.Ack id) items = Unit {0}
FindsNoStop (called.Fail id) items = Unit {0}

-- the call is a write, and the first stop stands at this place
abbrev pub FindsStop : Call → List Item → ℕ → Type 0
FindsStop (called.Write w) items place = first_stop items ≡ Some place
FindsStop (called.Ack id) items place = ⊥
FindsStop (called.Fail id) items place = ⊥
