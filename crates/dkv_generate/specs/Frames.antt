-- The frame of a step, as `pipe` takes it.
--     kind_of a, body_of a      the code of what is asked, and the body that says the rest
--     frame_bytes s      the bytes of the frame
--     IsFrame s      a step that a frame can say
use Rattle.std.specs.Prelude.{ℕ, ◌+◌, ◌^◌, ◌<◌, ◌≤◌, Bool, true, false, List, [], ◌∷◌, ◌++◌, length}
use Rattle.std.specs.Int.{w32, w64, to_le_bytes}
use Rattle.dkv_base.specs.declared.limits.TheConstants.{MAX_REQUEST_BYTES}
use Rattle.dkv_base.specs.declared.types.Ask.{Ask}
use Rattle.dkv_base.specs.declared.types.Ask.TheVariants as ask
use Rattle.dkv_base.specs.declared.types.Step.{Step}
use Rattle.dkv_base.specs.Spelling.{spell_write, id_bytes}
use Rattle.dkv_msgs.specs.Spellings.{spell_ranges, spell_keys}
use Rattle.dkv_generate.specs.declared.sizes.TheConstants.{HEAD_BYTES, READ, WRITE, WATCH, POLL, TAKE, ACKNOWLEDGE, FAIL}

-- a message that was handled is acknowledged
abbrev pub settlement_kind : Bool → ℕ
settlement_kind true = ACKNOWLEDGE
settlement_kind false = FAIL

-- the code of what is asked
abbrev pub kind_of : Ask → ℕ
kind_of (ask.Read ranges) = READ
kind_of (ask.Write w) = WRITE
kind_of (ask.Watch keys) = WATCH
kind_of ask.Poll = POLL
kind_of ask.Take = TAKE
kind_of (ask.Settle id done) = settlement_kind done

-- the canonical spelling of a message of KV Connect, or the id of the message that is settled, or nothing
abbrev pub body_of : Ask → List ℕ
body_of (ask.Read ranges) = spell_ranges ranges
body_of (ask.Write w) = spell_write w
body_of (ask.Watch keys) = spell_keys keys
body_of ask.Poll = []
body_of ask.Take = []
body_of (ask.Settle id done) = id_bytes id

-- the body is no longer than a request's may be
pub record IsShort (a : Ask) : Type 0 where
  pub most : length (body_of a) ≤ MAX_REQUEST_BYTES

-- a length, then what it counts before a body: the caller, the moment and the kind; numbers have their least byte first
abbrev pub head_bytes : ℕ → ℕ → ℕ → ℕ → List ℕ
head_bytes len caller moment kind = to_le_bytes w32 len ++ to_le_bytes w32 caller ++ to_le_bytes w64 moment ++ kind ∷ []

-- and then the body
abbrev pub frame_bytes : Step → List ℕ
frame_bytes s = head_bytes (length (body_of s.ask) + HEAD_BYTES) s.who s.at (kind_of s.ask) ++ body_of s.ask

-- its caller and its moment have room there
pub record IsFrame (s : Step) : Type 0 where
  pub caller : s.who < 2 ^ 32
  pub moment : s.at < 2 ^ 64
  pub short : IsShort s.ask
