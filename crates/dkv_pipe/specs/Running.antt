-- A run that goes on.
--     IsLook look bytes      what a look at some bytes says of their front
--     Running .. summary old before now s buffer at count      all before `at` is answered, which is so many frames, and the buffer was read since
--     IsEarlyNumber number at      how many commits there may be at a place
--     OnOrEnds progress on ends      what holds where a step goes on, or where it ends the run
use Rattle.std.specs.Prelude.{◌≡◌, ℕ, ◌+◌, ◌-◌, ◌*◌, ◌^◌, ◌<◌, ◌≤◌, Bool, not, IsTrue, List, length, take, drop}
use Rattle.std.specs.Io.KnownBytes.{Consumes}
use Rattle.std.specs.declared.option.Option.{Option}
use Rattle.dkv_store.specs.Stores.{Contents}
use Rattle.dkv_store.specs.Situations.{StandsFor}
use Rattle.dkv_store.specs.Terms.{Leads}
use Rattle.dkv_pipe.specs.declared.frames.Head.{Head}
use Rattle.dkv_pipe.specs.declared.frames.Look.{Look}
use Rattle.dkv_pipe.specs.declared.frames.Look.TheVariants as look
use Rattle.dkv_pipe.specs.declared.pipe.PipeEnd.{PipeEnd}
use Rattle.dkv_pipe.specs.declared.pipe.Progress.{Progress}
use Rattle.dkv_pipe.specs.declared.pipe.Progress.TheVariants as progress
use Rattle.dkv_pipe.specs.declared.sizes.TheConstants.{BODY_PLACE, MAX_FRAME_BYTES}
use Rattle.dkv_pipe.specs.Frames.{PipeFrame, is_body_length, front}
use Rattle.dkv_pipe.specs.Frames as frames
use Rattle.dkv_pipe.specs.Wishes.{readings}
use Rattle.dkv_pipe.specs.Pipe.{after_frames, summary_lines}
use Rattle.dkv_pipe.specs.Courses.{IsCourse, situation_of}
use Rattle.dkv_pipe.specs.Attempts.{attempts_of}
use Rattle.dkv_pipe.specs.Ends.{Streams, Puts}
use Rattle.dkv_pipe.specs.Stores.{Reaches}

-- the frame with this head and body
abbrev pub frame_with : Head → List ℕ → PipeFrame
frame_with h body = record { caller = h.caller; moment = h.moment; kind = h.kind; body = body }

-- the body of a frame of this length at the front
abbrev pub body_at : ℕ → List ℕ → List ℕ
body_at len bytes = take (len - BODY_PLACE) (drop BODY_PLACE bytes)

-- a whole frame with this head stands at the front
pub record IsWholeOf (h : Head) (bytes : List ℕ) : Type 0 where
  pub whole : front bytes ≡ frames.Whole (frame_with h (body_at h.len bytes)) (drop h.len bytes)
  pub least : BODY_PLACE ≤ h.len
  pub most : h.len ≤ length bytes
  pub fits : IsTrue (is_body_length h.kind (h.len - BODY_PLACE))

-- what stands at the front of the bytes
abbrev pub IsLook : Look → List ℕ → Type 0
IsLook (look.Whole head) bytes = IsWholeOf head bytes
IsLook look.Partial bytes = (front bytes ≡ frames.Partial) × (length bytes < MAX_FRAME_BYTES)
IsLook look.Refused bytes = front bytes ≡ frames.Refused

-- All before the place was read, answered and written, but with a summary not written. It led to this store, it is so many frames, and
-- the buffer has what was read since.
pub record Running {D : Type 0} (seen : D → Option (List ℕ)) (images : D → List ℕ → Type 0) (faults moment : D → ℕ) (since : D → ℕ → List ℕ → Type 0)
    (summary : Bool) (old : Contents D) (before now : Streams) (s : Contents D) (buffer : List ℕ) (at count : ℕ) : Type 0 where
  pub read : List ℕ
  pub frames : List PipeFrame
  pub marks : List Bool
  pub out : List ℕ
  pub taken : Consumes before.left now.left read
  pub answered : IsCourse (situation_of old) read (record { frames = frames; marks = marks; at = at; out = out; rest = buffer })
  pub written : Puts (not summary) before.held now.held out
  pub counted : count ≡ length frames
  pub stands : StandsFor (after_frames readings (situation_of old) frames marks) s
  pub reaches : Reaches faults (length frames) marks old s
  pub leads : Leads seen images moment since (attempts_of (situation_of old) frames marks) old s

-- the three lines of this many frames, which led to this store
abbrev pub store_lines : {D : Type 0} → ℕ → Contents D → List ℕ
store_lines count s = summary_lines count (situation_of s)

-- few commits were made, so that their numbers never run out: a frame is no shorter than its head
abbrev pub IsEarlyNumber : ℕ → ℕ → Type 0
IsEarlyNumber number at = BODY_PLACE * number < BODY_PLACE * 2 ^ 62 + at

-- a step goes on, or ends the run
abbrev pub OnOrEnds : Progress → Type 0 → (PipeEnd → Type 0) → Type 0
OnOrEnds progress.On on ends = on
OnOrEnds (progress.Ends e) on ends = ends e

-- what is left to do, as a number that falls: room for places, and for what the buffer may get
abbrev pub to_do : ℕ → ℕ → ℕ
to_do at len = (2 ^ 64 - at - len) + (2 ^ 64 - at)
