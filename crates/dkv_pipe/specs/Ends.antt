-- How a run over frames may end.
--     Streams      what a source and a sink tell of their bytes
--     Puts does old new bytes      these bytes are written, or none
--     Ran summary e from before after c      a run over these streams, from a situation on, came so far and ended so
--     HasEndCause e ended read_rose write_rose      what each end needs besides
use Rattle.std.specs.Prelude.{◌≡◌, ◌⊎◌, ℕ, ◌<◌, ◌≤◌, Bool, true, false, not, if◌then◌else◌, List, [], ◌∷◌, ◌++◌, length, ⊤, IsTrue}
use Rattle.std.specs.declared.option.Option.{Option}
use Rattle.std.specs.Io.KnownBytes.{Appends, Consumes, IsAtEnd}
use Rattle.dkv_io.specs.Streams.{AppendsFront}
use Rattle.dkv_base.specs.Steps.{Situation}
use Rattle.dkv_pipe.specs.declared.pipe.PipeEnd.{PipeEnd}
use Rattle.dkv_pipe.specs.declared.pipe.PipeEnd.TheVariants as end
use Rattle.dkv_pipe.specs.declared.sizes.TheConstants.{MAX_PLACE}
use Rattle.dkv_pipe.specs.Frames.{PipeFrame, Whole, Partial, Refused, front}
use Rattle.dkv_pipe.specs.Built.{is_built}
use Rattle.dkv_pipe.specs.Wishes.{readings}
use Rattle.dkv_pipe.specs.Pipe.{frame_step, after_frames, summary_lines}
use Rattle.dkv_pipe.specs.Courses.{Course, IsCourse}

-- what the source has left, and whether it said End; what the sink holds
pub record Streams : Type 0 where
  pub left : Option (List ℕ)
  pub ended : Bool
  pub held : Option (List ℕ)

-- the three of them
abbrev pub streams : Option (List ℕ) → Bool → Option (List ℕ) → Streams
streams left ended held = record { left = left; ended = ended; held = held }

-- the source ended within a frame
pub record IsCut (after : Streams) (rest : List ℕ) : Type 0 where
  pub part : front rest ≡ Partial
  pub some : 0 < length rest
  pub last : IsAtEnd after.left
  pub said : IsTrue after.ended

-- no frame begins behind the answered ones: its bytes are refused, or cut, or it would begin too late
abbrev pub NoFrame : Streams → ℕ → List ℕ → Type 0
NoFrame after at rest = (front rest ≡ Refused) ⊎ IsCut after rest ⊎ (MAX_PLACE ≤ at)

-- a frame behind the answered ones that isn't answered yet
pub record Unbuilt (at : ℕ) (rest : List ℕ) : Type 0 where
  pub frame : PipeFrame
  pub more : List ℕ
  pub early : at < MAX_PLACE
  pub whole : front rest ≡ Whole frame more
  pub unbuilt : is_built frame.kind ≡ false

-- all of the input was read and answered
pub record IsAll (after : Streams) (at : ℕ) (rest : List ℕ) : Type 0 where
  pub early : at < MAX_PLACE
  pub none : rest ≡ []
  pub last : IsAtEnd after.left

-- less than a frame is behind the answered ones
pub record IsPart (at : ℕ) (rest : List ℕ) : Type 0 where
  pub early : at < MAX_PLACE
  pub part : front rest ≡ Partial

-- where the write failed: at any reply, and with a summary behind the whole input alone, at whose end the source said End
abbrev pub IsAtWrite : Bool → Streams → ℕ → List ℕ → Type 0
IsAtWrite false after at rest = ⊤
IsAtWrite true after at rest = IsAll after at rest × IsTrue after.ended

-- what each end says of the place up to which frames were answered, and of what was read behind it
abbrev pub EndsAt : Bool → PipeEnd → Streams → ℕ → List ℕ → Type 0
EndsAt summary end.Ok after at rest = IsAll after at rest
EndsAt summary (end.BadFrame place) after at rest = (place ≡ at) × NoFrame after at rest
EndsAt summary (end.NotBuilt place) after at rest = (place ≡ at) × Unbuilt at rest
EndsAt summary end.ReadFault after at rest = IsPart at rest
EndsAt summary end.WriteFault after at rest = IsAtWrite summary after at rest
EndsAt summary end.NoMemory after at rest = at < MAX_PLACE

-- these bytes are written, or none
abbrev pub Puts : Bool → Option (List ℕ) → Option (List ℕ) → List ℕ → Type 0
Puts true old new bytes = Appends old new bytes
Puts false old new bytes = new ≡ old

-- a front of these bytes is written, where they are to be
abbrev pub PutsFront : Bool → Option (List ℕ) → Option (List ℕ) → List ℕ → Type 0
PutsFront true old new bytes = AppendsFront old new bytes
PutsFront false old new bytes = ⊥

-- the write of the last frame's reply failed: the replies to the frames before it were written whole, and of this one a front
pub record IsLastUnwritten (from : Situation) (read : List ℕ) (old new : Option (List ℕ)) (c : Course) : Type 0 where
  -- how far the run came before the last frame, and that frame
  pub earlier : Course
  pub frame : PipeFrame
  pub mark : Bool
  pub last : List ℕ
  -- what the sink held between the two
  pub held : Option (List ℕ)
  pub answered : IsCourse from read earlier
  pub next : front earlier.rest ≡ Whole frame c.rest
  pub frames : c.frames ≡ earlier.frames ++ frame ∷ []
  pub marks : c.marks ≡ earlier.marks ++ mark ∷ []
  pub reply : last ≡ (frame_step readings (after_frames readings from earlier.frames earlier.marks) frame mark).0
  pub out : c.out ≡ earlier.out ++ last
  pub written : Appends old held earlier.out
  pub part : AppendsFront held new last

-- what a run is to write: the replies to its frames, or the three lines of a summary
abbrev pub output : Bool → Situation → Course → List ℕ
output summary from c =
    if summary then summary_lines (length c.frames) (after_frames readings from c.frames c.marks) else c.out

-- the write of it failed: of the last reply, or of a summary, of which a front was written
abbrev pub IsUnwritten : Bool → Situation → List ℕ → Option (List ℕ) → Option (List ℕ) → Course → Type 0
IsUnwritten false from read old new c = IsLastUnwritten from read old new c
IsUnwritten true from read old new c = AppendsFront old new (output true from c)

-- At Ok all of it was written. At any other end but a failed write so were all of the replies, and of a summary nothing.
abbrev pub Writes : Bool → PipeEnd → Situation → List ℕ → Option (List ℕ) → Option (List ℕ) → Course → Type 0
Writes summary end.Ok from read old new c = Appends old new (output summary from c)
Writes summary end.WriteFault from read old new c = IsUnwritten summary from read old new c
Writes summary _ from read old new c = Puts (not summary) old new c.out

-- what was read, answered and written, and where that ended
pub record Ran (summary : Bool) (e : PipeEnd) (from : Situation) (before after : Streams) (c : Course) : Type 0 where
  pub read : List ℕ
  pub taken : Consumes before.left after.left read
  pub answered : IsCourse from read c
  pub written : Writes summary e from read before.held after.held c
  pub ends : EndsAt summary e after c.at c.rest

-- what each end needs besides: that the source said End, or which count rose
abbrev pub HasEndCause : PipeEnd → Bool → Type 0 → Type 0 → Type 0
HasEndCause end.Ok ended read_rose write_rose = IsTrue ended
HasEndCause end.ReadFault ended read_rose write_rose = read_rose
HasEndCause end.WriteFault ended read_rose write_rose = write_rose
HasEndCause (end.BadFrame at) ended read_rose write_rose = ⊤
HasEndCause (end.NotBuilt at) ended read_rose write_rose = ⊤
HasEndCause end.NoMemory ended read_rose write_rose = ⊤
