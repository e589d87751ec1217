-- What `generate` does.
--     Generates s number old new rose      it ended so: what it wrote
--     frames_of number, AreTheFrames number      the frames of `pipe` that the workload of a number is
use Rattle.std.specs.Prelude.{ℕ, true, false, List, Option, map}
use Rattle.std.specs.Io.KnownBytes.{Appends}
use Rattle.dkv_base.specs.declared.types.Ask.{Ask}
use Rattle.dkv_base.specs.declared.types.Ask.TheVariants as ask
use Rattle.dkv_base.specs.declared.types.Step.{Step}
use Rattle.dkv_io.specs.Streams.{AppendsFront}
use Rattle.dkv_generate.specs.declared.sizes.TheConstants.{GROUPS}
use Rattle.dkv_generate.specs.Frames.{body_of}
use Rattle.dkv_generate.specs.Steps.{steps_of}
use Rattle.dkv_generate.specs.Workload.{workload, WritesSome}
use Rattle.dkv_pipe.specs.declared.frame_kind.FrameKind.{FrameKind}
use Rattle.dkv_pipe.specs.declared.frame_kind.FrameKind.TheVariants as kind
use Rattle.dkv_pipe.specs.Frames.{PipeFrame, AreFrames}
use Rattle.dkv_app.specs.declared.status.Status.{Status}
use Rattle.dkv_app.specs.declared.status.Status.TheVariants as status

-- the workload is written at Ok, a front of it where a write failed and the count rose, and some of its groups where memory was
-- wanted; there is no other end
abbrev pub Generates : Status → ℕ → Option (List ℕ) → Option (List ℕ) → Type 0 → Type 0
Generates status.Ok number old new rose = Appends old new (workload number)
Generates status.WriteFault number old new rose = AppendsFront old new (workload number) × rose
Generates status.NoMemory number old new rose = WritesSome number old new
Generates _ number old new rose = ⊥

-- the kind of the frame that asks this
abbrev pub frame_kind : Ask → FrameKind
frame_kind (ask.Read ranges) = kind.Read
frame_kind (ask.Write w) = kind.Write
frame_kind (ask.Watch keys) = kind.Watch
frame_kind ask.Poll = kind.Poll
frame_kind ask.Take = kind.Take
frame_kind (ask.Settle id true) = kind.Acknowledge
frame_kind (ask.Settle id false) = kind.Fail

-- the frame of a step
abbrev pub frame_of : Step → PipeFrame
frame_of s = record { caller = s.who; moment = s.at; kind = frame_kind s.ask; body = body_of s.ask }

-- those of all steps of a workload
abbrev pub frames_of : ℕ → List PipeFrame
frames_of number = map frame_of (steps_of GROUPS number)

-- the workload is these whole frames
abbrev pub AreTheFrames : ℕ → Type 0
AreTheFrames number = AreFrames (workload number) (frames_of number)
