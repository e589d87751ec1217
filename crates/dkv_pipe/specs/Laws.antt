-- Laws of the frames at the front of an input, and of runs, as statements.
use Rattle.std.specs.Prelude.{◌≡◌, ◌⊎◌, ℕ, ⊤, Bool, false, IsTrue, List, [], ◌++◌, count_by}
use Rattle.dkv_base.specs.Fits.{AreBytes}
use Rattle.dkv_base.specs.Steps.{Situation}
use Rattle.dkv_store.specs.Stores.{IsWithinRise}
use Rattle.dkv_io.specs.Causes.{Rose}
use Rattle.dkv_pipe.specs.declared.pipe.PipeEnd.{PipeEnd}
use Rattle.dkv_pipe.specs.declared.pipe.PipeEnd.TheVariants as end
use Rattle.dkv_pipe.specs.Frames.{PipeFrame, frame_bytes, is_frame, AreFrames, Whole, Refused, front, Begins}
use Rattle.dkv_pipe.specs.Built.{is_built}
use Rattle.dkv_pipe.specs.Courses.{Course, IsCourse}
use Rattle.dkv_pipe.specs.Ends.{Streams, Ran, HasEndCause}
use Rattle.dkv_pipe.specs.Whole.{Completes}

-- the bytes of a frame begin with it, whatever follows
abbrev pub FrameIsFront : Type 0
FrameIsFront =
    (f : PipeFrame) (rest : List ℕ) → IsTrue (is_frame f)
    → front (frame_bytes f ++ rest) ≡ Whole f rest

-- so an input of whole frames begins with them, and nothing is left
abbrev pub FramesBegin : Type 0
FramesBegin =
    (input : List ℕ) (frames : List PipeFrame) → AreFrames input frames → Begins input frames []

-- and what stands whole at the front is a frame's bytes
abbrev pub FrontIsFrame : Type 0
FrontIsFrame =
    (bytes rest : List ℕ) (f : PipeFrame) → AreBytes bytes → front bytes ≡ Whole f rest
    → (bytes ≡ frame_bytes f ++ rest) × IsTrue (is_frame f)

-- what is refused at the front stays refused, whatever follows
abbrev pub RefusedStays : Type 0
RefusedStays =
    (bytes more : List ℕ) → front bytes ≡ Refused → front (bytes ++ more) ≡ Refused

-- so no continuation of it begins with a frame
abbrev pub BeginsNoFrame : Type 0
BeginsNoFrame =
    (bytes more rest : List ℕ) (f : PipeFrame) → front bytes ≡ Refused → IsTrue (is_frame f)
    → ¬ (bytes ++ more ≡ frame_bytes f ++ rest)

-- ---- one run

-- no frame that is built stands whole at the front
abbrev pub NoBuilt : List ℕ → Type 0
NoBuilt rest =
    (f : PipeFrame) (more : List ℕ) → front rest ≡ Whole f more → is_built f.kind ≡ false

-- bytes that are answered as far as built frames go, with the same marks, have one course
abbrev pub OneRun : Type 0
OneRun =
    (from : Situation) (input : List ℕ) (c d : Course)
    → IsCourse from input c → NoBuilt c.rest → IsCourse from input d → NoBuilt d.rest
    → c.marks ≡ d.marks → c ≡ d

-- the end comes of what was read: it is no failed write, and no want of memory
abbrev pub IsTold : PipeEnd → Type 0
IsTold end.WriteFault = ⊥
IsTold end.NoMemory = ⊥
IsTold _ = ⊤

-- runs that read the same bytes, with the same marks, and ended so have one course, whether they write replies or a summary
abbrev pub OneCourse : Type 0
OneCourse =
    (k l : Bool) (d e : PipeEnd) (from : Situation) (b c u v : Streams) (x y : Course)
    (r : Ran k d from b c x) (s : Ran l e from u v y)
    → IsTold d → IsTold e → r.read ≡ s.read → x.marks ≡ y.marks → x ≡ y

-- ---- all of the input

-- a run over whole frames that are built ends at Ok or for want of memory, where no count of faults rose and the marks are within the disks' rise
abbrev pub Complete : Type 0
Complete =
    (summary : Bool) (e : PipeEnd) (from : Situation) (before after : Streams) (c : Course)
    (read_old read_new write_old write_new a_old a_new b_old b_new : ℕ)
    → Ran summary e from before after c
    → HasEndCause e after.ended (Rose read_old read_new) (Rose write_old write_new)
    → IsWithinRise (count_by (λ mark. mark) c.marks) a_old a_new b_old b_new
    → Completes summary e from before after (Rose read_old read_new) (Rose write_old write_new)
    (Rose a_old a_new ⊎ Rose b_old b_new)
