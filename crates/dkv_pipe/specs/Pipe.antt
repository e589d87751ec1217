-- What a pipe answers: a function of its whole frames.
--     grant w who at mark s      the reply to a wish, and the situation after it
--     frame_step r s f mark      the same of a frame
--     pipe_out r base limit frames marks      the bytes of all replies
--     summary_out r base limit frames marks      the three lines instead
--     output_from r summary s frames marks      the one or the other
use Rattle.std.specs.Prelude.{ℕ, ◌^◌, Bool, nat_le, if◌then◌else◌, List, [], ◌∷◌, ◌++◌, length, drop, codes, decimal}
use Rattle.std.specs.Int.{w64, to_le_bytes}
use Rattle.dkv_base.specs.State.{State, seen}
use Rattle.dkv_base.specs.Steps.{Situation, opened, effective, step_at, first_mark}
use Rattle.dkv_pipe.specs.declared.reply_status.ReplyStatus.TheVariants as status
use Rattle.dkv_pipe.specs.Frames.{PipeFrame}
use Rattle.dkv_pipe.specs.Wishes.{Readings, Wish, asks, malformed, checkpoint, term, wish}
use Rattle.dkv_pipe.specs.ReplyFrames.{reply_bytes, done_bytes, bytes_of_reply, malformed_bytes}

-- the state's number begins no further term
abbrev pub is_worn : State → Bool
is_worn base = nat_le (2 ^ 62) base.number

-- the present state is the base of the next term, unless its number is worn
abbrev pub next_term : Situation → List ℕ × Situation
next_term s =
    if is_worn s.state
    then (reply_bytes status.Worn (to_le_bytes w64 s.state.number), s)
    else (done_bytes [], opened s.state s.limit)

-- nothing is changed; the disk may fail
abbrev pub checkpoint_bytes : Bool → List ℕ
checkpoint_bytes mark = if mark then reply_bytes status.DiskFault [] else done_bytes []

-- a step where the frame asks; a malformed body is none, and a checkpoint changes nothing
abbrev pub grant : Wish → ℕ → ℕ → Bool → Situation → List ℕ × Situation
grant (asks a) who at mark s =
    let r = step_at s who (effective s at) a mark in (bytes_of_reply r.0, r.1)
grant (malformed place) who at mark s = (malformed_bytes place, s)
grant checkpoint who at mark s = (checkpoint_bytes mark, s)
grant term who at mark s = next_term s

-- the reply to one frame, and the situation after it
abbrev pub frame_step : Readings → Situation → PipeFrame → Bool → List ℕ × Situation
frame_step r s f mark = grant (wish r f.kind f.body) f.caller f.moment mark s

-- the replies to frames in order, where each mark makes a commit or a checkpoint fail
abbrev pub replies_from : Readings → Situation → List PipeFrame → List Bool → List ℕ
replies_from r s [] marks = []
replies_from r s (f ∷ fs) marks =
    let a = frame_step r s f (first_mark marks) in a.0 ++ replies_from r a.1 fs (drop 1 marks)

-- the situation after frames in order
abbrev pub after_frames : Readings → Situation → List PipeFrame → List Bool → Situation
after_frames r s [] marks = s
after_frames r s (f ∷ fs) marks =
    after_frames r (frame_step r s f (first_mark marks)).1 fs (drop 1 marks)

-- all replies of a pipe that begins a term on the base
abbrev pub pipe_out : Readings → State → ℕ → List PipeFrame → List Bool → List ℕ
pipe_out r base limit frames marks = replies_from r (opened base limit) frames marks

-- the three lines of these counts
abbrev pub counted_lines : ℕ → ℕ → ℕ → ℕ → List ℕ
counted_lines frames commits entries messages =
    codes "frames " ++ decimal frames ++ 10 ∷ []
    ++ codes "commits " ++ decimal commits ++ 10 ∷ []
    ++ codes "entries " ++ decimal entries ++ codes " messages " ++ decimal messages ++ 10 ∷ []

-- the number of frames and of the last commit, the entries that can be seen and the messages that are pending at the last moment
abbrev pub summary_lines : ℕ → Situation → List ℕ
summary_lines frames s =
    counted_lines frames s.state.number (length (seen s.state s.greatest)) (length s.state.messages)

-- what is written for frames in order: the replies, or the three lines instead
abbrev pub output_from : Readings → Bool → Situation → List PipeFrame → List Bool → List ℕ
output_from r summary s frames marks =
    if summary then summary_lines (length frames) (after_frames r s frames marks) else replies_from r s frames marks

-- the three lines of a pipe that begins a term on the base
abbrev pub summary_out : Readings → State → ℕ → List PipeFrame → List Bool → List ℕ
summary_out r base limit frames marks =
    summary_lines (length frames) (after_frames r (opened base limit) frames marks)
