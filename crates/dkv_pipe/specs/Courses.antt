-- How far a run over frames came.
--     Course      the answered frames and their marks, the place behind them, their replies, and what was read behind them
--     IsCourse from bytes c      the bytes begin with the frames, which were replied to so, and then comes the rest
--     situation_of s, started limit      the situation of a store, and that of a new database
use Rattle.std.specs.Prelude.{◌≡◌, ◌+◌, ℕ, Bool, true, false, List, [], ◌∷◌, length, drop, IsTrue, ⊤}
use Rattle.std.specs.List.{AllByRecursion}
use Rattle.dkv_base.specs.State.{empty_state}
use Rattle.dkv_base.specs.Steps.{Situation, opened, first_mark}
use Rattle.dkv_store.specs.Stores.{Contents}
use Rattle.dkv_pipe.specs.declared.reply_status.ReplyStatus.TheVariants.{DiskFault}
use Rattle.dkv_pipe.specs.Frames.{PipeFrame, Begins, BeginEarly}
use Rattle.dkv_pipe.specs.Wishes.{readings}
use Rattle.dkv_pipe.specs.ReplyFrames.{reply_bytes}
use Rattle.dkv_pipe.specs.Pipe.{frame_step, replies_from}
use Rattle.dkv_pipe.specs.Built.{is_built}

-- no commit was made, under this limit of weight
abbrev pub started : ℕ → Situation
started limit = opened empty_state limit

-- the store's state, trail and limit, what is out there and its greatest moment; nobody watches
abbrev pub situation_of : {D : Type 0} → Contents D → Situation
situation_of s = record {
  state = s.core.state;
  out = s.core.out;
  greatest = s.core.greatest;
  watchers = [];
  trail = s.trail;
  limit = s.limit;
}

-- the frames that were answered, a mark for each, the place behind them, their replies, and what was read behind them
pub record Course : Type 0 where
  pub frames : List PipeFrame
  pub marks : List Bool
  pub at : ℕ
  pub out : List ℕ
  pub rest : List ℕ

-- a mark stands only at a reply that tells a fault of the disk
abbrev pub IsMarked : Bool → List ℕ → Type 0
IsMarked true reply = reply ≡ reply_bytes DiskFault []
IsMarked false reply = ⊤

-- so it is for each of the frames in order, from the situation on
abbrev pub AreMarked : Situation → List PipeFrame → List Bool → Type 0
AreMarked s [] marks = ⊤
AreMarked s (f ∷ fs) marks =
    let answer = frame_step readings s f (first_mark marks) in
    IsMarked (first_mark marks) answer.0 × AreMarked answer.1 fs (drop 1 marks)

-- The bytes begin with frames that are built, and then comes the rest. A mark says that the frame's commit met a fault of the disk,
-- and with the marks the replies are `out`.
pub record IsCourse (from : Situation) (bytes : List ℕ) (c : Course) : Type 0 where
  pub whole : Begins bytes c.frames c.rest
  pub built : AllByRecursion (λ f. IsTrue (is_built f.kind)) c.frames
  pub early : BeginEarly 0 c.frames
  pub place : length bytes ≡ c.at + length c.rest
  pub replied : c.out ≡ replies_from readings from c.frames c.marks
  pub many : length c.marks ≡ length c.frames
  pub marked : AreMarked from c.frames c.marks
