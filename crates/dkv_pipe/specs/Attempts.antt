-- The commits that frames try, each made or left in doubt.
--     frame_attempts s f mark      what a frame tries: a mark leaves its commit in doubt
--     attempts_of from frames marks      the same of frames in order
use Rattle.std.specs.Prelude.{ℕ, Bool, true, false, if◌then◌else◌, List, [], ◌∷◌, ◌++◌, drop}
use Rattle.dkv_base.specs.declared.types.Ask.{Ask}
use Rattle.dkv_base.specs.declared.types.Ask.TheVariants as ask
use Rattle.dkv_base.specs.declared.types.Commit.{Commit}
use Rattle.dkv_base.specs.declared.types.Commit.TheVariants as commit
use Rattle.dkv_base.specs.Steps.{Situation, effective, settlement, reply_to, is_commit, first_mark}
use Rattle.dkv_store.specs.Attempts.{Attempt, made, left}
use Rattle.dkv_pipe.specs.Frames.{PipeFrame}
use Rattle.dkv_pipe.specs.Wishes.{Wish, asks, malformed, checkpoint, term, readings, wish}
use Rattle.dkv_pipe.specs.Pipe.{frame_step}

-- a mark leaves the commit in doubt; without one it is made, where it is answered as one
abbrev pub tried : Bool → Bool → Commit → List Attempt
tried true is c = left c ∷ []
tried false is c = if is then made c ∷ [] else []

-- what is tried for the caller at moment t; only a write and a settlement ask for a commit
abbrev pub ask_attempts : Situation → Ask → ℕ → ℕ → Bool → List Attempt
ask_attempts s (ask.Read ranges) who t mark = []
ask_attempts s (ask.Write w) who t mark = tried mark (is_commit (reply_to s who t (ask.Write w))) (commit.Wrote who t w)
ask_attempts s (ask.Watch keys) who t mark = []
ask_attempts s ask.Poll who t mark = []
ask_attempts s ask.Take who t mark = []
ask_attempts s (ask.Settle id done) who t mark = tried mark (is_commit (reply_to s who t (ask.Settle id done))) (settlement done who t id)

-- the same of what is wanted
abbrev pub wish_attempts : Situation → Wish → ℕ → ℕ → Bool → List Attempt
wish_attempts s (asks a) who at mark = ask_attempts s a who (effective s at) mark
wish_attempts s (malformed place) who at mark = []
wish_attempts s checkpoint who at mark = []
wish_attempts s term who at mark = []

-- the same of a frame
abbrev pub frame_attempts : Situation → PipeFrame → Bool → List Attempt
frame_attempts s f mark = wish_attempts s (wish readings f.kind f.body) f.caller f.moment mark

-- the attempts of frames in order, from a situation on
abbrev pub attempts_of : Situation → List PipeFrame → List Bool → List Attempt
attempts_of s [] marks = []
attempts_of s (f ∷ fs) marks =
    frame_attempts s f (first_mark marks)
    ++ attempts_of (frame_step readings s f (first_mark marks)).1 fs (drop 1 marks)
