-- The codes by which a frame tells its kind, and a reply its status.
--     kind_code k, kind_of code      the code of a kind, and the kind that has a code
--     status_code s, status_of code      the code of a status, and the status that has a code
use Rattle.std.specs.Prelude.{ℕ, ◌==◌, List, [], ◌∷◌, find}
use Rattle.std.specs.declared.option.Option.{Option}
use Rattle.dkv_pipe.specs.declared.frame_kind.FrameKind.{FrameKind}
use Rattle.dkv_pipe.specs.declared.frame_kind.FrameKind.TheVariants as kind
use Rattle.dkv_pipe.specs.declared.reply_status.ReplyStatus.{ReplyStatus}
use Rattle.dkv_pipe.specs.declared.reply_status.ReplyStatus.TheVariants as status

-- from 1 to 9
abbrev pub kind_code : FrameKind → ℕ
kind_code kind.Read = 1
kind_code kind.Write = 2
kind_code kind.Watch = 3
kind_code kind.Poll = 4
kind_code kind.Take = 5
kind_code kind.Acknowledge = 6
kind_code kind.Fail = 7
kind_code kind.Checkpoint = 8
kind_code kind.Term = 9

-- every kind
abbrev pub kinds : List FrameKind
kinds =
    kind.Read ∷ kind.Write ∷ kind.Watch ∷ kind.Poll ∷ kind.Take
    ∷ kind.Acknowledge ∷ kind.Fail ∷ kind.Checkpoint ∷ kind.Term ∷ []

-- the kind that has the code, if one has
abbrev pub kind_of : ℕ → Option FrameKind
kind_of code = find (λ k. kind_code k == code) kinds

-- from 0 to 9
abbrev pub status_code : ReplyStatus → ℕ
status_code status.Done = 0
status_code status.Malformed = 1
status_code status.Limit = 2
status_code status.NotU64 = 3
status_code status.DiskFault = 4
status_code status.Full = 5
status_code status.Nothing = 6
status_code status.NoLease = 7
status_code status.Worn = 8
status_code status.NoWatch = 9

-- every status
abbrev pub statuses : List ReplyStatus
statuses =
    status.Done ∷ status.Malformed ∷ status.Limit ∷ status.NotU64 ∷ status.DiskFault
    ∷ status.Full ∷ status.Nothing ∷ status.NoLease ∷ status.Worn ∷ status.NoWatch ∷ []

-- the status that has the code, if one has
abbrev pub status_of : ℕ → Option ReplyStatus
status_of code = find (λ s. status_code s == code) statuses
