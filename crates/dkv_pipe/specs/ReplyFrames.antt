-- The frames of replies, in bytes.
--     reply_bytes status body      a reply with this status and body
--     answer_bytes a, bytes_of_reply r      what an answer and a reply of the database are told by
--     malformed_bytes place      the reply to a body that is malformed at this place
--     limit_bytes passed      the reply to what passes a limit
use Rattle.std.specs.Prelude.{ℕ, ◌+◌, List, [], ◌∷◌, ◌++◌, length, replicate}
use Rattle.std.specs.declared.option.Option.{Option}
use Rattle.std.specs.Option.{option_map_or}
use Rattle.std.specs.Int.{w32, w64, to_le_bytes}
use Rattle.dkv_base.specs.declared.types.Answer.{Answer}
use Rattle.dkv_base.specs.declared.types.Answer.TheVariants as answer
use Rattle.dkv_base.specs.declared.types.Frame.{Frame}
use Rattle.dkv_base.specs.declared.codes.Limit.{Limit}
use Rattle.dkv_base.specs.Limits.{limit_code}
use Rattle.dkv_base.specs.Replies.{Reply, said, stopped, full, disk_fault}
use Rattle.dkv_base.specs.Spelling.{id_bytes}
use Rattle.dkv_msgs.specs.Outputs.{read_output, written_output, fails_output, frame_output}
use Rattle.dkv_msgs.specs.Spellings.{spell_snapshot_read_output, spell_atomic_write_output, spell_watch_output}
use Rattle.dkv_pipe.specs.declared.reply_status.ReplyStatus.{ReplyStatus}
use Rattle.dkv_pipe.specs.declared.reply_status.ReplyStatus.TheVariants as status
use Rattle.dkv_pipe.specs.Codes.{status_code}

-- a length, then what it counts: the status and the body
abbrev pub reply_bytes : ReplyStatus → List ℕ → List ℕ
reply_bytes s body = to_le_bytes w32 (length body + 1) ++ status_code s ∷ body

-- it was done, and this is the answer
abbrev pub done_bytes : List ℕ → List ℕ
done_bytes body = reply_bytes status.Done body

-- the place where the body is malformed
abbrev pub malformed_bytes : ℕ → List ℕ
malformed_bytes place = reply_bytes status.Malformed (to_le_bytes w64 place)

-- the code of the limit that is passed
abbrev pub limit_bytes : Limit → List ℕ
limit_bytes passed = reply_bytes status.Limit (limit_code passed ∷ [])

-- when something will be due, and all ones for never
abbrev pub due_bytes : Option ℕ → List ℕ
due_bytes due = option_map_or (to_le_bytes w64) due (replicate 8 0xFF)

-- the message of KV Connect that tells a frame; a poll that has none is told no bytes
abbrev pub told_bytes : Option Frame → List ℕ
told_bytes f = option_map_or (λ told. spell_watch_output (frame_output told)) f []

-- an answer of the database
abbrev pub answer_bytes : Answer → List ℕ
answer_bytes (answer.Entries ranges) = done_bytes (spell_snapshot_read_output (read_output ranges))
answer_bytes (answer.Written n) = done_bytes (spell_atomic_write_output (written_output n))
answer_bytes (answer.Fails places) = done_bytes (spell_atomic_write_output (fails_output places))
answer_bytes (answer.NotU64 place) = reply_bytes status.NotU64 (to_le_bytes w32 place)
answer_bytes (answer.Limit passed) = limit_bytes passed
answer_bytes (answer.Frame f) = done_bytes (told_bytes f)
answer_bytes (answer.Leased m) = done_bytes (id_bytes m.id ++ m.payload)
answer_bytes (answer.Nothing due) = reply_bytes status.Nothing (due_bytes due)
answer_bytes (answer.Settled n) = done_bytes (to_le_bytes w64 n)
answer_bytes answer.NoLease = reply_bytes status.NoLease []
answer_bytes answer.NoWatch = reply_bytes status.NoWatch []

-- a reply of the database; no pipe meets a stop
abbrev pub bytes_of_reply : Reply → List ℕ
bytes_of_reply (said a) = answer_bytes a
bytes_of_reply (stopped place) = []
bytes_of_reply (full weight limit) =
    reply_bytes status.Full (to_le_bytes w64 weight ++ to_le_bytes w64 limit)
bytes_of_reply disk_fault = reply_bytes status.DiskFault []
