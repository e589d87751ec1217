-- The responses to requests.
--     refusal method close cause      to a request that is refused without the database
--     answer_response close answer, reply_response close reply      to a read or a write, by what the database says
--     unserved_response what close      to a write that is not served
--     frame_chunk f, stop_response, exchange_response close text      a frame of a watch; to a stop and to an exchange
use Rattle.std.specs.Prelude.{ℕ, ◌^◌, ◌<◌, Bool, true, false, ◌&&◌, ◌||◌, if◌then◌else◌, List, [], ◌++◌, length, Some, ⊤, codes, decimal, bytes_eq}
use Rattle.std.specs.Option.{option_map_or}
use Rattle.std.specs.Int.{w32, to_le_bytes}
use Rattle.dkv_base.specs.declared.codes.Limit.{Limit}
use Rattle.dkv_base.specs.declared.types.Answer.TheVariants as answer
use Rattle.dkv_base.specs.declared.types.Answer.{Answer}
use Rattle.dkv_base.specs.declared.types.Frame.{Frame}
use Rattle.dkv_base.specs.Limits.{limit_code}
use Rattle.dkv_base.specs.Replies.{Reply, said, stopped, full, disk_fault}
use Rattle.dkv_msgs.specs.Outputs.{read_output, written_output, fails_output, frame_output}
use Rattle.dkv_msgs.specs.Spellings.{spell_snapshot_read_output, spell_atomic_write_output, spell_watch_output}
use Rattle.dkv_heads.specs.declared.statuses.TheConstants.{OK, BAD_REQUEST, UNAUTHORIZED, NOT_FOUND, METHOD_NOT_ALLOWED, SERVICE_UNAVAILABLE}
use Rattle.dkv_http.specs.declared.responses.Kind.TheVariants as kind
use Rattle.dkv_http.specs.Responses.{head_of, respond, text_body, text_response, chunk}
use Rattle.dkv_route.specs.declared.access.Cause.{Cause}
use Rattle.dkv_route.specs.declared.access.Cause.TheVariants as cause
use Rattle.dkv_route.specs.declared.kinds.Unserved.{Unserved}
use Rattle.dkv_route.specs.declared.kinds.Unserved.TheVariants as unserved

-- ---- refusals

-- the status of a refusal (RFC 9110, section 15.5)
abbrev pub cause_status : Cause → ℕ
cause_status cause.NotFound = NOT_FOUND
cause_status cause.NotAllowed = METHOD_NOT_ALLOWED
cause_status cause.Unauthorized = UNAUTHORIZED
cause_status cause.TokenExpired = UNAUTHORIZED
cause_status cause.WrongDatabase = BAD_REQUEST
cause_status cause.WrongVersion = BAD_REQUEST
cause_status cause.TooOld = BAD_REQUEST
cause_status cause.BadExchange = BAD_REQUEST
cause_status (cause.Malformed place) = BAD_REQUEST
cause_status (cause.Limited passed) = BAD_REQUEST

-- a limit is told by its code
abbrev pub limit_text : Limit → List ℕ
limit_text passed = codes "limit " ++ decimal (limit_code passed)

-- a mutation that meets a value which is no u64 is told by its place
abbrev pub not_u64_text : ℕ → List ℕ
not_u64_text place = codes "not a u64: mutation " ++ decimal place

-- the text of a refusal, without its line end
abbrev pub cause_text : Cause → List ℕ
cause_text cause.NotFound = codes "not found"
cause_text cause.NotAllowed = codes "method not allowed"
cause_text cause.Unauthorized = codes "unauthorized"
cause_text cause.TokenExpired = codes "token expired"
cause_text cause.WrongDatabase = codes "wrong database"
cause_text cause.WrongVersion = codes "wrong version"
cause_text cause.TooOld = codes "watch needs HTTP/1.1"
cause_text cause.BadExchange = codes "bad exchange"
cause_text (cause.Malformed place) = codes "malformed at " ++ decimal place
cause_text (cause.Limited passed) = limit_text passed

-- the refusals that HEAD gets without their text; the others come after the method was looked at
abbrev pub may_lack_text : Cause → Bool
may_lack_text cause.NotFound = true
may_lack_text cause.NotAllowed = true
may_lack_text _ = false

-- the text; for HEAD the same head and no text (RFC 9110, section 9.3.2)
abbrev pub refusal : List ℕ → Bool → Cause → List ℕ
refusal method close cause =
    if may_lack_text cause && bytes_eq method (codes "HEAD")
    then head_of (cause_status cause) kind.Text close (text_body (cause_text cause))
    else text_response (cause_status cause) (cause_text cause) close

-- ---- answers of the database

-- what is told where a write is not served
abbrev pub unserved_text : Unserved → List ℕ
unserved_text unserved.Stopping = codes "stopping"
unserved_text unserved.Full = codes "full"
unserved_text unserved.DiskFault = codes "disk fault, the write may or may not stand"

-- the session ends with it, whatever the request said
abbrev pub ends_session : Unserved → Bool
ends_session unserved.Stopping = true
ends_session unserved.Full = true
ends_session unserved.DiskFault = false

-- the response to a write that is not served
abbrev pub unserved_response : Unserved → Bool → List ℕ
unserved_response what close =
    text_response SERVICE_UNAVAILABLE (unserved_text what) (ends_session what || close)

-- a message of KV Connect, in Protobuf bytes
abbrev pub message_response : Bool → List ℕ → List ℕ
message_response close body = respond OK kind.Protobuf close body

-- the message that a frame of a watch is
abbrev pub frame_message : Frame → List ℕ
frame_message f = spell_watch_output (frame_output f)

-- the length of the message in 4 bytes, and the message
abbrev pub frame_bytes : Frame → List ℕ
frame_bytes f = to_le_bytes w32 (length (frame_message f)) ++ frame_message f

-- a frame is one chunk of the response to a watch
abbrev pub frame_chunk : Frame → List ℕ
frame_chunk f = chunk (frame_bytes f)

-- the response to a request by the database's answer, and one chunk for a frame; what no request gets has no bytes
abbrev pub answer_response : Bool → Answer → List ℕ
answer_response close (answer.Entries ranges) = message_response close (spell_snapshot_read_output (read_output ranges))
answer_response close (answer.Written n) = message_response close (spell_atomic_write_output (written_output n))
answer_response close (answer.Fails places) = message_response close (spell_atomic_write_output (fails_output places))
answer_response close (answer.NotU64 place) = text_response BAD_REQUEST (not_u64_text place) close
answer_response close (answer.Limit passed) = text_response BAD_REQUEST (limit_text passed) close
answer_response close (answer.Frame f) = option_map_or frame_chunk f []
answer_response close _ = []

-- the answers that a request gets: those to reads and writes, and frames whose length has 4 bytes
abbrev pub IsForRequest : Answer → Type 0
IsForRequest (answer.Entries ranges) = ⊤
IsForRequest (answer.Written n) = ⊤
IsForRequest (answer.Fails places) = ⊤
IsForRequest (answer.NotU64 place) = ⊤
IsForRequest (answer.Limit passed) = ⊤
IsForRequest (answer.Frame (Some f)) = length (frame_message f) < 2 ^ 32
IsForRequest _ = ⊥

-- the response to a read or a write by the database's reply
abbrev pub reply_response : Bool → Reply → List ℕ
reply_response close (said a) = answer_response close a
reply_response close (stopped place) = unserved_response unserved.Stopping close
reply_response close (full weight limit) = unserved_response unserved.Full close
reply_response close disk_fault = unserved_response unserved.DiskFault close

-- ---- answers that need no database

-- the reply to an exchange is a JSON text
abbrev pub exchange_response : Bool → List ℕ → List ℕ
exchange_response close text = respond OK kind.Json close text

-- the response to a stop, with which the session ends
abbrev pub stop_response : List ℕ
stop_response = text_response OK (unserved_text unserved.Stopping) true
