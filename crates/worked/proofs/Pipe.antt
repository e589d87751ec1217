-- Requests and replies of a pipe, in bytes.
use Rattle.std.proofs.Common.{ℕ, ◌≡◌, refl, List, [], ◌∷◌, ◌++◌, true, false, Ok, Err}
use Rattle.std.specs.Prelude.{codes, pos, replicate, ◌^◌}
use Rattle.std.specs.Fmt.{digits}
use Rattle.dkv_base.specs.declared.types.AtomicWrite.{AtomicWrite}
use Rattle.dkv_base.specs.State.{State, empty_state}
use Rattle.dkv_base.specs.Protobuf.{varint, groups}
use Rattle.dkv_pipe.specs.declared.frame_kind.FrameKind.{FrameKind}
use Rattle.dkv_pipe.specs.declared.frame_kind.FrameKind.TheVariants as kind
use Rattle.dkv_pipe.specs.Frames.{PipeFrame, frame_bytes}
use Rattle.dkv_pipe.specs.Wishes.{Readings}
use Rattle.dkv_pipe.specs.Pipe.{pipe_out, summary_out}
use Rattle.worked.proofs.Words.{key_a, key_b, value, mutation, sets, mutates, enqueue, enqueues, limit, set_a, read_a, sums}
use Rattle.worked.proofs.Spelled.{set_body}

-- readings that know one body of each kind
abbrev knowing : AtomicWrite → Readings
knowing w = record { read_of = λ _. Ok read_a; write_of = λ _. Ok w; watch_of = λ _. Ok (key_a ∷ []) }

-- what caller 1 asks at 5
abbrev frame_of : FrameKind → List ℕ → PipeFrame
frame_of k body = record { caller = 1; moment = 5; kind = k; body = body }

-- the frame of a pipe that asks for it
set_in_a_frame : frame_bytes (frame_of kind.Write set_body) ≡
    0x1D ∷ 0 ∷ 0 ∷ 0 ∷ 1 ∷ 0 ∷ 0 ∷ 0 ∷ 5 ∷ 0 ∷ 0 ∷ 0 ∷ 0 ∷ 0 ∷ 0 ∷ 0 ∷ 2 ∷ set_body
set_in_a_frame = refl

-- the reply to the first write
abbrev set_reply : List ℕ
set_reply = 0x0F ∷ 0 ∷ 0 ∷ 0 ∷ 0 ∷ 8 ∷ 1 ∷ 0x12 ∷ 0x0A ∷ 0 ∷ 0 ∷ 0 ∷ 0 ∷ 0 ∷ 0 ∷ 0 ∷ 1 ∷ 0 ∷ 0 ∷ []

-- its reply
set_is_answered : pipe_out (knowing set_a) empty_state limit (frame_of kind.Write set_body ∷ []) [] ≡ set_reply
unfolding varint groups
set_is_answered = refl

-- a read before it
read_of_nothing : pipe_out (knowing set_a) empty_state limit (frame_of kind.Read [] ∷ []) [] ≡ 7 ∷ 0 ∷ 0 ∷ 0 ∷ 0 ∷ 0x0A ∷ 0 ∷ 0x20 ∷ 1 ∷ 0x40 ∷ 1 ∷ []
unfolding varint groups
read_of_nothing = refl

-- and one after it
set_then_read : pipe_out (knowing set_a) empty_state limit (frame_of kind.Write set_body ∷ frame_of kind.Read [] ∷ []) [] ≡ set_reply ++
    0x1F ∷ 0 ∷ 0 ∷ 0 ∷ 0 ∷ 0x0A ∷ 0x18 ∷ 0x0A ∷ 0x16 ∷ 0x0A ∷ 3 ∷ 2 ∷ 0x61 ∷ 0 ∷ 0x12 ∷ 1 ∷ 0x78 ∷ 0x18 ∷ 3 ∷ 0x22 ∷ 0x0A ∷ 0 ∷ 0 ∷ 0 ∷ 0 ∷ 0 ∷ 0 ∷ 0 ∷ 1 ∷ 0 ∷ 0 ∷ 0x20 ∷ 1 ∷ 0x40 ∷ 1 ∷ []
unfolding varint groups
set_then_read = refl

-- only where the key is absent
abbrev set_absent : AtomicWrite
set_absent = record {
  checks = (record { key = key_a; versionstamp = [] }) ∷ [];
  mutations = sets key_a (0x78 ∷ []) ∷ [];
  enqueues = [];
}

-- which holds once
second_absence_check_fails : pipe_out (knowing set_absent) empty_state limit (frame_of kind.Write [] ∷ frame_of kind.Write [] ∷ []) [] ≡
    set_reply ++ 6 ∷ 0 ∷ 0 ∷ 0 ∷ 0 ∷ 8 ∷ 2 ∷ 0x22 ∷ 1 ∷ 0 ∷ []
unfolding varint groups
second_absence_check_fails = refl

-- a sum on a text, by its place
sum_on_a_text_by_its_place : pipe_out (knowing (mutates (sets key_b (0x78 ∷ []) ∷ sums key_b ∷ []))) empty_state limit (frame_of kind.Write [] ∷ []) [] ≡ 5 ∷ 0 ∷ 0 ∷ 0 ∷ 3 ∷ 1 ∷ 0 ∷ 0 ∷ 0 ∷ []
sum_on_a_text_by_its_place = refl

-- a limit by its number
limit_by_its_code : pipe_out (knowing (mutates (sets [] [] ∷ []))) empty_state limit (frame_of kind.Write [] ∷ []) [] ≡ 2 ∷ 0 ∷ 0 ∷ 0 ∷ 2 ∷ 6 ∷ []
limit_by_its_code = refl

-- the first frame of a watch tells an absent key as changed
first_frame_in_bytes : pipe_out (knowing set_a) empty_state limit (frame_of kind.Watch [] ∷ []) [] ≡
    7 ∷ 0 ∷ 0 ∷ 0 ∷ 0 ∷ 8 ∷ 1 ∷ 0x12 ∷ 2 ∷ 8 ∷ 1 ∷ []
unfolding varint groups
first_frame_in_bytes = refl

-- a reply of eight bytes
abbrev reply_8 : ℕ → ℕ → List ℕ
reply_8 status n = 9 ∷ 0 ∷ 0 ∷ 0 ∷ status ∷ n ∷ 0 ∷ 0 ∷ 0 ∷ 0 ∷ 0 ∷ 0 ∷ 0 ∷ []

-- a message
abbrev queued : AtomicWrite
queued = enqueues (enqueue 0x70 (7 ∷ []) 5 [] ∷ [])

-- its id
abbrev id_bytes : List ℕ
id_bytes = 1 ∷ 0 ∷ 0 ∷ 0 ∷ 0 ∷ 0 ∷ 0 ∷ 0 ∷ 0 ∷ 0 ∷ 0 ∷ 0 ∷ []

-- poll without a watch, take on nothing, write, take, fail, take before it is due, settle twice, a checkpoint without and with a mark
messages_and_checkpoints_in_bytes : pipe_out (knowing queued) empty_state limit
    (frame_of kind.Poll [] ∷ frame_of kind.Take [] ∷ frame_of kind.Write [] ∷ frame_of kind.Take [] ∷ frame_of kind.Fail id_bytes ∷ frame_of kind.Take [] ∷ frame_of kind.Acknowledge id_bytes ∷ frame_of kind.Checkpoint [] ∷ frame_of kind.Checkpoint [] ∷ [])
    (false ∷ false ∷ false ∷ false ∷ false ∷ false ∷ false ∷ false ∷ true ∷ []) ≡
    (1 ∷ 0 ∷ 0 ∷ 0 ∷ 9 ∷ [])
    ++ (9 ∷ 0 ∷ 0 ∷ 0 ∷ 6 ∷ replicate 8 0xFF)
    ++ set_reply
    ++ (14 ∷ 0 ∷ 0 ∷ 0 ∷ 0 ∷ id_bytes) ++ (0x70 ∷ [])
    ++ reply_8 0 2
    ++ reply_8 6 12
    ++ (1 ∷ 0 ∷ 0 ∷ 0 ∷ 7 ∷ [])
    ++ (1 ∷ 0 ∷ 0 ∷ 0 ∷ 0 ∷ [])
    ++ (1 ∷ 0 ∷ 0 ∷ 0 ∷ 4 ∷ [])
unfolding varint groups
messages_and_checkpoints_in_bytes = refl

-- readings to which each watch is malformed at 3
abbrev broken : Readings
broken = record { read_of = λ _. Ok read_a; write_of = λ _. Ok (mutates (mutation 1 key_a (value 3 []) (pos 100) ∷ [])); watch_of = λ body. Err 3 }

-- a malformed body is no step: its moment raises nothing
malformed_body_leaves_the_moment : pipe_out broken empty_state limit
    (frame_of kind.Write [] ∷ record { caller = 1; moment = 100; kind = kind.Watch; body = [] } ∷ frame_of kind.Read [] ∷ []) [] ≡
    set_reply ++ reply_8 1 3
    ++ (0x1C ∷ 0 ∷ 0 ∷ 0 ∷ 0 ∷ 0x0A ∷ 0x15 ∷ 0x0A ∷ 0x13 ∷ 0x0A ∷ 3 ∷ 2 ∷ 0x61 ∷ 0 ∷ 0x18 ∷ 3 ∷ 0x22 ∷ 0x0A ∷ 0 ∷ 0 ∷ 0 ∷ 0 ∷ 0 ∷ 0 ∷ 0 ∷ 1 ∷ 0 ∷ 0 ∷ 0x20 ∷ 1 ∷ 0x40 ∷ 1 ∷ [])
unfolding varint groups
malformed_body_leaves_the_moment = refl

-- a new term has room again
full_until_a_term : pipe_out (knowing set_a) empty_state 93 (frame_of kind.Write [] ∷ frame_of kind.Write [] ∷ frame_of kind.Term [] ∷ frame_of kind.Write [] ∷ []) [] ≡
    set_reply ++ (0x11 ∷ 0 ∷ 0 ∷ 0 ∷ 5 ∷ 93 ∷ 0 ∷ 0 ∷ 0 ∷ 0 ∷ 0 ∷ 0 ∷ 0 ∷ 93 ∷ 0 ∷ 0 ∷ 0 ∷ 0 ∷ 0 ∷ 0 ∷ 0 ∷ [])
    ++ (1 ∷ 0 ∷ 0 ∷ 0 ∷ 0 ∷ [])
    ++ (0x0F ∷ 0 ∷ 0 ∷ 0 ∷ 0 ∷ 8 ∷ 1 ∷ 0x12 ∷ 0x0A ∷ 0 ∷ 0 ∷ 0 ∷ 0 ∷ 0 ∷ 0 ∷ 0 ∷ 2 ∷ 0 ∷ 0 ∷ [])
unfolding varint groups
full_until_a_term = refl

-- a worn state starts no further term
abbrev worn : State
worn = record { number = 2 ^ 62; moment = 0; entries = []; messages = [] }

worn_state_begins_no_term : pipe_out (knowing set_a) worn limit (frame_of kind.Term [] ∷ []) [] ≡ 9 ∷ 0 ∷ 0 ∷ 0 ∷ 8 ∷ 0 ∷ 0 ∷ 0 ∷ 0 ∷ 0 ∷ 0 ∷ 0 ∷ 0x40 ∷ []
worn_state_begins_no_term = refl

-- the three lines
summary_of_two_frames : summary_out (knowing set_a) empty_state limit (frame_of kind.Write [] ∷ frame_of kind.Read [] ∷ []) [] ≡ codes "frames 2" ++ 10 ∷ [] ++ codes "commits 1" ++ 10 ∷ [] ++ codes "entries 1 messages 0" ++ 10 ∷ []
unfolding digits varint groups
summary_of_two_frames = refl
