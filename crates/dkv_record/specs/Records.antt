-- The body of a record, as it is read.
--     commit_of write_of body      the commit whose bytes these are, if there is one
--     WriteOf      how the body of a write is read: the write, or the place where it is malformed
use Rattle.std.specs.Prelude.{◌≡◌, ℕ, Bool, true, false, ◌==◌, if◌then◌else◌, List, take, drop, slice_index, Option, Some, None, option_map, Result, Ok, Err, bytes_eq}
use Rattle.std.specs.Option.{option_and_then}
use Rattle.std.specs.Result.{result_ok}
use Rattle.std.specs.Int.{w32, w64, from_le_bytes}
use Rattle.dkv_base.specs.declared.types.AtomicWrite.{AtomicWrite}
use Rattle.dkv_base.specs.declared.types.Commit.{Commit}
use Rattle.dkv_base.specs.declared.types.Commit.TheVariants as commit
use Rattle.dkv_base.specs.declared.types.MsgId.{MsgId}
use Rattle.dkv_base.specs.Spelling.{record_body}
use Rattle.dkv_record.specs.declared.read.RecordError.{RecordError}
use Rattle.dkv_record.specs.declared.read.RecordError.TheVariants as error

-- how the body of a write is read
abbrev pub WriteOf : Type 0
WriteOf = List ℕ → Result AtomicWrite ℕ

-- the caller, in bytes 1 to 4
abbrev pub who_in : List ℕ → ℕ
who_in body = from_le_bytes w32 (take 4 (drop 1 body))

-- the moment, in bytes 5 to 12
abbrev pub at_in : List ℕ → ℕ
at_in body = from_le_bytes w64 (take 8 (drop 5 body))

-- the id of a message, in bytes 13 to 24
abbrev pub id_in : List ℕ → MsgId
id_in body = record { commit = from_le_bytes w64 (take 8 (drop 13 body)); index = from_le_bytes w32 (take 4 (drop 21 body)) }

-- the write, from byte 13 on
abbrev pub write_in : WriteOf → List ℕ → Option AtomicWrite
write_in write_of body = result_ok (write_of (drop 13 body))

-- the one commit that the body can be the bytes of
abbrev pub likely : WriteOf → List ℕ → Option Commit
likely write_of body =
    if slice_index body 0 == 1 then option_map (λ w. commit.Wrote (who_in body) (at_in body) w) (write_in write_of body)
    else if slice_index body 0 == 2 then Some (commit.Acked (who_in body) (at_in body) (id_in body))
    else if slice_index body 0 == 3 then Some (commit.Failed (who_in body) (at_in body) (id_in body))
    else None

-- the commit, where the body is exactly its bytes
abbrev pub exactly : List ℕ → Commit → Option Commit
exactly body c = if bytes_eq (record_body c) body then Some c else None

-- the commit whose body these bytes are, if there is one
abbrev pub commit_of : WriteOf → List ℕ → Option Commit
commit_of write_of body = option_and_then (exactly body) (likely write_of body)

-- what a call answered is the commit of the body; want of memory alone is free
abbrev pub IsCommitOf : WriteOf → List ℕ → Result Commit RecordError → Type 0
IsCommitOf write_of body (Ok c) = commit_of write_of body ≡ Some c
IsCommitOf write_of body (Err error.NotARecord) = commit_of write_of body ≡ None
IsCommitOf write_of body (Err error.NoMemory) = Unit {0}

-- the same of the one commit that it can be
abbrev pub IsLikely : WriteOf → List ℕ → Result Commit RecordError → Type 0
IsLikely write_of body (Ok c) = likely write_of body ≡ Some c
IsLikely write_of body (Err error.NotARecord) = commit_of write_of body ≡ None
IsLikely write_of body (Err error.NoMemory) = Unit {0}

-- it settles a message
abbrev pub is_settlement : Commit → Bool
is_settlement (commit.Wrote who at w) = false
is_settlement (commit.Acked who at id) = true
is_settlement (commit.Failed who at id) = true
