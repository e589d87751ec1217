-- What a frame wants, as its kind and its body say.
--     Readings      how the bodies of reads, writes and watches are read
--     readings      how those of KV Connect are
--     wish r k body      what a frame of this kind and body wants
use Rattle.std.specs.Prelude.{ℕ, true, false, List, slice_range, Ok, Err}
use Rattle.std.specs.declared.result.Result.{Result}
use Rattle.std.specs.Int.{w32, w64, from_le_bytes}
use Rattle.dkv_base.specs.declared.types.Ask.{Ask}
use Rattle.dkv_base.specs.declared.types.Ask.TheVariants as ask
use Rattle.dkv_base.specs.declared.types.AtomicWrite.{AtomicWrite}
use Rattle.dkv_base.specs.declared.types.MsgId.{MsgId}
use Rattle.dkv_base.specs.declared.types.ReadRange.{ReadRange}
use Rattle.dkv_msgs.specs.Readings.{reads_ranges, reads_atomic_write, reads_keys}
use Rattle.dkv_pipe.specs.declared.frame_kind.FrameKind.{FrameKind}
use Rattle.dkv_pipe.specs.declared.frame_kind.FrameKind.TheVariants as kind
use Rattle.dkv_pipe.specs.declared.sizes.TheConstants.{ID_BYTES}

-- how the bodies of the three kinds are read: the message, or the place where it is malformed
pub record Readings : Type 0 where
  pub read_of : List ℕ → Result (List ReadRange) ℕ
  pub write_of : List ℕ → Result AtomicWrite ℕ
  pub watch_of : List ℕ → Result (List (List ℕ)) ℕ

-- the bodies are messages of KV Connect
abbrev pub readings : Readings
readings = record { read_of = reads_ranges; write_of = reads_atomic_write; watch_of = reads_keys }

-- a step of the database, or one of the pipe itself; a malformed body wants nothing
pub data Wish : Type 0 where
  asks : Ask → Wish
  malformed : ℕ → Wish
  checkpoint : Wish
  term : Wish

-- the message that was read, or the place where it is malformed
abbrev pub wish_of_read : {X : Type 0} → (X → Ask) → Result X ℕ → Wish
wish_of_read f (Ok x) = asks (f x)
wish_of_read f (Err place) = malformed place

-- the id in a settlement: the commit in eight bytes, least first, and the index in four
abbrev pub id_of : List ℕ → MsgId
id_of body = record {
  commit = from_le_bytes w64 (slice_range body 0 8);
  index = from_le_bytes w32 (slice_range body 8 ID_BYTES);
}

-- what a frame of this kind and body wants
abbrev pub wish : Readings → FrameKind → List ℕ → Wish
wish r kind.Read body = wish_of_read ask.Read (r.read_of body)
wish r kind.Write body = wish_of_read ask.Write (r.write_of body)
wish r kind.Watch body = wish_of_read ask.Watch (r.watch_of body)
wish r kind.Poll body = asks ask.Poll
wish r kind.Take body = asks ask.Take
wish r kind.Acknowledge body = asks (ask.Settle (id_of body) true)
wish r kind.Fail body = asks (ask.Settle (id_of body) false)
wish r kind.Checkpoint body = checkpoint
wish r kind.Term body = term
