-- The fields of entries and messages, as they stand in bytes.
use Rattle.std.specs.Prelude.{pos, ℕ, List, Option, Some}
use Rattle.std.specs.Int.{w32}
use Rattle.dkv_base.specs.declared.types.Entry.{Entry}
use Rattle.dkv_base.specs.declared.types.Message.{Message}
use Rattle.dkv_image_io.specs.declared.entry.EntryFields.{EntryFields}
use Rattle.dkv_image_io.specs.declared.message.MessageHead.{MessageHead}
use Rattle.dkv_image.specs.Image.{◌>>=◌, number_at, sized_at, counted_at}

-- the entry with these fields
abbrev pub entry_of : EntryFields → Entry
entry_of f = record { key = f.key.now; bytes = f.bytes.now; encoding = pos f.encoding; commit = f.commit; expire = f.expire }

-- the message with this head, whose keys and intervals stand at the front
abbrev pub message_behind : MessageHead → List ℕ → Option (Message × List ℕ)
message_behind h bytes = do
  undelivered ← counted_at sized_at bytes
  backoff ← counted_at (number_at w32) undelivered.1
  Some (
    record {
      id = record { commit = h.commit; index = h.index };
      payload = h.payload.now;
      due = h.due;
      fails = h.fails;
      undelivered = undelivered.0;
      backoff = backoff.0;
    },
    backoff.1,
  )
