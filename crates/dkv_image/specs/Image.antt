-- Images: entries and messages as bytes.
--     image es ms      the one spelling
--     is_image b es ms, FitsImage es ms      whether they may stand in an image; their numbers fit their fields
--     image_of b bytes      the entries and messages that the bytes spell, or the place of what doesn't stand
use Rattle.std.specs.Prelude.{ℕ, pos, zero, suc, ◌-◌, ◌^◌, ◌<◌, Bool, true, ◌&&◌, nat_le, nat_lt, if◌then◌else◌, is_none, List, [], ◌∷◌, ◌++◌, length, flat_map, take, drop, Option, Some, None, option_map, Result, Ok, Err}
use Rattle.std.specs.List.{list_all, AllByRecursion}
use Rattle.std.specs.Option.{option_map_or}
use Rattle.std.specs.Ordering.{is_lt}
use Rattle.std.specs.Int.{Width, w8, w32, w64, byte_len, to_le_bytes, from_le_bytes}
use Rattle.dkv_base.specs.declared.types.Enqueue.{Enqueue}
use Rattle.dkv_base.specs.declared.types.Entry.{Entry}
use Rattle.dkv_base.specs.declared.types.Message.{Message}
use Rattle.dkv_base.specs.declared.types.Mutation.{Mutation}
use Rattle.dkv_base.specs.Limits.{from_zero, mutation_limit, enqueue_limit}
use Rattle.dkv_base.specs.declared.kinds.TheConstants.{SET}
use Rattle.dkv_base.specs.State.{State, key_cmp, id_cmp, is_visible, is_in_key_order, is_in_id_order}
use Rattle.dkv_base.specs.declared.types.Profile.{Profile}

-- ---- spelling

-- bytes with their length before them
abbrev pub sized : List ℕ → List ℕ
sized bytes = to_le_bytes w32 (length bytes) ++ bytes

abbrev pub entry_bytes : Entry → List ℕ
entry_bytes e =
    sized e.key
    ++ to_le_bytes w8 (from_zero e.encoding)
    ++ sized e.bytes
    ++ to_le_bytes w64 e.commit
    ++ to_le_bytes w64 e.expire

-- the keys with their number before them, and the intervals with theirs
abbrev pub message_bytes : Message → List ℕ
message_bytes m =
    to_le_bytes w64 m.id.commit
    ++ to_le_bytes w32 m.id.index
    ++ to_le_bytes w64 m.due
    ++ to_le_bytes w32 m.fails
    ++ sized m.payload
    ++ to_le_bytes w32 (length m.undelivered) ++ flat_map sized m.undelivered
    ++ to_le_bytes w32 (length m.backoff) ++ flat_map (to_le_bytes w32) m.backoff

abbrev pub image : List Entry → List Message → List ℕ
image es ms =
    to_le_bytes w64 (length es) ++ flat_map entry_bytes es
    ++ to_le_bytes w64 (length ms) ++ flat_map message_bytes ms

-- ---- what stands in an image

-- of which profile, after which commit and at which moment
pub record Bounds : Type 0 where
  pub profile : Profile
  pub n : ℕ
  pub now : ℕ

-- those of an image of the state
abbrev pub bounds : Profile → State → Bounds
bounds p s = record { profile = p; n = s.number; now = s.moment }

-- commits are counted from 1
abbrev pub is_commit : Bounds → ℕ → Bool
is_commit b n = nat_le 1 n && nat_le n b.n

-- the mutation that would store the entry
abbrev pub set_of : Entry → Mutation
set_of e = record { key = e.key; value = Some (record { bytes = e.bytes; encoding = e.encoding }); kind = SET; expire_at_ms = pos e.expire }

-- within the limits, made by a commit, and not ended
abbrev pub is_good_entry : Bounds → Entry → Bool
is_good_entry b e = is_none (mutation_limit b.profile (set_of e)) && is_commit b e.commit && is_visible b.now e

-- the enqueue that would make the message
abbrev pub enqueue_of : Message → Enqueue
enqueue_of m = record { payload = m.payload; deadline_ms = pos m.due; undelivered = m.undelivered; backoff = m.backoff }

-- within the limits, made by a commit, with an interval, and failed at most as often as it has intervals
abbrev pub is_good_message : Bounds → Message → Bool
is_good_message b m =
    is_none (enqueue_limit b.profile (enqueue_of m)) && is_commit b m.id.commit
    && nat_lt 0 (length m.backoff) && nat_le m.fails (length m.backoff)

abbrev pub is_image : Bounds → List Entry → List Message → Bool
is_image b es ms =
    list_all (is_good_entry b) es && is_in_key_order es
    && list_all (is_good_message b) ms && is_in_id_order ms

-- ---- reading a field: its value and the bytes behind it, or none where they end before it does

infixl 10 ◌>>=◌
abbrev pub ◌>>=◌ : {A B : Type 0} → Option A → (A → Option B) → Option B
(Some x) >>= f = f x
None >>= f = None

abbrev pub bytes_at : ℕ → List ℕ → Option (List ℕ × List ℕ)
bytes_at n bytes = if nat_le n (length bytes) then Some (take n bytes, drop n bytes) else None

abbrev pub number_at : Width → List ℕ → Option (ℕ × List ℕ)
number_at w bytes = option_map (λ x. (from_le_bytes w x.0, x.1)) (bytes_at (byte_len w) bytes)

abbrev pub sized_at : List ℕ → Option (List ℕ × List ℕ)
sized_at bytes = number_at w32 bytes >>= λ n. bytes_at n.0 n.1

-- so many of them in a row
abbrev pub many_at : {X : Type 0} → (List ℕ → Option (X × List ℕ)) → ℕ → List ℕ → Option (List X × List ℕ)
many_at one zero bytes = Some ([], bytes)
many_at one (suc k) bytes = do
  x ← one bytes
  others ← many_at one k x.1
  Some (x.0 ∷ others.0, others.1)

-- with their number before them
abbrev pub counted_at : {X : Type 0} → (List ℕ → Option (X × List ℕ)) → List ℕ → Option (List X × List ℕ)
counted_at one bytes = number_at w32 bytes >>= λ n. many_at one n.0 n.1

abbrev pub entry_at_front : List ℕ → Option (Entry × List ℕ)
entry_at_front bytes = do
  key ← sized_at bytes
  encoding ← number_at w8 key.1
  value ← sized_at encoding.1
  commit ← number_at w64 value.1
  expire ← number_at w64 commit.1
  Some (record { key = key.0; bytes = value.0; encoding = pos encoding.0; commit = commit.0; expire = expire.0 }, expire.1)

abbrev pub message_at_front : List ℕ → Option (Message × List ℕ)
message_at_front bytes = do
  commit ← number_at w64 bytes
  index ← number_at w32 commit.1
  due ← number_at w64 index.1
  fails ← number_at w32 due.1
  payload ← sized_at fails.1
  undelivered ← counted_at sized_at payload.1
  backoff ← counted_at (number_at w32) undelivered.1
  Some (
    record {
      id = record { commit = commit.0; index = index.0 };
      payload = payload.0;
      due = due.0;
      fails = fails.0;
      undelivered = undelivered.0;
      backoff = backoff.0;
    },
    backoff.1,
  )

-- ---- reading an image: what stands so far and the bytes behind it, or how many bytes there are from what doesn't stand on

infixl 10 ◌>>◌
abbrev pub ◌>>◌ : {A B : Type 0} → Result A ℕ → (A → Result B ℕ) → Result B ℕ
(Ok x) >> f = f x
(Err left) >> f = Err left

-- a field, where it passes the test
abbrev pub standing : {X : Type 0} → (X → Bool) → List ℕ → Option (X × List ℕ) → Result (X × List ℕ) ℕ
standing test bytes None = Err (length bytes)
standing test bytes (Some x) = if test x.0 then Ok x else Err (length bytes)

-- so many in a row, each of which passes the test beside the one before it, if there is one
abbrev pub row_at : {X : Type 0} → (List ℕ → Option (X × List ℕ)) → (Option X → X → Bool) → Option X → ℕ → List ℕ → Result (List X × List ℕ) ℕ
row_at one test before zero bytes = Ok ([], bytes)
row_at one test before (suc k) bytes =
    standing (test before) bytes (one bytes) >> λ x.
    row_at one test (Some x.0) k x.1 >> λ others.
    Ok (x.0 ∷ others.0, others.1)

-- the number of a row, and the row
abbrev pub counted_row : {X : Type 0} → (List ℕ → Option (X × List ℕ)) → (Option X → X → Bool) → List ℕ → Result (List X × List ℕ) ℕ
counted_row one test bytes = standing (λ _. true) bytes (number_at w64 bytes) >> λ n. row_at one test None n.0 n.1

-- good, and under a greater key than the entry before it
abbrev pub may_follow_entry : Bounds → Option Entry → Entry → Bool
may_follow_entry b before e = is_good_entry b e && option_map_or (λ f. is_lt (key_cmp f.key e.key)) before true

abbrev pub may_follow_message : Bounds → Option Message → Message → Bool
may_follow_message b before m = is_good_message b m && option_map_or (λ k. is_lt (id_cmp k.id m.id)) before true

-- nothing behind the last message
abbrev pub whole : List Entry → List Message → List ℕ → Result (List Entry × List Message) ℕ
whole es ms [] = Ok (es, ms)
whole es ms (x ∷ xs) = Err (length (x ∷ xs))

abbrev pub image_left : Bounds → List ℕ → Result (List Entry × List Message) ℕ
image_left b bytes =
    counted_row entry_at_front (may_follow_entry b) bytes >> λ es.
    counted_row message_at_front (may_follow_message b) es.1 >> λ ms.
    whole es.0 ms.0 ms.1

-- the place is what is not left
abbrev pub from_front : {X : Type 0} → ℕ → Result X ℕ → Result X ℕ
from_front total (Ok x) = Ok x
from_front total (Err left) = Err (total - left)

abbrev pub image_of : Bounds → List ℕ → Result (List Entry × List Message) ℕ
image_of b bytes = from_front (length bytes) (image_left b bytes)

-- ---- what fits

pub record FitsEntry (e : Entry) : Type 0 where
  pub expire : e.expire < 2 ^ 64

pub record FitsMessage (m : Message) : Type 0 where
  pub index : m.id.index < 2 ^ 32
  pub due : m.due < 2 ^ 64

-- what the conditions of an image leave open
pub record FitsImage (es : List Entry) (ms : List Message) : Type 0 where
  pub entry_count : length es < 2 ^ 64
  pub message_count : length ms < 2 ^ 64
  pub entries : AllByRecursion FitsEntry es
  pub messages : AllByRecursion FitsMessage ms
