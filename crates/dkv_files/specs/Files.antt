-- A file: its gate, header, image and records.
--     head_bytes l head m      bytes 1 to 95, for an image of m bytes
--     file_bytes l gate head es ms bodies      the whole file
--     is_open file, head_fault k file      an open gate before a whole header; the first place of it that doesn't stand
--     generation_of, layout_of, id_of, image_end, ..      what a header tells
use Rattle.std.specs.Prelude.{ℕ, ◌+◌, ◌^◌, Bool, not, ◌&&◌, nat_le, nat_lt, if◌then◌else◌, List, [], ◌∷◌, ◌++◌, length, map, take, drop, slice_range, slice_set, Option, bytes_eq}
use Rattle.std.specs.Bool.{then_some}
use Rattle.std.specs.Option.{option_or}
use Rattle.std.specs.Int.{Width, w32, w64, byte_len, to_le_bytes, from_le_bytes}
use Rattle.sha2.specs.Sha256.{sha256}
use Rattle.dkv_base.specs.declared.types.Commit.{Commit}
use Rattle.dkv_base.specs.declared.types.Entry.{Entry}
use Rattle.dkv_base.specs.declared.types.Message.{Message}
use Rattle.dkv_base.specs.Limits.{first_some}
use Rattle.dkv_base.specs.declared.moments.TheConstants.{MAX_MOMENT}
use Rattle.dkv_base.specs.Spelling.{record_body}
use Rattle.dkv_base.specs.declared.types.Layout.{Layout}
use Rattle.dkv_base.specs.Profiles.{Known, is_known_format, is_known_profile, profile_at, profile_number}
use Rattle.dkv_journal.specs.declared.gates.TheConstants.{OPEN_GATE, CLOSED_GATE}
use Rattle.dkv_journal.specs.Records.{has_digests, is_open_at, records}
use Rattle.dkv_image.specs.Image.{Bounds, image}
use Rattle.dkv_files.specs.declared.head.FileHead.{FileHead}

-- ---- writing

-- DKVFILE
abbrev pub mark : List ℕ
mark = 68 ∷ 75 ∷ 86 ∷ 70 ∷ 73 ∷ 76 ∷ 69 ∷ []

abbrev pub head_bytes : Layout → FileHead → ℕ → List ℕ
head_bytes l head m =
    mark
    ++ to_le_bytes w32 l.format
    ++ to_le_bytes w32 (profile_number l.profile)
    ++ to_le_bytes w64 head.generation
    ++ head.id
    ++ head.secret
    ++ to_le_bytes w64 m
    ++ to_le_bytes w64 head.n
    ++ to_le_bytes w64 head.now

-- header and image
abbrev pub front : Layout → FileHead → List Entry → List Message → List ℕ
front l head es ms = head_bytes l head (length (image es ms)) ++ image es ms

-- the digest of header and image; format 1 has none
abbrev pub front_digest : Layout → List ℕ → List ℕ
front_digest l bytes = if has_digests l then sha256 bytes else []

-- the file up to its first record
abbrev pub before_records : Layout → ℕ → FileHead → List Entry → List Message → List ℕ
before_records l gate head es ms = gate ∷ front l head es ms ++ front_digest l (front l head es ms)

abbrev pub file_bytes : Layout → ℕ → FileHead → List Entry → List Message → List (List ℕ) → List ℕ
file_bytes l gate head es ms bodies = before_records l gate head es ms ++ records l (length (before_records l gate head es ms)) bodies

-- what a fill writes: no records, and the file's gate closed; and what opening the gate makes of it
abbrev pub filled : Layout → FileHead → List Entry → List Message → List ℕ
filled l head es ms = file_bytes l CLOSED_GATE head es ms []

abbrev pub with_open_gate : List ℕ → List ℕ
with_open_gate file = slice_set file 0 OPEN_GATE

-- a file with these commits
abbrev pub file_of : Layout → ℕ → FileHead → List Entry → List Message → List Commit → List ℕ
file_of l gate head es ms cs = file_bytes l gate head es ms (map record_body cs)

-- ---- reading a header

abbrev pub number_in : Width → ℕ → List ℕ → ℕ
number_in w at file = from_le_bytes w (take (byte_len w) (drop at file))

abbrev pub format_of : List ℕ → ℕ
format_of file = number_in w32 8 file

abbrev pub profile_of : List ℕ → ℕ
profile_of file = number_in w32 12 file

abbrev pub generation_of : List ℕ → ℕ
generation_of file = number_in w64 16 file

abbrev pub id_of : List ℕ → List ℕ
id_of file = slice_range file 24 40

abbrev pub secret_of : List ℕ → List ℕ
secret_of file = slice_range file 40 72

abbrev pub image_length : List ℕ → ℕ
image_length file = number_in w64 72 file

abbrev pub number_of : List ℕ → ℕ
number_of file = number_in w64 80 file

abbrev pub moment_in : List ℕ → ℕ
moment_in file = number_in w64 88 file

abbrev pub layout_of : List ℕ → Layout
layout_of file = record { format = format_of file; profile = profile_at (profile_of file) }

abbrev pub bounds_of : List ℕ → Bounds
bounds_of file = record { profile = profile_at (profile_of file); n = number_of file; now = moment_in file }

abbrev pub head_of : List ℕ → FileHead
head_of file = record {
  generation = generation_of file;
  id = id_of file;
  secret = secret_of file;
  n = number_of file;
  now = moment_in file;
}

-- ---- what stands in a header

-- 96 bytes at least, the first of them an open gate
abbrev pub is_open : List ℕ → Bool
is_open file = nat_le 96 (length file) && is_open_at 0 file

-- the place behind the image
abbrev pub image_end : List ℕ → ℕ
image_end file = 96 + image_length file

-- the place of the first gate behind the image, and in format 2 behind its digest
abbrev pub first_gate : List ℕ → ℕ
first_gate file = if has_digests (layout_of file) then image_end file + 32 else image_end file

-- the place, where the test fails
abbrev pub unless : Bool → ℕ → Option ℕ
unless stands place = then_some (not stands) place

-- of the places before the image's length, and those behind it
abbrev pub number_fault : Known → List ℕ → Option ℕ
number_fault k file = first_some (
    unless (bytes_eq (slice_range file 1 8) mark) 1
    ∷ unless (is_known_format k (format_of file)) 8
    ∷ unless (is_known_profile k (profile_of file)) 12
    ∷ unless (nat_le 1 (generation_of file) && nat_lt (generation_of file) (2 ^ 63)) 16
    ∷ unless (nat_lt (number_of file) (2 ^ 63)) 80
    ∷ unless (nat_le (moment_in file) MAX_MOMENT) 88
    ∷ [])

-- and then of the length: there is a byte at the first gate
abbrev pub head_fault : Known → List ℕ → Option ℕ
head_fault k file = option_or (number_fault k file) (unless (nat_lt (first_gate file) (length file)) 72)
