-- The records of a file: bodies behind gates, as they are written and as they are read.
--     laid l p body      what a record of this body at gate p has behind its gate, and the next gate, closed
--     records l p bodies      the open records of these bodies from gate p on, and a closed gate
--     scanned l p bytes      the bodies up to the first gate that isn't open or whose record doesn't stand, and that gate
use Rattle.std.specs.Prelude.{ℕ, zero, suc, ◌≡◌, ◌+◌, Bool, false, not, ◌&&◌, nat_le, ◌==◌, if◌then◌else◌, List, [], ◌∷◌, ◌++◌, length, take, drop, slice_get, Option, bytes_eq}
use Rattle.std.specs.Option.{option_map_or}
use Rattle.std.specs.Int.{w32, w64, to_le_bytes, from_le_bytes}
use Rattle.sha2.specs.Sha256.{sha256}
use Rattle.dkv_base.specs.declared.types.Layout.{Layout}
use Rattle.dkv_base.specs.declared.types.Profile.TheVariants.{Narrow}
use Rattle.dkv_base.specs.Profiles.{body_most}
use Rattle.dkv_journal.specs.declared.gates.TheConstants.{OPEN_GATE, CLOSED_GATE}

-- there is a byte, and it is that of an open gate; or it is not
abbrev pub shows_open : Option ℕ → Bool
shows_open byte = option_map_or (λ g. g == OPEN_GATE) byte false

abbrev pub shows_closed : Option ℕ → Bool
shows_closed byte = option_map_or (λ g. not (g == OPEN_GATE)) byte false

abbrev pub is_open_at : ℕ → List ℕ → Bool
is_open_at p file = shows_open (slice_get file p)

abbrev pub is_closed_at : ℕ → List ℕ → Bool
is_closed_at p file = shows_closed (slice_get file p)

-- ---- writing

-- format 2 has digests
abbrev pub has_digests : Layout → Bool
has_digests l = l.format == 2

-- the digest of a record, of its gate's place and its body; format 1 has none
abbrev pub record_digest : Layout → ℕ → List ℕ → List ℕ
record_digest l p body = if has_digests l then sha256 (to_le_bytes w64 p ++ body) else []

-- length, digest, body and the next gate
abbrev pub laid : Layout → ℕ → List ℕ → List ℕ
laid l p body = to_le_bytes w32 (length body) ++ record_digest l p body ++ body ++ CLOSED_GATE ∷ []

-- from a gate to the body behind it
abbrev pub body_offset : Layout → ℕ
body_offset l = if has_digests l then 37 else 5

-- from a gate to the next
abbrev pub record_size : Layout → List ℕ → ℕ
record_size l body = body_offset l + length body

abbrev pub records : Layout → ℕ → List (List ℕ) → List ℕ
records l p [] = CLOSED_GATE ∷ []
records l p (body ∷ bodies) =
    OPEN_GATE ∷ to_le_bytes w32 (length body) ++ record_digest l p body ++ body ++ records l (p + record_size l body) bodies

-- the place behind records of these bodies from gate p on
abbrev pub place_after : Layout → ℕ → List (List ℕ) → ℕ
place_after l p [] = p
place_after l p (body ∷ bodies) = place_after l (p + record_size l body) bodies

-- ---- reading

-- how the records end: at a closed gate, or at one that is damaged
pub data End : Type 0 where
  at_closed : End
  at_damaged : End

-- the bodies before a gate, its place, and how it stands
pub record Scan : Type 0 where
  pub bodies : List (List ℕ)
  pub place : ℕ
  pub end : End

-- nothing before this gate
abbrev pub ends : ℕ → End → Scan
ends p how = record { bodies = []; place = p; end = how }

abbrev pub with_body : List ℕ → Scan → Scan
with_body body s = record s { bodies = body ∷ s.bodies }

-- the length that the record behind a gate tells
abbrev pub told_length : List ℕ → ℕ
told_length behind = from_le_bytes w32 (take 4 behind)

-- the body behind a gate, where the bytes are as long as told
abbrev pub body_behind : Layout → List ℕ → List ℕ
body_behind l behind = take (told_length behind) (drop (body_offset l) (OPEN_GATE ∷ behind))

-- the digest behind a gate, where the format has one
abbrev pub digest_behind : Layout → List ℕ → List ℕ
digest_behind l behind = if has_digests l then take 32 (drop 4 behind) else []

-- The record behind gate p is whole, not too long and has its digest. A length that is cut short is told shorter or as zeros would tell it, and then the record is not whole.
abbrev pub is_record : Layout → ℕ → List ℕ → Bool
is_record l p behind =
    nat_le (body_offset l + told_length behind) (1 + length behind)
    && nat_le (told_length behind) (body_most l.profile)
    && bytes_eq (digest_behind l behind) (record_digest l p (body_behind l behind))

-- From gate p on, over at most k gates: a closed gate ends the records, and so does the end of the file, a record that is cut short, too long or has another digest.
abbrev pub scanned_by : ℕ → Layout → ℕ → List ℕ → Scan
scanned_by zero l p bytes = ends p at_damaged
scanned_by (suc k) l p [] = ends p at_damaged
scanned_by (suc k) l p (gate ∷ behind) =
    if not (gate == OPEN_GATE) then ends p at_closed
    else if not (is_record l p behind) then ends p at_damaged
    else with_body (body_behind l behind) (scanned_by k l (p + record_size l (body_behind l behind)) (drop (record_size l (body_behind l behind)) (gate ∷ behind)))

-- each record takes a byte at least, so there are enough gates to go
abbrev pub scanned : Layout → ℕ → List ℕ → Scan
scanned l p bytes = scanned_by (length bytes + 1) l p bytes

-- the scan of a file from a place on
abbrev pub scanned_at : Layout → ℕ → List ℕ → Scan
scanned_at l p file = scanned l p (drop p file)

-- a record that counts no digest, in the first format
abbrev pub first_layout : Layout
first_layout = record { format = 1; profile = Narrow }

-- the bytes are those of a laid record of a body of this length
abbrev pub IsLaid : ℕ → List ℕ → Type 0
IsLaid n bytes = (body : List ℕ) × (length body ≡ n) × (bytes ≡ laid first_layout 0 body)
