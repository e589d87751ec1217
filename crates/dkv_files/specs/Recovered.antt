-- What two files stand for.
--     recovered_by k write_of a b      a base, commits, id, secret and layout; or no database; or a damaged file and a place
--     Stands, IsBeside, Rests      the header of a file stands; beside the other it is used; it reads as this up to this gate
--     is_worn f      too many commits to open a term on
use Rattle.std.specs.Prelude.{◌≡◌, ◌⊎◌, ◌<◌, IsTrue, false, ℕ, ◌+◌, ◌^◌, Bool, not, ◌&&◌, ◌||◌, nat_le, nat_lt, ◌==◌, if◌then◌else◌, List, [], ◌∷◌, ◌++◌, length, slice_range, Option, Some, None, option_map, unwrap_or, Result, Ok, Err, bytes_eq}
use Rattle.std.specs.Bool.{then_some}
use Rattle.std.specs.Option.{option_map_or, option_and_then}
use Rattle.std.specs.List.{list_all}
use Rattle.dkv_base.specs.declared.types.Commit.{Commit}
use Rattle.dkv_base.specs.declared.types.Entry.{Entry}
use Rattle.dkv_base.specs.declared.types.Message.{Message}
use Rattle.dkv_base.specs.Limits.{first_some}
use Rattle.dkv_base.specs.State.{State}
use Rattle.dkv_base.specs.After.{after, is_legal_in_at}
use Rattle.dkv_base.specs.declared.types.Layout.{Layout}
use Rattle.dkv_base.specs.declared.types.Profile.{Profile}
use Rattle.dkv_base.specs.Profiles.{Known, known_first}
use Rattle.dkv_record.specs.Records.{WriteOf, commit_of}
use Rattle.dkv_journal.specs.Records.{End, at_closed, at_damaged, scanned_at, record_size}
use Rattle.dkv_image.specs.Image.{image_of}
use Rattle.dkv_files.specs.Files.{is_open, head_fault, number_fault, image_length, generation_of, id_of, secret_of, layout_of, bounds_of, number_of, moment_in, image_end, first_gate, front_digest}

-- ---- records

abbrev pub if_legal : Profile → State → Commit → Option Commit
if_legal p s c = if is_legal_in_at p s c then Some c else None

-- the body's commit, where it may be made after those before
abbrev pub next_commit : WriteOf → Profile → State → List Commit → List ℕ → Option Commit
next_commit write_of p base before body = option_and_then (if_legal p (after base before)) (commit_of write_of body)

-- the commits of the bodies from gate p on, behind those before; or the gate of the first that is no commit or may not be made
abbrev pub replayed : WriteOf → Layout → State → List Commit → ℕ → List (List ℕ) → Result (List Commit) ℕ
replayed write_of l base before p [] = Ok before
replayed write_of l base before p (body ∷ bodies) =
    option_map_or (λ c. replayed write_of l base (before ++ c ∷ []) (p + record_size l body) bodies) (next_commit write_of l.profile base before body) (Err p)

-- all of them, where the records end at a closed gate
abbrev pub settled : End → ℕ → Result (List Commit) ℕ → Result (List Commit) ℕ
settled how p (Err place) = Err place
settled at_closed p (Ok cs) = Ok cs
settled at_damaged p (Ok cs) = Err p

-- the commits of the records of a file from gate p on, or the first gate that is damaged
abbrev pub commits_in : WriteOf → Layout → State → ℕ → List ℕ → Result (List Commit) ℕ
commits_in write_of l base p file =
    let s = scanned_at l p file in
    settled s.end s.place (replayed write_of l base [] p s.bodies)

-- ---- the used file

pub record Found : Type 0 where
  pub base : State
  pub commits : List Commit
  pub id : List ℕ
  pub secret : List ℕ
  pub layout : Layout

pub data Recovery : Type 0 where
  found : Found → Recovery
  no_database : Recovery
  -- the file, 0 or 1, and the place
  damaged : ℕ → ℕ → Recovery

abbrev pub base_of : List ℕ → List Entry → List Message → State
base_of file es ms = record { number = number_of file; moment = moment_in file; entries = es; messages = ms }

abbrev pub from_records : ℕ → List ℕ → State → Result (List Commit) ℕ → Recovery
from_records which file base (Err place) = damaged which place
from_records which file base (Ok cs) = found (record { base = base; commits = cs; id = id_of file; secret = secret_of file; layout = layout_of file })

-- places in the image are counted from its start
abbrev pub from_image : WriteOf → ℕ → List ℕ → Result (List Entry × List Message) ℕ → Recovery
from_image write_of which file (Err at) = damaged which (96 + at)
from_image write_of which file (Ok x) = from_records which file (base_of file x.0 x.1) (commits_in write_of (layout_of file) (base_of file x.0 x.1) (first_gate file) file)

-- what stands behind the image is the digest of header and image, or in format 1 nothing
abbrev pub has_its_digest : List ℕ → Bool
has_its_digest file = bytes_eq (slice_range file (image_end file) (first_gate file)) (front_digest (layout_of file) (slice_range file 1 (image_end file)))

-- a file whose header stands: its digest, its image, its records
abbrev pub from_file : WriteOf → ℕ → List ℕ → Recovery
from_file write_of which file =
    if not (has_its_digest file) then damaged which (image_end file)
    else from_image write_of which file (image_of (bounds_of file) (slice_range file 96 (image_end file)))

-- ---- both files

-- the first place that doesn't stand in the header of an open file
abbrev pub open_fault : Known → List ℕ → Option ℕ
open_fault k file = if is_open file then head_fault k file else None

-- file 0 before file 1, and the headers before all else
abbrev pub refused : Known → List ℕ → List ℕ → Option Recovery
refused k a b = first_some (
    option_map (damaged 0) (open_fault k a)
    ∷ option_map (damaged 1) (open_fault k b)
    ∷ then_some (not (is_open a || is_open b)) no_database
    ∷ then_some (is_open a && is_open b && (generation_of a == generation_of b)) (damaged 1 16)
    ∷ [])

-- file 1 is used where it is open and file 0 isn't, or has the lower generation
abbrev pub uses_second : List ℕ → List ℕ → Bool
uses_second a b = is_open b && (not (is_open a) || nat_lt (generation_of a) (generation_of b))

abbrev pub recovered_by : Known → WriteOf → List ℕ → List ℕ → Recovery
recovered_by k write_of a b = unwrap_or (refused k a b) (if uses_second a b then from_file write_of 1 b else from_file write_of 0 a)

-- with the layouts that are read so far
abbrev pub recovered : WriteOf → List ℕ → List ℕ → Recovery
recovered write_of a b = recovered_by known_first write_of a b

abbrev pub is_worn : Found → Bool
is_worn f = nat_le (2 ^ 62) (f.base.number + length f.commits)

-- ---- what a store keeps beside the answer

abbrev pub used_file : List ℕ → List ℕ → List ℕ
used_file a b = if uses_second a b then b else a

-- the closed gate behind the last record of a file that recovers
abbrev pub last_gate : List ℕ → ℕ
last_gate file = (scanned_at (layout_of file) (first_gate file) file).place

-- an open file whose header stands
abbrev pub Stands : Known → List ℕ → Type 0
Stands k file = IsTrue (is_open file) × (open_fault k file ≡ None)

-- the other file isn't open, or its header stands and it has the lower generation
abbrev pub IsBeside : Known → List ℕ → List ℕ → Type 0
IsBeside k used other = (is_open other ≡ false) ⊎ (Stands k other × (generation_of other < generation_of used))

-- a file that reads as this, with its last gate, a closed one, at p
pub record Rests (k : Known) (write_of : WriteOf) (which : ℕ) (r : Found) (p : ℕ) (file : List ℕ) : Type 0 where
  pub stands : Stands k file
  pub read : from_file write_of which file ≡ found r
  pub gate : last_gate file ≡ p

-- ---- while file 0 alone is read, and only with an empty image

-- the answer of opening, or the place of what isn't built yet
abbrev pub FirstOpening : Type 0
FirstOpening = Result Recovery ℕ

-- the number, the moment and the image are zeros
abbrev pub is_new : List ℕ → Bool
is_new file = list_all (λ byte. byte == 0) (slice_range file 80 112)

abbrev pub first_opening : WriteOf → List ℕ → List ℕ → FirstOpening
first_opening write_of a b = unwrap_or (first_some (
    option_map (λ place. Ok (damaged 0 place)) (if is_open a then number_fault known_first a else None)
    ∷ then_some (is_open b) (Err 0)
    ∷ then_some (not (is_open a)) (Ok no_database)
    ∷ then_some (not (image_length a == 16)) (Err 72)
    ∷ then_some (nat_lt (length a) 113) (Ok (damaged 0 72))
    ∷ then_some (not (is_new a)) (Err 80)
    ∷ [])) (Ok (recovered write_of a b))
