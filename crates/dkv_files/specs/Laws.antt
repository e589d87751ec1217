-- Laws of the files, as statements.
use Rattle.std.specs.Prelude.{ℕ, ◌≡◌, ◌^◌, ◌<◌, ◌≤◌, IsTrue, List, ◌++◌, length, take}
use Rattle.std.specs.List.{AllByRecursion}
use Rattle.dkv_base.specs.declared.types.Commit.{Commit}
use Rattle.dkv_base.specs.declared.types.Entry.{Entry}
use Rattle.dkv_base.specs.declared.types.Message.{Message}
use Rattle.dkv_base.specs.State.{State}
use Rattle.dkv_base.specs.After.{after, is_legal_at}
use Rattle.dkv_base.specs.Spelling.{record_length}
use Rattle.dkv_files.specs.Files.{file_of, head_of}
use Rattle.dkv_files.specs.declared.head.FileHead.{FileHead}
use Rattle.dkv_base.specs.declared.types.Layout.{Layout}
use Rattle.dkv_base.specs.declared.types.Profile.{Profile}
use Rattle.dkv_base.specs.Profiles.{Known, is_known_format, is_known_profile, profile_number, body_most}
use Rattle.dkv_record.specs.Records.{WriteOf}
use Rattle.dkv_record.specs.Laws.{ReadsWrites}
use Rattle.dkv_base.specs.Fits.{AreBytes, FitsCommit}
use Rattle.dkv_journal.specs.declared.gates.TheConstants.{OPEN_GATE}
use Rattle.dkv_journal.specs.Records.{is_closed_at}
use Rattle.dkv_image.specs.Image.{bounds, image, is_image, FitsImage, FitsEntry, FitsMessage}
use Rattle.dkv_files.specs.Recovered.{Found, found, recovered_by, from_file, last_gate, Stands, IsBeside}
use Rattle.dkv_files.specs.Crashes.{IsHead}

-- ---- states

-- the numbers of what legal commits lead to fit their fields
abbrev pub AfterFits : Type 0
AfterFits = (p : Profile) (base : State) (cs : List Commit) → IsTrue (is_image (bounds p base) base.entries base.messages) → IsTrue (is_legal_at p base cs)
    → AllByRecursion FitsEntry base.entries → AllByRecursion FitsMessage base.messages → AllByRecursion FitsCommit cs
    → AllByRecursion FitsEntry (after base cs).entries × AllByRecursion FitsMessage (after base cs).messages

-- ---- files

abbrev pub state_of : FileHead → List Entry → List Message → State
state_of head es ms = record { number = head.n; moment = head.now; entries = es; messages = ms }

-- what a file may be written of
pub record IsFile (k : Known) (l : Layout) (head : FileHead) (es : List Entry) (ms : List Message) (cs : List Commit) : Type 0 where
  pub format : IsTrue (is_known_format k l.format)
  pub profile : IsTrue (is_known_profile k (profile_number l.profile))
  pub numbers : IsHead head
  pub id : length head.id ≡ 16
  pub secret : length head.secret ≡ 32
  pub stands : IsTrue (is_image (bounds l.profile (state_of head es ms)) es ms)
  pub fits : FitsImage es ms
  pub long : length (image es ms) < 2 ^ 64
  pub legal : IsTrue (is_legal_at l.profile (state_of head es ms) cs)
  pub commits : AllByRecursion FitsCommit cs
  pub bodies : AllByRecursion (λ c. record_length c ≤ body_most l.profile) cs

abbrev pub found_of : Layout → FileHead → List Entry → List Message → List Commit → Found
found_of l head es ms cs = record { base = state_of head es ms; commits = cs; id = head.id; secret = head.secret; layout = l }

-- a written file stands and is read as what it was written of, whatever follows it
abbrev pub FileIsRead : Known → WriteOf → Type 0
FileIsRead k write_of = ReadsWrites write_of → (which : ℕ) (l : Layout) (head : FileHead) (es : List Entry) (ms : List Message) (cs : List Commit) (rest : List ℕ)
    → IsFile k l head es ms cs
    → Stands k (file_of l OPEN_GATE head es ms cs ++ rest)
    × (from_file write_of which (file_of l OPEN_GATE head es ms cs ++ rest) ≡ found (found_of l head es ms cs))

-- what is read as a base and commits is written of them up to its last gate
abbrev pub ReadIsFile : Known → WriteOf → Type 0
ReadIsFile k write_of = ReadsWrites write_of → (which : ℕ) (file : List ℕ) (r : Found) → AreBytes file → Stands k file → from_file write_of which file ≡ found r
    → IsFile k r.layout (head_of file) r.base.entries r.base.messages r.commits
    × (take (last_gate file) file ≡ take (last_gate file) (file_of r.layout OPEN_GATE (head_of file) r.base.entries r.base.messages r.commits))
    × IsTrue (is_closed_at (last_gate file) file)

abbrev pub FirstIsUsed : Known → WriteOf → Type 0
FirstIsUsed k write_of = (a b : List ℕ) → Stands k a → IsBeside k a b → recovered_by k write_of a b ≡ from_file write_of 0 a

abbrev pub SecondIsUsed : Known → WriteOf → Type 0
SecondIsUsed k write_of = (a b : List ℕ) → Stands k b → IsBeside k b a → recovered_by k write_of a b ≡ from_file write_of 1 b
