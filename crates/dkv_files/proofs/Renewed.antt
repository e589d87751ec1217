-- A whole file is read as its image, also beside an older one.
use Rattle.std.proofs.Common.{◌≡◌, inl, inr, refl, sym, ◌∙◌, ap, subst, ℕ, ◌+◌, ◌^◌, ◌<◌, true, false, List, [], ◌∷◌, ◌++◌, length, Option, arith, length-append}
use Rattle.std.proofs.lemmas.List.{append-nil}
use Rattle.dkv_base.specs.Profiles.{known_first}
use Rattle.dkv_io.specs.Disks.{AtRest, IsShort}
use Rattle.dkv_base.specs.After.{after}
use Rattle.dkv_base.specs.State.{State}
use Rattle.dkv_base.proofs.AfterNothing.{after_nothing}
use Rattle.dkv_image.proofs.Sound.{image_is_sound}
use Rattle.dkv_base.specs.declared.types.Entry.{Entry}
use Rattle.dkv_base.specs.declared.types.Message.{Message}
use Rattle.dkv_msgs.specs.Readings.{reads_atomic_write}
use Rattle.dkv_record.proofs.Fitting.{reads_writes}
use Rattle.dkv_journal.specs.Records.{Scan, first_layout, scanned_at}
use Rattle.dkv_journal.specs.declared.gates.TheConstants.{OPEN_GATE, CLOSED_GATE}
use Rattle.dkv_image.specs.Image.{image, is_image, FitsImage}
use Rattle.dkv_image_io.specs.Reading.{narrow}
use Rattle.dkv_files.specs.declared.head.FileHead.{FileHead}
use Rattle.dkv_files.specs.Crashes.{IsHead, IsState, IsOneOf, IsBase, IsCheckpointed, WholeLeaves, read}
use Rattle.dkv_files.specs.Files.{file_of, before_records, front, head_bytes, generation_of, filled}
use Rattle.dkv_files.specs.Filling.{whole_file}
use Rattle.dkv_files.specs.Laws.{IsFile, state_of, found_of}
use Rattle.dkv_files.specs.Recovered.{Recovery, Rests, found, last_gate}
use Rattle.dkv_files.specs.Renewing.{IsWhole, WholeRests, IsOlder, MayRenew, identity_in}
use Rattle.dkv_files.proofs.Used as used
use Rattle.dkv_files.proofs.Written as written

is_file : (head : FileHead) (es : List Entry) (ms : List Message) → IsWhole head es ms → IsFile known_first first_layout head es ms []
is_file head es ms w = record {
  format = refl;
  profile = refl;
  numbers = w.numbers;
  id = w.id;
  secret = w.secret;
  stands = w.stands;
  fits = w.fits;
  long = w.short;
  legal = refl;
  commits = tt;
  bodies = tt;
}

module _ (head : FileHead) (es : List Entry) (ms : List Message) (w : IsWhole head es ms) where
  abbrev fit : IsFile known_first first_layout head es ms []
  fit = is_file head es ms w

  abbrev bare : List ℕ
  bare = file_of first_layout OPEN_GATE head es ms []

  abbrev before : List ℕ
  before = before_records first_layout OPEN_GATE head es ms

  abbrev m : ℕ
  m = length (image es ms)

  place : length before ≡ 96 + m
  place = omega (arith, written.long_front known_first first_layout head es ms [] [] fit, length-append (OPEN_GATE ∷ front first_layout head es ms) [])

  last : last_gate (bare ++ []) ≡ 96 + m
  last =
      (λ i. (scanned_at (written.layout_is known_first first_layout head es ms [] [] fit i) (written.gate_is known_first first_layout head es ms [] [] fit i) (bare ++ [])).place)
      ∙ ap (λ (s : Scan). s.place) (written.scan_is known_first first_layout head es ms [] [] fit)
      ∙ omega (arith, place)

  rests : (which : ℕ) → Rests known_first reads_atomic_write which (found_of first_layout head es ms []) (96 + m) (bare ++ []) × (generation_of (bare ++ []) ≡ head.generation)
  rests which = (
    record {
      stands = written.stands known_first first_layout head es ms [] [] fit;
      read = written.file_read known_first first_layout head es ms [] [] fit reads_atomic_write reads_writes which;
      gate = last;
    },
    written.generation_is known_first first_layout head es ms [] [] fit,
  )

pub whole_rests : WholeRests
whole_rests which head es ms w =
    let bare = file_of first_layout OPEN_GATE head es ms [] in
    subst (λ (x : List ℕ). Rests known_first reads_atomic_write which (found_of first_layout head es ms []) (96 + length (image es ms)) x × (generation_of x ≡ head.generation))
    (append-nil bare) (rests head es ms w which)

-- ---- beside an older file

module _ (head : FileHead) (es : List Entry) (ms : List Message) (w : IsWhole head es ms) (states : List State) where
  abbrev answer : Recovery
  answer = found (found_of first_layout head es ms [])

  second_is : (x y : List ℕ) → IsOlder 0 head states x → y ≡ whole_file head es ms → read x y ≡ answer
  second_is x y older is =
      let whole = whole_rests 1 head es ms w in
      let above : generation_of x < generation_of (whole_file head es ms) = omega (arith, older.lower, whole.1) in
      ap (λ (l : List ℕ). read x l) is ∙ used.second known_first reads_atomic_write x (whole_file head es ms) whole.0.stands (inr (older.stands, above)) ∙ whole.0.read

  first_is : (x y : List ℕ) → IsOlder 1 head states y → x ≡ whole_file head es ms → read x y ≡ answer
  first_is x y older is =
      let whole = whole_rests 0 head es ms w in
      let above : generation_of y < generation_of (whole_file head es ms) = omega (arith, older.lower, whole.1) in
      ap (λ (l : List ℕ). read l y) is ∙ used.first known_first reads_atomic_write (whole_file head es ms) y whole.0.stands (inr (older.stands, above)) ∙ whole.0.read

  same : after (state_of head es ms) [] ≡ state_of head es ms
  same = after_nothing (state_of head es ms) (image_is_sound (state_of head es ms) w.numbers.now w.stands)

  pub base_second : (x y : List ℕ) → IsOlder 0 head states x → y ≡ whole_file head es ms → IsBase (read x y) (state_of head es ms) (identity_in head)
  base_second x y older is = subst (λ (r : Recovery). IsBase r (state_of head es ms) (identity_in head)) (sym (second_is x y older is)) (refl, refl, refl)

  pub base_first : (x y : List ℕ) → IsOlder 1 head states y → x ≡ whole_file head es ms → IsBase (read x y) (state_of head es ms) (identity_in head)
  base_first x y older is = subst (λ (r : Recovery). IsBase r (state_of head es ms) (identity_in head)) (sym (first_is x y older is)) (refl, refl, refl)

  pub state_second : (x y : List ℕ) → IsOlder 0 head states x → y ≡ whole_file head es ms → IsState (read x y) (state_of head es ms) (identity_in head)
  state_second x y older is = subst (λ (r : Recovery). IsState r (state_of head es ms) (identity_in head)) (sym (second_is x y older is)) (same, refl)

  pub state_first : (x y : List ℕ) → IsOlder 1 head states y → x ≡ whole_file head es ms → IsState (read x y) (state_of head es ms) (identity_in head)
  state_first x y older is = subst (λ (r : Recovery). IsState r (state_of head es ms) (identity_in head)) (sym (first_is x y older is)) (same, refl)

-- what a file may be written of, where a disk may have its length
pub whole_of : (head : FileHead) (es : List Entry) (ms : List Message) → (length head.id ≡ 16) × (length head.secret ≡ 32) → IsHead head → is_image (narrow head.n head.now) es ms ≡ true → FitsImage es ms
    → length (whole_file head es ms) < 2 ^ 63 → IsWhole head es ms
whole_of head es ms sized numbers stands fits short = record {
  numbers = numbers;
  id = sized.0;
  secret = sized.1;
  stands = stands;
  fits = fits;
  short = omega (
    arith,
    short,
    length-append (before_records first_layout OPEN_GATE head es ms) (CLOSED_GATE ∷ []),
    length-append (OPEN_GATE ∷ front first_layout head es ms) [],
    length-append (OPEN_GATE ∷ head_bytes first_layout head (length (image es ms))) (image es ms),
  );
}

module _ (head : FileHead) (es : List Entry) (ms : List Message) (fits : FitsImage es ms) (numbers : IsHead head) (stands : is_image (narrow head.n head.now) es ms ≡ true) (sized : (length head.id ≡ 16) × (length head.secret ≡ 32))
    (more : List State) (a_images b_images : List ℕ → Type 0) where
  abbrev states : List State
  states = state_of head es ms ∷ more

  -- the second file while it is written anew
  pub leaves_second : MayRenew true a_images b_images head states → (x y : List ℕ) → a_images x → WholeLeaves b_images (whole_file head es ms) y → IsOneOf (read x y) states (identity_in head)
  leaves_second may x y has (inl was) = may.pairs x y has was
  leaves_second may x y has (inr (inl shut)) =
      let older = may.used x has in
      subst (λ (r : Recovery). IsOneOf r states (identity_in head)) (sym (used.first known_first reads_atomic_write x y older.stands (inl shut))) older.read
  leaves_second may x y has (inr (inr is)) = inl (state_second head es ms (whole_of head es ms sized numbers stands fits is.1) states x y (may.used x has) is.0)

  -- the first file
  pub leaves_first : MayRenew false a_images b_images head states → (x y : List ℕ) → b_images y → WholeLeaves a_images (whole_file head es ms) x → IsOneOf (read x y) states (identity_in head)
  leaves_first may x y has (inl was) = may.pairs x y was has
  leaves_first may x y has (inr (inl shut)) =
      let older = may.used y has in
      subst (λ (r : Recovery). IsOneOf r states (identity_in head)) (sym (used.second known_first reads_atomic_write x y older.stands (inl shut))) older.read
  leaves_first may x y has (inr (inr is)) = inl (state_first head es ms (whole_of head es ms sized numbers stands fits is.1) states x y (may.used y has) is.0)

  -- the second file at rest
  pub checkpointed_second : (seen : Option (List ℕ)) (b_now : List ℕ → Type 0) → IsShort seen → MayRenew true a_images b_images head states → AtRest seen b_now (whole_file head es ms)
      → IsCheckpointed read a_images b_now (state_of head es ms) (identity_in head)
  checkpointed_second seen b_now short may rests x y has now =
      base_second head es ms (whole_of head es ms sized numbers stands fits (subst IsShort rests.told short)) states x y (may.used x has) (rests.only y now)

  -- the first
  pub checkpointed_first : (seen : Option (List ℕ)) (a_now : List ℕ → Type 0) → IsShort seen → MayRenew false a_images b_images head states → AtRest seen a_now (whole_file head es ms)
      → IsCheckpointed read a_now b_images (state_of head es ms) (identity_in head)
  checkpointed_first seen a_now short may rests x y now has =
      base_first head es ms (whole_of head es ms sized numbers stands fits (subst IsShort rests.told short)) states x y (may.used y has) (rests.only x now)
