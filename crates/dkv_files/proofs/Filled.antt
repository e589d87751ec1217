-- What is written behind the gate of a cleared file.
use Rattle.std.proofs.Common.{◌≡◌, inl, inr, refl, sym, ◌∙◌, ap, subst, ℕ, ◌+◌, ◌-◌, ◌^◌, ◌<◌, List, [], ◌∷◌, ◌++◌, length, take, drop, Option, Some, OnOk, Ok, Err, Result, arith, length-append}
use Rattle.std.specs.Prelude.{min, IsTrue}
use Rattle.std.specs.Int.{w32, w64, to_le_bytes}
use Rattle.std.proofs.lemmas.List.{append-nil, take_all, drop_all}
use Rattle.dkv_base.specs.Profiles.{profile_number}
use Rattle.dkv_base.specs.declared.types.Entry.{Entry}
use Rattle.dkv_base.specs.declared.types.Message.{Message}
use Rattle.dkv_io.specs.Disks.{Holds, FromStart, LeavesOnly, AtRest, IsShort}
use Rattle.dkv_io.proofs.Moments.{weaker}
use Rattle.dkv_image.specs.Image.{image}
use Rattle.dkv_image_io.specs.Writing.{KeepsFront, Writes}
use Rattle.dkv_journal.specs.Crashes.{EachImage}
use Rattle.dkv_journal.specs.declared.gates.TheConstants.{OPEN_GATE, CLOSED_GATE}
use Rattle.dkv_journal.specs.Records.{first_layout, is_closed_at}
use Rattle.dkv_files.specs.declared.head.FileHead.{FileHead}
use Rattle.dkv_files.specs.Crashes.{FillLeaves, WholeLeaves, IsWritten, cleared}
use Rattle.dkv_files.specs.Files.{mark, head_bytes, filled, with_open_gate}
use Rattle.dkv_files.specs.Creating.{new_head}
use Rattle.dkv_files.specs.Filling.{behind_gate, whole_file}

-- bytes that are written where a file ends
pub at_end : (at : ℕ) (file bytes new : List ℕ) → length file ≡ at → Holds at bytes file new → new ≡ file ++ bytes
at_end at file bytes new long is =
    is
    ∙ ap (λ (l : List ℕ). l ++ bytes ++ drop (at + length bytes) file) (take_all at file (omega (arith, long)))
    ∙ ap (λ (l : List ℕ). file ++ bytes ++ l) (drop_all (at + length bytes) file (omega (arith, long)))
    ∙ append-nil (file ++ bytes)

-- what begins as a cleared file has a closed gate
shut_front : (x : List ℕ) → take 1 x ≡ 0 ∷ [] → FillLeaves x
shut_front [] is = absurd (cc is)
shut_front (g ∷ x) is =
    let first : g ≡ 0 = ap (λ (l : List ℕ). head_or l) is in
    subst (λ (n : ℕ). IsTrue (is_closed_at 0 (n ∷ x))) (sym first) refl
  where
    head_or : List ℕ → ℕ
    head_or [] = 0
    head_or (n ∷ l) = n

pub fill_leaves : (start : List ℕ → Type 0) → ((x : List ℕ) → start x → x ≡ cleared) → (x : List ℕ) → FromStart start KeepsFront x → FillLeaves x
fill_leaves start only x from = shut_front x (from.2 ∙ ap (λ (l : List ℕ). take 1 l) (only from.0 from.1))

-- ---- the header

pub head_long : (head : FileHead) (m : ℕ) → length head.id ≡ 16 → length head.secret ≡ 32 → length (head_bytes first_layout head m) ≡ 95
head_long head m id secret =
    let start = mark ++ to_le_bytes w32 1 ++ to_le_bytes w32 (profile_number first_layout.profile) ++ to_le_bytes w64 head.generation in
    omega (
      arith,
      id,
      secret,
      length-append (start ++ head.id ++ head.secret ++ to_le_bytes w64 m ++ to_le_bytes w64 head.n) (to_le_bytes w64 head.now),
      length-append (start ++ head.id ++ head.secret ++ to_le_bytes w64 m) (to_le_bytes w64 head.n),
      length-append (start ++ head.id ++ head.secret) (to_le_bytes w64 m),
      length-append (start ++ head.id) head.secret,
      length-append start head.id,
    )

-- ---- the file

module _ (front : List ℕ) (es : List Entry) (ms : List Message) (long : length front ≡ 95) where
  abbrev img : List ℕ
  img = image es ms

  -- after each of the three writes
  pub front_stands : (file new : List ℕ) → file ≡ cleared → Holds 1 front file new → new ≡ CLOSED_GATE ∷ front
  front_stands file new was is = at_end 1 file front new (ap length was) is ∙ ap (λ (l : List ℕ). l ++ front) was

  pub image_stands : (file new : List ℕ) → file ≡ CLOSED_GATE ∷ front → Holds 96 img file new → new ≡ CLOSED_GATE ∷ front ++ img
  image_stands file new was is =
      let here : length file ≡ 96 = omega (arith, long, ap length was) in
      at_end 96 file img new here is ∙ ap (λ (l : List ℕ). l ++ img) was

  -- how long it is then
  pub image_behind : (file : List ℕ) → file ≡ CLOSED_GATE ∷ front ++ img → length file ≡ 96 + length img
  image_behind file was = omega (arith, long, ap length was, length-append (CLOSED_GATE ∷ front) img)

  pub gate_stands : (place : ℕ) (file : List ℕ) → file ≡ CLOSED_GATE ∷ front ++ img → place ≡ 96 + length img
      → take place file ++ (CLOSED_GATE ∷ []) ++ drop (place + 1) file ≡ CLOSED_GATE ∷ behind_gate front es ms
  gate_stands place file was is =
      at_end place file (CLOSED_GATE ∷ []) (take place file ++ (CLOSED_GATE ∷ []) ++ drop (place + 1) file) (image_behind file was ∙ sym is) refl
      ∙ ap (λ (l : List ℕ). l ++ (CLOSED_GATE ∷ [])) was

  -- the whole of it
  pub behind_long : length (CLOSED_GATE ∷ behind_gate front es ms) ≡ 97 + length img
  behind_long = omega (arith, long, length-append (CLOSED_GATE ∷ front ++ img) (CLOSED_GATE ∷ []), length-append (CLOSED_GATE ∷ front) img)

-- where a disk may have its length, it is what a fill is to leave
pub is_filled : (head : FileHead) (es : List Entry) (ms : List Message) (front : List ℕ) (m : ℕ) → length head.id ≡ 16 → length head.secret ≡ 32 → front ≡ head_bytes first_layout head m
    → m ≡ min (2 ^ 64 - 1) (length (image es ms)) → length (CLOSED_GATE ∷ behind_gate front es ms) < 2 ^ 63
    → CLOSED_GATE ∷ behind_gate front es ms ≡ filled first_layout head es ms
is_filled head es ms front m id secret is counted short =
    let long : length front ≡ 95 = ap length is ∙ head_long head m id secret in
    let same : m ≡ length (image es ms) = omega (arith, counted, short, behind_long front es ms long) in
    let one = CLOSED_GATE ∷ head_bytes first_layout head (length (image es ms)) ++ image es ms in
    ap (λ (l : List ℕ). CLOSED_GATE ∷ l ++ image es ms ++ CLOSED_GATE ∷ []) (is ∙ ap (λ (n : ℕ). head_bytes first_layout head n) same)
    ∙ ap (λ (l : List ℕ). l ++ CLOSED_GATE ∷ []) (sym (append-nil one))

-- of no entry and no message
pub new_filled : (id secret front : List ℕ) → length id ≡ 16 → length secret ≡ 32 → front ≡ head_bytes first_layout (new_head id secret) 16
    → CLOSED_GATE ∷ behind_gate front [] [] ≡ filled first_layout (new_head id secret) [] []
new_filled id secret front long_id long_secret is =
    let long : length front ≡ 95 = ap length is ∙ head_long (new_head id secret) 16 long_id long_secret in
    is_filled (new_head id secret) [] [] front 16 long_id long_secret is refl (omega (arith, behind_long front [] [] long))

-- ---- the images

module _ {D : Type 0} (seen : D → Option (List ℕ)) (images : D → List ℕ → Type 0) (moment : D → ℕ) (since : D → ℕ → List ℕ → Type 0) (faults : D → ℕ) where
  -- calls that write behind the gate of a cleared file leave it closed
  pub leaves_shut : (old new : D) (file : List ℕ) → seen old ≡ Some file → EachImage (seen old) (images old) (λ x. x ≡ cleared) → Writes seen images moment since faults 1 old new
      → LeavesOnly moment since old new FillLeaves
  leaves_shut old new file told only writes =
      weaker moment since old new (FromStart (images old) KeepsFront) FillLeaves (fill_leaves (images old) (only file told)) (writes.leaves (omega arith))

-- ---- of a header that is spelled

module _ (head : FileHead) (es : List Entry) (ms : List Message) (front : List ℕ) (m : ℕ) (id : length head.id ≡ 16) (secret : length head.secret ≡ 32) (is : front ≡ head_bytes first_layout head m)
    (counted : m ≡ min (2 ^ 64 - 1) (length (image es ms))) (images : List ℕ → Type 0) where
  pub spelled_long : length front ≡ 95
  spelled_long = ap length is ∙ head_long head m id secret

  filled_is : length (CLOSED_GATE ∷ behind_gate front es ms) < 2 ^ 63 → CLOSED_GATE ∷ behind_gate front es ms ≡ filled first_layout head es ms
  filled_is short = is_filled head es ms front m id secret is counted short

  short_of : (seen : Option (List ℕ)) (file : List ℕ) → seen ≡ Some file → IsShort seen → length file < 2 ^ 63
  short_of seen file told short = subst IsShort told short

  pub rests_filled : (seen : Option (List ℕ)) → IsShort seen → AtRest seen images (CLOSED_GATE ∷ behind_gate front es ms) → AtRest seen images (filled first_layout head es ms)
  rests_filled seen short rests = subst (AtRest seen images) (filled_is (short_of seen (CLOSED_GATE ∷ behind_gate front es ms) rests.told short)) rests

  pub rests_whole : (seen : Option (List ℕ)) → IsShort seen → AtRest seen images (OPEN_GATE ∷ behind_gate front es ms) → AtRest seen images (whole_file head es ms)
  rests_whole seen short rests =
      subst (AtRest seen images) (ap (λ (l : List ℕ). with_open_gate l) (filled_is (short_of seen (OPEN_GATE ∷ behind_gate front es ms) rests.told short))) rests

  pub leaves_whole : (x : List ℕ) → WholeLeaves images (OPEN_GATE ∷ behind_gate front es ms) x → WholeLeaves images (whole_file head es ms) x
  leaves_whole x (inl was) = inl was
  leaves_whole x (inr (inl shut)) = inr (inl shut)
  leaves_whole x (inr (inr written)) =
      let same : OPEN_GATE ∷ behind_gate front es ms ≡ whole_file head es ms = ap (λ (l : List ℕ). with_open_gate l) (filled_is written.1) in
      inr (inr (subst (λ (l : List ℕ). IsWritten l x) same written))

pub on_ok_of : {T E : Type 0} (r : Result T E) (P Q : Type 0) → OnOk r P → (P → Q) → OnOk r Q
on_ok_of (Ok x) P Q has so = so has
on_ok_of (Err e) P Q has so = tt
