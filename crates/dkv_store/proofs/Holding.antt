-- What the images of a store's files recover to.
use Rattle.std.proofs.Common.{◌≡◌, inl, inr, ⊎_elim, sym, ◌∙◌, ap, subst, ℕ, ◌<◌, ◌≤◌, ◌+◌, Bool, true, false, not, ◌&&◌, if◌then◌else◌, List, [], ◌∷◌, ◌++◌, take, slice_range, Result, Ok, Err}
use Rattle.dkv_base.specs.declared.types.Entry.{Entry}
use Rattle.dkv_base.specs.declared.types.Message.{Message}
use Rattle.dkv_base.specs.declared.types.Commit.{Commit}
use Rattle.dkv_base.specs.declared.types.Layout.{Layout}
use Rattle.dkv_base.specs.State.{State}
use Rattle.dkv_base.specs.Sound.{IsSound}
use Rattle.dkv_base.specs.After.{after, is_legal, is_legal_in, is_legal_at}
use Rattle.dkv_base.specs.Profiles.{known_first, body_most}
use Rattle.dkv_base.specs.Spelling.{record_body, record_length}
use Rattle.dkv_base.proofs.Composes.{after_composes, legal_composes}
use Rattle.dkv_base.proofs.StaysSound.{after_is_sound}
use Rattle.dkv_base.proofs.AfterNothing.{after_nothing}
use Rattle.dkv_journal.specs.Crashes.{StaysShut, IsDoubted, Appended, HasRecord}
use Rattle.dkv_journal.specs.Records.{first_layout, record_size}
use Rattle.dkv_journal.proofs.Torn.{doubted_appended, next_shut}
use Rattle.dkv_msgs.specs.Readings.{reads_atomic_write}
use Rattle.dkv_image.specs.Image.{image_of}
use Rattle.dkv_files.specs.Files.{generation_of, image_end, bounds_of}
use Rattle.dkv_files.specs.Recovered.{Found, Recovery, found, damaged, from_file, from_image, from_records, has_its_digest, IsBeside, Rests}
use Rattle.dkv_files.specs.Crashes.{Identity, identity, IsState, IsOneOf, and_then}
use Rattle.dkv_store.specs.Held.{MayAdd, RestsAt, IsOther, read_in}
use Rattle.dkv_files.specs.Crashes.{read}
use Rattle.dkv_files.proofs.Used.{first, second}
use Rattle.dkv_files.proofs.Appends.{shut_rests, record_rests}

-- ---- states

module _ (base : State) (cs : List Commit) (c : Commit) (sound : IsSound base) (legal : is_legal base cs ≡ true) where
  there : IsSound (after base cs)
  there = after_is_sound base cs sound legal

  pub legal_more : is_legal_in (after base cs) c ≡ true → is_legal base (cs ++ c ∷ []) ≡ true
  legal_more is =
      let same = after_nothing (after base cs) there in
      legal_composes base cs (c ∷ []) sound
      ∙ ap (λ (v : Bool). v && is_legal (after base cs) (c ∷ [])) legal
      ∙ ap (λ (s : State). is_legal_in s c && true) same
      ∙ ap (λ (v : Bool). v && true) is

  pub after_more : is_legal_in (after base cs) c ≡ true → after base (cs ++ c ∷ []) ≡ and_then (after base cs) c
  after_more is = after_composes base cs (c ∷ []) sound (legal_more is)

-- ---- one file

-- what is found in a file is found there whichever of the two it is
module _ (which : ℕ) (x : List ℕ) (f : Found) where
  as_records : (base : State) (r : Result (List Commit) ℕ) → from_records 0 x base r ≡ found f → from_records which x base r ≡ found f
  as_records base (Err place) is = absurd (cc is)
  as_records base (Ok cs) is = is

  as_image : (r : Result (List Entry × List Message) ℕ) → from_image reads_atomic_write 0 x r ≡ found f → from_image reads_atomic_write which x r ≡ found f
  as_image (Err at) is = absurd (cc is)
  as_image (Ok rows) is = as_records _ _ is

  pub found_as : from_file reads_atomic_write 0 x ≡ found f → from_file reads_atomic_write which x ≡ found f
  found_as = elim (not (has_its_digest x)) as (λ (bad : Bool).
      (if bad then damaged 0 (image_end x) else from_image reads_atomic_write 0 x (image_of (bounds_of x) (slice_range x 96 (image_end x)))) ≡ found f
      → (if bad then damaged which (image_end x) else from_image reads_atomic_write which x (image_of (bounds_of x) (slice_range x 96 (image_end x)))) ≡ found f) [
        | true ↦ λ is. absurd (cc is)
        | false ↦ λ is. as_image _ is
      ]

module _ (f : Found) (generation p : ℕ) where
  abbrev w : List ℕ → Type 0
  w x = RestsAt f generation p x

  pub shut_at : (d x : List ℕ) → RestsAt f generation p d → StaysShut p d x → RestsAt f generation p x
  shut_at d x at shut = let is = shut_rests known_first reads_atomic_write 0 d x f p at.rests shut in record { rests = is.0; numbered = is.1 ∙ at.numbered; shut = shut.gate }

  -- what it recovers to beside the other file
  module _ (s : State) (who : Identity) (x y : List ℕ) (at : RestsAt f generation p x) (other : IsOther generation y) (state : after f.base f.commits ≡ s) (same : identity f ≡ who) where
    beside : IsBeside known_first x y
    beside = ⊎_elim (λ shut. inl shut) (λ lower. inr (lower.0, subst (λ (n : ℕ). generation_of y < n) (sym at.numbered) lower.1)) other

    pub is_state : (v : Bool) → IsState (read_in v x y) s who
    is_state false = subst (λ (r : Recovery). IsState r s who) (sym (first known_first reads_atomic_write x y at.rests.stands beside ∙ at.rests.read)) (state, same)
    is_state true =
        subst (λ (r : Recovery). IsState r s who) (sym (second known_first reads_atomic_write y x at.rests.stands beside ∙ found_as 1 x f at.rests.read)) (state, same)

-- with one commit more
abbrev pub grown : Found → Commit → Found
grown f c = record f { commits = f.commits ++ c ∷ [] }

module _ (f : Found) (generation p : ℕ) (c : Commit) (s : State) (sound : IsSound f.base) (legal : is_legal f.base f.commits ≡ true)
    (layout : f.layout ≡ first_layout) (state : after f.base f.commits ≡ s) (may : MayAdd s c) where
  may_legal : is_legal_in (after f.base f.commits) c ≡ true
  may_legal = ap (λ (x : State). is_legal_in x c) state ∙ may.legal

  pub legal_grown : is_legal f.base (f.commits ++ c ∷ []) ≡ true
  legal_grown = legal_more f.base f.commits c sound legal may_legal

  legal_at : is_legal_at f.layout.profile f.base (f.commits ++ c ∷ []) ≡ true
  legal_at = ap (λ (l : Layout). is_legal_at l.profile f.base (f.commits ++ c ∷ [])) layout ∙ legal_grown

  short_at : record_length c ≤ body_most f.layout.profile
  short_at = subst (λ (l : Layout). record_length c ≤ body_most l.profile) (sym layout) may.short

  pub state_grown : after f.base (f.commits ++ c ∷ []) ≡ and_then s c
  state_grown = after_more f.base f.commits c sound legal may_legal ∙ ap (λ (x : State). and_then x c) state

  pub record_at : (d x : List ℕ) → RestsAt f generation p d → take p x ≡ take p d → HasRecord first_layout p (record_body c) x
      → RestsAt (grown f c) generation (p + record_size first_layout (record_body c)) x
  record_at d x at before has =
      let is = record_rests known_first reads_atomic_write 0 d x f p c at.rests may.back legal_at short_at before (subst (λ (l : Layout). HasRecord l p (record_body c) x) (sym layout) has) in
      record {
        rests = subst (λ (l : Layout). Rests known_first reads_atomic_write 0 (grown f c) (p + record_size l (record_body c)) x) layout is.0;
        numbered = is.1 ∙ at.numbered;
        shut = next_shut first_layout p (record_body c) x has;
      }

  -- a closed gate, or the record
  pub one_of_both : (v : Bool) (who : Identity) (d x y : List ℕ) → RestsAt f generation p d → Appended first_layout p (record_body c) d x → IsOther generation y → identity f ≡ who
      → IsOneOf (read_in v x y) (s ∷ and_then s c ∷ []) who
  one_of_both v who d x y at made other same = elim made.gate [
    | inl shut ↦ inl (is_state f generation p s who x y (shut_at f generation p d x at (record { before = made.before; gate = shut })) other state same v)
    | inr has ↦ inr (inl (is_state (grown f c) generation (p + record_size first_layout (record_body c)) (and_then s c) who x y (record_at d x at made.before has) other state_grown same v))
  ]

  pub doubt_is : (v : Bool) (who : Identity) (d x y : List ℕ) → RestsAt f generation p d → IsDoubted first_layout p (record_body c) d x → IsOther generation y → identity f ≡ who
      → IsOneOf (read_in v x y) (s ∷ and_then s c ∷ []) who
  doubt_is v who d x y at doubt other same = one_of_both v who d x y at (doubted_appended first_layout p (record_body c) d x doubt) other same
