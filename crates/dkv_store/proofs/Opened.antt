-- A store that was opened stands on what its two files recover to.
use Rattle.std.proofs.Common.{◌≡◌, refl, sym, ◌∙◌, ap, subst, inl, ℕ, ◌+◌, ◌-◌, ◌≤◌, Bool, true, false, not, ◌&&◌, ◌||◌, ◌==◌, nat_lt, List, length, Option, None, Some, Ok, Err, Result, arith}
use Rattle.std.specs.Prelude.{IfOk, IfErr, OnOk, if◌then◌else◌}
use Rattle.std.proofs.lemmas.Bool.Decides.{nat_tests}
use Rattle.dkv_base.specs.declared.types.Commit.{Commit}
use Rattle.dkv_base.specs.declared.types.Profile.TheVariants.{Narrow}
use Rattle.dkv_base.specs.Profiles.{known_first}
use Rattle.dkv_base.specs.State.{State, empty_state}
use Rattle.dkv_base.proofs.StaysSound.{after_is_sound}
use Rattle.dkv_base.specs.Sound.{IsSound}
use Rattle.dkv_core.specs.Cores.{Database}
use Rattle.dkv_io.specs.Disks.{Only}
use Rattle.dkv_journal.specs.Records.{End, at_closed, at_damaged, first_layout, scanned_at, is_closed_at}
use Rattle.dkv_journal.specs.declared.journal.Journal.{Journal}
use Rattle.dkv_journal.proofs.Ends.{not_before, scan_closed, scan_place}
use Rattle.dkv_msgs.specs.Readings.{reads_atomic_write}
use Rattle.dkv_files.specs.declared.head.FileHead.{FileHead}
use Rattle.dkv_files.specs.Files.{is_open, first_gate, image_length, generation_of, id_of, secret_of, layout_of}
use Rattle.dkv_files.specs.Recovered.{Found, Recovery, found, damaged, from_file, from_records, last_gate, used_file, uses_second, settled, first_opening, FirstOpening}
use Rattle.dkv_files.specs.Crashes.{Identity, identity, read}
use Rattle.dkv_files.proofs.Plain.{layout_is, gate_is, header_stands, plain_read, is_plain}
use Rattle.dkv_files.proofs.Used.{first}
use Rattle.dkv_store.specs.declared.held.InUse.{InUse}
use Rattle.dkv_store.specs.Held.{Hold, Guarded, RestsAt, IsTold}
use Rattle.dkv_store.specs.Opening.{IsHeldIn, IsAfter, IsSeenA, IsSeenB, IsRead, Tells, plain, first_place, commits_of}
use Rattle.dkv_store.specs.Stores.{IsUnopened}
use Rattle.dkv_store.specs.declared.answers.OpenRefusal.{OpenRefusal}
use Rattle.dkv_store.specs.declared.answers.OpenRefusal.TheVariants as opening
use Rattle.dkv_store.specs.declared.looks.Looked.{Looked}
use Rattle.dkv_store.specs.declared.replay.Unmade.{Unmade}
use Rattle.dkv_store.proofs.Replaying.{empty_is_sound}

-- a core after commits of the new database is sound
pub made_is_sound : (cs : List Commit) (core : Database) → IsAfter cs core → IsSound core.state
made_is_sound cs core made = subst IsSound (sym made.state) (after_is_sound empty_state cs empty_is_sound made.legal)

closed_scan : (how : End) (p : ℕ) (r : Result (List Commit) ℕ) (cs : List Commit) → settled how p r ≡ Ok cs → how ≡ at_closed
closed_scan how p (Err place) cs is = absurd (cc is)
closed_scan at_closed p (Ok x) cs is = refl
closed_scan at_damaged p (Ok x) cs is = absurd (cc is)

module _ (fa : List ℕ) (head : FileHead) (core : Database) (journal : Journal) (held : IsHeldIn fa head core journal) where
  abbrev pub f : Found
  f = record { base = empty_state; commits = held.cs; id = id_of fa; secret = secret_of fa; layout = layout_of fa }

  abbrev who : Identity
  who = record { id = head.id; secret = head.secret; profile = Narrow }

  file_read : from_file reads_atomic_write 0 fa ≡ found f
  file_read = plain_read fa held.opened held.stands held.long held.image held.new 0 ∙ ap (λ (r : Result (List Commit) ℕ). from_records 0 fa empty_state r) held.commits

  layout : layout_of fa ≡ first_layout
  layout = layout_is fa held.opened held.stands held.long held.image held.new

  pub same_identity : identity f ≡ who
  same_identity i = record { id = sym (ap (λ (h : FileHead). h.id) held.is) i; secret = sym (ap (λ (h : FileHead). h.secret) held.is) i; profile = ap (λ l. l.profile) layout i }

  closed : is_closed_at journal.place fa ≡ true
  closed = ap (λ (p : ℕ). is_closed_at p fa) held.place ∙ scan_closed first_layout first_place fa (closed_scan _ _ _ held.cs held.commits)

  rests : RestsAt f (generation_of fa) journal.place fa
  rests = record {
    rests = record {
      stands = header_stands fa held.opened held.stands held.long held.image held.new;
      read = file_read;
      gate = (λ i. (scanned_at (layout i) (gate_is fa held.opened held.stands held.long held.image held.new i) fa).place) ∙ sym held.place;
    };
    numbered = refl;
    shut = closed;
  }

  pub holds : (a_images b_images : List ℕ → Type 0) → Only fa a_images → ((y : List ℕ) → b_images y → is_open y ≡ false) → journal.in_doubt ≡ false → Hold a_images b_images journal (record { second = false; generation = head.generation }) None core.state who
  holds a_images b_images only shut sure = record {
    found = f;
    sound = empty_is_sound;
    legal = held.made.legal;
    state = sym held.made.state;
    identity = same_identity;
    layout = layout;
    named = sure;
    doubted = tt;
    used = λ x now. subst (λ (n : ℕ). RestsAt f n journal.place x) (sym (ap (λ (h : FileHead). h.generation) held.is))
        (subst (λ (z : List ℕ). RestsAt f (generation_of fa) journal.place z) (sym (only x now)) rests);
    other = λ y now. inl (shut y now);
  }

  -- the first file is used
  pub first_used : (fb : List ℕ) → is_open fb ≡ false → (uses_second fa fb ≡ false) × (used_file fa fb ≡ fa)
  first_used fb shut = (
    ap (λ (v : Bool). v && (not (is_open fa) || nat_lt (generation_of fa) (generation_of fb))) shut,
    ap (λ (v : Bool). if v && (not (is_open fa) || nat_lt (generation_of fa) (generation_of fb)) then fb else fa) shut,
  )

  -- the generation of the used file
  pub generation_read : (fb : List ℕ) → is_open fb ≡ false → head.generation ≡ generation_of (used_file fa fb)
  generation_read fb shut = ap (λ (h : FileHead). h.generation) held.is ∙ ap generation_of (sym (first_used fb shut).1)

  -- the gate behind the records, which begin at the first
  pub bytes_read : (fb : List ℕ) (n : ℕ) → is_open fb ≡ false → n ≡ journal.place - first_place → last_gate (used_file fa fb) ≡ first_gate (used_file fa fb) + n
  bytes_read fb n shut is =
      let used = (first_used fb shut).1 in
      let gate : first_gate fa ≡ first_place = gate_is fa held.opened held.stands held.long held.image held.new in
      let at : last_gate fa ≡ journal.place = rests.rests.gate in
      let from : first_place ≤ journal.place = subst (λ (p : ℕ). first_place ≤ p) (sym held.place)
      (subst (λ (p : ℕ). first_place ≤ p) (sym (scan_place first_layout first_place fa)) (not_before first_layout first_place (scanned_at first_layout first_place fa).bodies)) in
      let one : last_gate fa ≡ first_gate fa + n = omega (arith, gate, at, from, is) in
      subst (λ (x : List ℕ). last_gate x ≡ first_gate x + n) (sym used) one

  pub both_read : (fb : List ℕ) → is_open fb ≡ false → read fa fb ≡ found f
  both_read fb shut = first known_first reads_atomic_write fa fb (header_stands fa held.opened held.stands held.long held.image held.new) (inl shut) ∙ file_read

-- what these hold, files hold that are these
pub hold_of : {D : Type 0} (sees : D → Option (List ℕ)) (images : D → List ℕ → Type 0) (used used_is other other_is : D) (j j_is : Journal) (u u_is : InUse) {doubt : Option Commit} → doubt ≡ None
    → used_is ≡ used → other_is ≡ other → j_is ≡ j → u_is ≡ u → (s : State) (who : Identity) → Hold (images used) (Guarded (sees other) (images other)) j u None s who
    → Hold (images used_is) (Guarded (sees other_is) (images other_is)) j_is u_is doubt s who
hold_of {D} sees images used used_is other other_is j j_is u u_is sure same_used same_other same_j same_u s who hold =
    subst (λ (o : Option Commit). Hold (images used_is) (Guarded (sees other_is) (images other_is)) j_is u_is o s who) (sym sure)
    (subst (λ (x : D). Hold (images x) (Guarded (sees other_is) (images other_is)) j_is u_is None s who) (sym same_used)
    (subst (λ (x : D). Hold (images used) (Guarded (sees x) (images x)) j_is u_is None s who) (sym same_other)
    (subst (λ (x : Journal). Hold (images used) (Guarded (sees other) (images other)) x u_is None s who) (sym same_j)
    (subst (λ (x : InUse). Hold (images used) (Guarded (sees other) (images other)) j x None s who) (sym same_u) hold))))

-- ---- what was seen and read

pub if_ok : {T E : Type 0} (r : Result T E) (P Q : T → Type 0) → ((x : T) → P x → Q x) → IfOk r P → IfOk r Q
if_ok (Ok x) P Q so has = so x has
if_ok (Err e) P Q so has = tt

pub if_err : {T E : Type 0} (r : Result T E) (P Q : E → Type 0) → ((e : E) → P e → Q e) → IfErr r P → IfErr r Q
if_err (Ok x) P Q so has = tt
if_err (Err e) P Q so has = so e has

pub if_done : {T E : Type 0} (r : Result T E) (Q : Type 0) → Q → OnOk r Q
if_done (Ok x) Q has = has
if_done (Err e) Q has = tt

pub told_file : (o : Option (List ℕ)) → IsTold o → (f : List ℕ) × (o ≡ Some f)
told_file None told = absurd told
told_file (Some f) told = (f, refl)

module _ (fa : List ℕ) (seen : Looked) (head : FileHead) (is : seen ≡ plain head) (seen_a : IsSeenA fa seen) where
  there : IsSeenA fa (plain head)
  there = subst (IsSeenA fa) is seen_a

  pub is_held : (core : Database) (journal : Journal) → IsRead fa (Ok (core, journal)) → IsHeldIn fa head core journal
  is_held core journal read = record {
    opened = there.0.0;
    stands = there.0.1;
    image = sym there.0.3;
    long = there.1.0;
    new = sym there.1.1;
    is = there.0.2;
    cs = read.0.0;
    commits = read.0.1;
    made = read.0.2;
    place = read.1;
  }

  module _ (fb : List ℕ) (seen_b : IsSeenB fb seen) where
    pub shut_beside : is_open fb ≡ false
    shut_beside = sym (subst (IsSeenB fb) is seen_b)

    damaged_at : (at : ℕ) → commits_of fa ≡ Err at → first_opening reads_atomic_write fa fb ≡ Ok (damaged 0 at)
    damaged_at at bad =
        let image : (image_length fa == 16) ≡ true = grind (arith, nat_tests, there.0.3) in
        let long : nat_lt (length fa) 113 ≡ false = grind (arith, nat_tests, there.1.0) in
        let stands = header_stands fa there.0.0 there.0.1 there.1.0 (sym there.0.3) (sym there.1.1) in
        let file = plain_read fa there.0.0 there.0.1 there.1.0 (sym there.0.3) (sym there.1.1) 0 ∙ ap (λ (r : Result (List Commit) ℕ). from_records 0 fa empty_state r) bad in
        is_plain fa fb there.0.0 there.0.1 shut_beside image long (sym there.1.1)
        ∙ ap (λ (r : Recovery). (let x : FirstOpening = Ok r in x)) (first known_first reads_atomic_write fa fb stands (inl shut_beside) ∙ file)

    pub told_refused : (made : Result (Database × Journal) Unmade) → IsRead fa made → (e : OpenRefusal) → Tells made e → IsUnopened fa fb e
    told_refused made read opening.DiskFault tells = tt
    told_refused made read opening.NoMemory tells = tt
    told_refused made read opening.NoDatabase tells = absurd tells
    told_refused made read (opening.NotBuilt at) tells = absurd tells
    told_refused made read (opening.Damaged file at) tells =
        damaged_at at (subst (IsRead fa) tells.1 read) ∙ ap (λ (n : ℕ). (let x : FirstOpening = Ok (damaged n at) in x)) (sym tells.0)
