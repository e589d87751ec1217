-- How a store's files move while a gate is mended and a record is added. The used disk is a, and b the other one.
use Rattle.std.proofs.Common.{◌≡◌, inl, refl, sym, ◌∙◌, ap, subst, ℕ, ◌<◌, ◌≤◌, ◌+◌, ◌-◌, ◌^◌, min, true, false, List, [], ◌∷◌, ◌++◌, length, take, drop, Option, Some, None, IsTrue, arith, length-take, length-append}
use Rattle.dkv_base.specs.declared.types.Commit.{Commit}
use Rattle.dkv_base.specs.State.{State}
use Rattle.dkv_base.specs.Spelling.{record_body}
use Rattle.dkv_io.specs.Disks.{Moves, stays, a_moves, LeavesOnly, LeavesFrom, FromStart, AtRest}
use Rattle.dkv_journal.specs.declared.journal.Journal.{Journal}
use Rattle.dkv_journal.specs.Crashes.{WithGate, StaysShut, IsDoubted, AppendMoves, Appended, mended, appended}
use Rattle.dkv_journal.specs.Records.{first_layout, laid, record_size, is_closed_at}
use Rattle.dkv_journal.specs.declared.gates.TheConstants.{OPEN_GATE}
use Rattle.dkv_io.proofs.Moments.{weaker}
use Rattle.dkv_journal.proofs.Torn.{closed_within, doubted_within, doubted_again, doubted_mended, appended_has, length_laid}
use Rattle.dkv_files.specs.Crashes.{Identity, IsOneOf, StatesMove, with_doubt, and_then}
use Rattle.dkv_store.specs.declared.held.InUse.{InUse}
use Rattle.dkv_store.specs.Held.{MayAdd, AddMoves, RestsAt, FileStands, Hold, IsTold, read_in}
use Rattle.dkv_store.proofs.Holding.{shut_at, is_state, grown, record_at, one_of_both, doubt_is, legal_grown, state_grown}

pub told_is : (o : Option (List ℕ)) (f : List ℕ) → o ≡ Some f → IsTold o
told_is None f is = absurd (no is)
  where
    no : (let a : Option (List ℕ) = None in a ≡ Some f) → ⊥
    no e = absurd cc
told_is (Some xs) f is = tt

-- the place behind a record that was added to a file that is told
pub new_place : (p : ℕ) (body bytes file : List ℕ) → p < length file → bytes ≡ laid first_layout p body → length (appended first_layout p body file) < 2 ^ 63
    → min (p + length bytes) (2 ^ 64 - 1) ≡ p + record_size first_layout body
new_place p body bytes file within is short =
    let long = ap length is ∙ length_laid first_layout p body in
    let rest = drop (p + record_size first_layout body + 1) file in
    omega (arith, long, short, within, length-take p file, length-append (take p file ++ (OPEN_GATE ∷ laid first_layout p body)) rest, length-append (take p file) (OPEN_GATE ∷ laid first_layout p body), length_laid first_layout p body)

module _ {D : Type 0} (images : D → List ℕ → Type 0) (moment : D → ℕ) (since : D → ℕ → List ℕ → Type 0)
    (counts : (d : D) (t : ℕ) (x : List ℕ) → t ≤ moment d → images d x → since d t x) (a a_end b : D) where
  -- the one disk moves while the other stands still
  pub moves_of : (P : List ℕ → List ℕ → Type 0) → LeavesOnly moment since a a_end (λ x. (y : List ℕ) → images b y → P x y) → Moves images moment since P a b a_end b
  moves_of P leaves = a_moves a b a_end a_end b leaves (stays a_end b (λ x y now has. leaves.each x (counts a_end (moment a) x leaves.later now) y has))

module _ {D : Type 0} (images : D → List ℕ → Type 0) (moment : D → ℕ) (since : D → ℕ → List ℕ → Type 0)
    (counts : (d : D) (t : ℕ) (x : List ℕ) → t ≤ moment d → images d x → since d t x) (a a_end b : D)
    (B : List ℕ → Type 0) (j : Journal) (u : InUse) (s : State) (who : Identity) where
  -- ---- standing still

  pub still : ((y : List ℕ) → images b y → B y) → (doubt : Option Commit) → Hold (images a) B j u doubt s who → j.in_doubt ≡ false → StatesMove images moment since (read_in u.second) who (with_doubt s doubt) a b a b
  still opens None hold is =
      stays a b (λ x y has_x has_y. inl (is_state hold.found u.generation j.place s who x y (hold.used x has_x) (hold.other y (opens y has_y)) hold.state hold.identity u.second))
  still opens (Some c) hold is = absurd (cc (hold.named, is))

  -- what the disk calls ask: a byte at the gate in doubt, or a closed gate
  pub within_of : (doubt : Option Commit) → Hold (images a) B j u doubt s who → j.in_doubt ≡ true → (x : List ℕ) → images a x → j.place < length x
  within_of None hold is x now = absurd (cc (hold.named, is))
  within_of (Some c) hold is x now = let h = hold.used x now in doubted_within first_layout j.place (record_body c) h.0 x h.2

  pub shut_of : Hold (images a) B j u None s who → (x : List ℕ) → images a x → IsTrue (is_closed_at j.place x)
  shut_of hold x now = (hold.used x now).shut

  -- ---- mending

  pub mend_moves : ((y : List ℕ) → images b y → B y) → (doubt : Option Commit) → Hold (images a) B j u doubt s who → j.in_doubt ≡ true → LeavesFrom images moment since a a_end (WithGate j.place)
      → StatesMove images moment since (read_in u.second) who (with_doubt s doubt) a b a_end b
  mend_moves opens None hold is leaves = absurd (cc (hold.named, is))
  mend_moves opens (Some c) hold is leaves =
      moves_of images moment since counts a a_end b (λ x y. IsOneOf (read_in u.second x y) (s ∷ and_then s c ∷ []) who)
      (weaker moment since a a_end (FromStart (images a) (WithGate j.place)) (λ x. (y : List ℕ) → images b y → IsOneOf (read_in u.second x y) (s ∷ and_then s c ∷ []) who)
      (λ x from y has.
      let h = hold.used from.0 from.1 in
      doubt_is hold.found u.generation j.place c s hold.sound hold.legal hold.layout hold.state hold.doubted u.second who h.0 x y h.1
      (doubted_again first_layout j.place (record_body c) h.0 from.0 h.2 x from.2) (hold.other y (opens y has)) hold.identity) leaves)

  pub mend_kept : (doubt : Option Commit) → Hold (images a) B j u doubt s who → j.in_doubt ≡ true → LeavesFrom images moment since a a_end (WithGate j.place)
      → Hold (images a_end) B j u doubt s who
  mend_kept None hold is leaves = absurd (cc (hold.named, is))
  mend_kept (Some c) hold is leaves = record {
    found = hold.found;
    sound = hold.sound;
    legal = hold.legal;
    state = hold.state;
    identity = hold.identity;
    layout = hold.layout;
    named = hold.named;
    doubted = hold.doubted;
    other = hold.other;
    used = λ x now.
        let from = leaves.each x (counts a_end (moment a) x leaves.later now) in
        let h = hold.used from.0 from.1 in
        (h.0, h.1, doubted_again first_layout j.place (record_body c) h.0 from.0 h.2 x from.2);
  }

  pub mend_done : (doubt : Option Commit) (fa : List ℕ) (seen : Option (List ℕ)) → Hold (images a) B j u doubt s who → j.in_doubt ≡ true → images a fa → AtRest seen (images a_end) (mended j.place fa)
      → Hold (images a_end) B (record { place = j.place; in_doubt = false }) u None s who
  mend_done None fa seen hold is now rest = absurd (cc (hold.named, is))
  mend_done (Some c) fa seen hold is now rest =
      let h = hold.used fa now in
      let at = shut_at hold.found u.generation j.place h.0 (mended j.place fa) h.1 (doubted_mended first_layout j.place (record_body c) h.0 fa h.2) in
      record {
        found = hold.found;
        sound = hold.sound;
        legal = hold.legal;
        state = hold.state;
        identity = hold.identity;
        layout = hold.layout;
        named = refl;
        doubted = tt;
        used = λ x left. subst (λ (y : List ℕ). RestsAt hold.found u.generation j.place y) (sym (rest.only x left)) at;
        other = hold.other;
      }

  -- ---- adding

  pub add_moves : ((y : List ℕ) → images b y → B y) → (c : Commit) → Hold (images a) B j u None s who → MayAdd s c → AppendMoves images moment since first_layout j.place (record_body c) a a_end
      → AddMoves images moment since u.second who s c a b a_end b
  add_moves opens c hold may moves = record {
    laid = moves.written;
    laying = moves_of images moment since counts a moves.written b (λ x y. IsOneOf (read_in u.second x y) (s ∷ []) who)
        (weaker moment since a moves.written (FromStart (images a) (StaysShut j.place)) (λ x. (y : List ℕ) → images b y → IsOneOf (read_in u.second x y) (s ∷ []) who)
        (λ x from y has. inl (is_state hold.found u.generation j.place s who x y
        (shut_at hold.found u.generation j.place from.0 x (hold.used from.0 from.1) from.2) (hold.other y (opens y has)) hold.state hold.identity u.second)) moves.laying);
    opening = moves_of images moment since counts moves.written a_end b (λ x y. IsOneOf (read_in u.second x y) (s ∷ and_then s c ∷ []) who)
        (weaker moment since moves.written a_end (FromStart (images a) (Appended first_layout j.place (record_body c))) (λ x. (y : List ℕ) → images b y → IsOneOf (read_in u.second x y) (s ∷ and_then s c ∷ []) who)
        (λ x from y has. one_of_both hold.found u.generation j.place c s hold.sound hold.legal hold.layout hold.state may u.second who from.0 x y
        (hold.used from.0 from.1) from.2 (hold.other y (opens y has)) hold.identity) moves.opening);
  }

  pub add_done : (c : Commit) (fa : List ℕ) (seen : Option (List ℕ)) (j_end : Journal) (doubt : Option Commit) → Hold (images a) B j u None s who → MayAdd s c → images a fa → IsTrue (is_closed_at j.place fa)
      → AtRest seen (images a_end) (appended first_layout j.place (record_body c) fa) → j_end.place ≡ j.place + record_size first_layout (record_body c) → j_end.in_doubt ≡ false → doubt ≡ None
      → Hold (images a_end) B j_end u doubt (and_then s c) who
  add_done c fa seen j_end doubt hold may now shut rest place sure none =
      let has = appended_has first_layout j.place (record_body c) fa (closed_within j.place fa shut) in
      let at = record_at hold.found u.generation j.place c s hold.sound hold.legal hold.layout hold.state may fa (appended first_layout j.place (record_body c) fa) (hold.used fa now) has.0 has.1 in
      subst (λ (o : Option Commit). Hold (images a_end) B j_end u o (and_then s c) who) (sym none) (record {
        found = grown hold.found c;
        sound = hold.sound;
        legal = legal_grown hold.found u.generation j.place c s hold.sound hold.legal hold.layout hold.state may;
        state = state_grown hold.found u.generation j.place c s hold.sound hold.legal hold.layout hold.state may;
        identity = hold.identity;
        layout = hold.layout;
        named = sure;
        doubted = tt;
        used = λ x left. subst (λ (p : ℕ). RestsAt (grown hold.found c) u.generation p x) (sym place)
            (subst (λ (y : List ℕ). RestsAt (grown hold.found c) u.generation (j.place + record_size first_layout (record_body c)) y) (sym (rest.only x left)) at);
        other = hold.other;
      })

  -- the gate was not touched
  pub add_shut : (j_end : Journal) (doubt : Option Commit) → Hold (images a) B j u None s who → LeavesFrom images moment since a a_end (StaysShut j.place)
      → j_end.place ≡ j.place → j_end.in_doubt ≡ false → doubt ≡ None → Hold (images a_end) B j_end u doubt s who
  add_shut j_end doubt hold leaves place sure none = subst (λ (o : Option Commit). Hold (images a_end) B j_end u o s who) (sym none) (record {
    found = hold.found;
    sound = hold.sound;
    legal = hold.legal;
    state = hold.state;
    identity = hold.identity;
    layout = hold.layout;
    named = sure;
    doubted = tt;
    used = λ x now.
        let from = leaves.each x (counts a_end (moment a) x leaves.later now) in
        subst (λ (p : ℕ). RestsAt hold.found u.generation p x) (sym place) (shut_at hold.found u.generation j.place from.0 x (hold.used from.0 from.1) from.2);
    other = hold.other;
  })

  -- the gate is in doubt
  pub add_doubted : (c : Commit) (fa : List ℕ) (j_end : Journal) → Hold (images a) B j u None s who → MayAdd s c → images a fa
      → ((x : List ℕ) → images a_end x → IsDoubted first_layout j.place (record_body c) fa x) → j_end.place ≡ j.place → j_end.in_doubt ≡ true
      → Hold (images a_end) B j_end u (Some c) s who
  add_doubted c fa j_end hold may now doubted place is = record {
    found = hold.found;
    sound = hold.sound;
    legal = hold.legal;
    state = hold.state;
    identity = hold.identity;
    layout = hold.layout;
    named = is;
    doubted = may;
    used = λ x left. subst (λ (p : ℕ). FileStands hold.found u.generation p (Some c) x) (sym place) (fa, hold.used fa now, doubted x left);
    other = hold.other;
  }
