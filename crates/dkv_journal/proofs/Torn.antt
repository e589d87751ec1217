-- What a write that a crash cuts short leaves of a file with gates.
use Rattle.std.proofs.Common.{true, length-take, length-drop, append_assoc, length-append, ◌≡◌, inl, inr, ⊎_elim, ℕ, zero, suc, ◌+◌, ◌<◌, List, [], ◌∷◌, ◌++◌, length, get_or, take, drop, refl, sym, ◌∙◌, ap, subst, arith, IsTrue, take-append-drop}
use Rattle.std.specs.Prelude.{slice_get, slice_set, min, ◌-◌, ◌^◌, Option, Some}
use Rattle.std.specs.Int.{w32, w64, to_le_bytes}
use Rattle.std.proofs.lemmas.Bool.{cases_eq}
use Rattle.std.proofs.lemmas.Bool.Decides.{nat_tests}
use Rattle.std.proofs.lemmas.List.{drop-drop, drop_more, set_split, take-take, take_at, drop_at}
use Rattle.dkv_io.specs.Disks.{Torn, Holds, IsShort}
use Rattle.dkv_journal.specs.declared.gates.TheConstants.{CLOSED_GATE, OPEN_GATE}
use Rattle.dkv_journal.specs.Records.{is_closed_at, shows_closed, laid, record_size, record_digest, has_digests}
use Rattle.dkv_journal.specs.Crashes.{WithGate, StaysShut, IsDoubted, HasRecord, mended, Appended, appended, with_behind}
use Rattle.dkv_base.specs.declared.types.Layout.{Layout}
use Rattle.dkv_journal.proofs.Scans.{offset_is, digest_long}

-- ---- the byte at a place

byte_of_front : (n p : ℕ) (c : List ℕ) → p < n → slice_get (take n c) p ≡ slice_get c p
byte_of_front zero p c lt = absurd (omega (arith, lt))
byte_of_front (suc n) p [] lt = refl
byte_of_front (suc n) zero (x ∷ c) lt = refl
byte_of_front (suc n) (suc p) (x ∷ c) lt = byte_of_front n p c (omega (arith, lt))

-- a write behind a gate leaves it
pub closed_stays : (p n : ℕ) (d c : List ℕ) → Torn (p + 1) n d c → is_closed_at p c ≡ is_closed_at p d
closed_stays p n d c torn =
    let same : slice_get c p ≡ slice_get d p =
    sym (byte_of_front (p + 1) p c (omega arith)) ∙ ap (λ (l : List ℕ). slice_get l p) torn.before ∙ byte_of_front (p + 1) p d (omega arith) in
    ap shows_closed same

pub front_stays : (p n : ℕ) (d c : List ℕ) → Torn (p + 1) n d c → take p c ≡ take p d
front_stays p n d c torn = sym (take-take p (p + 1) c (omega arith)) ∙ ap (λ (l : List ℕ). take p l) torn.before ∙ take-take p (p + 1) d (omega arith)

-- each image at the start
pub shut_still : (p : ℕ) (d : List ℕ) → IsTrue (is_closed_at p d) → StaysShut p d d
shut_still p d shut = record { before = refl; gate = shut }

-- the first write of an append
pub shut_behind : (p n : ℕ) (d c : List ℕ) → Torn (p + 1) n d c → IsTrue (is_closed_at p d) → StaysShut p d c
shut_behind p n d c torn shut = record {
  before = front_stays p n d c torn;
  gate = subst IsTrue (sym (closed_stays p n d c torn)) shut;
}

pub shut_appended : (l : Layout) (p : ℕ) (body d c : List ℕ) → StaysShut p d c → Appended l p body d c
shut_appended l p body d c shut = record { before = shut.before; gate = inl shut.gate }

pub torn_behind : (l : Layout) (p n : ℕ) (body d c : List ℕ) → Torn (p + 1) n d c → IsTrue (is_closed_at p d) → Appended l p body d c
torn_behind l p n body d c torn shut = record {
  before = front_stays p n d c torn;
  gate = inl (subst IsTrue (sym (closed_stays p n d c torn)) shut);
}

-- a write of a gate leaves some byte there
pub torn_gate : (p : ℕ) (d c : List ℕ) → p < length d → Torn p 1 d c → WithGate p d c
torn_gate p d c within torn =
    let long : length c ≡ length d = ⊎_elim (λ same. same) (λ grown. omega (arith, grown, within)) torn.size in
    let g = get_or c p 0 in
    let next : p + 1 ≡ suc p = omega arith in (
      g,
      sym (take-append-drop p c)
          ∙ ap (λ (l : List ℕ). l ++ drop p c) torn.before
          ∙ ap (λ (l : List ℕ). take p d ++ l) (drop_more c p 0 (omega (arith, long, within)) ∙ ap (λ (l : List ℕ). g ∷ l) torn.after)
          ∙ ap (λ (n : ℕ). take p d ++ g ∷ drop n d) next
          ∙ sym (set_split d p g within),
    )

-- ---- an append

-- each image at the start
pub not_yet : (l : Layout) (p : ℕ) (body d : List ℕ) → IsTrue (is_closed_at p d) → Appended l p body d d
not_yet l p body d shut = record {
  before = refl;
  gate = inl shut;
}

pub closed_within : (p : ℕ) (d : List ℕ) → IsTrue (is_closed_at p d) → p < length d
closed_within p [] shut = absurd (cc shut)
closed_within zero (x ∷ d) shut = omega arith
closed_within (suc p) (x ∷ d) shut = let within = closed_within p d shut in omega (arith, within)

-- the next place, where the file that is told has a byte at the place
pub next_place : (p q : ℕ) (file : List ℕ) (seen : Option (List ℕ)) → seen ≡ Some file → IsShort seen → IsTrue (is_closed_at p file) → q ≡ min (p + 1) (2 ^ 64 - 1) → q ≡ p + 1
next_place p q file seen told short shut is =
    let short_file : length file < 2 ^ 63 = subst IsShort told short in
    let within = closed_within p file shut in
    omega (arith, short_file, within, is)

byte_closed : (g : ℕ) (rest : List ℕ) (p : ℕ) (front : List ℕ) → length front ≡ p → (g ≡ OPEN_GATE → ⊥) → is_closed_at p (front ++ g ∷ rest) ≡ true
byte_closed g rest zero [] long shut = grind (arith, nat_tests)
byte_closed g rest (suc p) [] long shut = absurd (omega (arith, long))
byte_closed g rest zero (x ∷ front) long shut = absurd (omega (arith, long))
byte_closed g rest (suc p) (x ∷ front) long shut = byte_closed g rest p front (omega (arith, long)) shut

-- behind the record is written: the front, the gate's byte, and the record
module _ (p : ℕ) (bytes file w : List ℕ) (within : p < length file) (is : Holds (p + 1) bytes file w) where
  long_front : length (take (p + 1) file) ≡ p + 1
  long_front = omega (arith, length-take (p + 1) file, within)

  regrouped : w ≡ take (p + 1) file ++ (bytes ++ drop (p + 1 + length bytes) file)
  regrouped = is ∙ append_assoc (take (p + 1) file) bytes (drop (p + 1 + length bytes) file)

  pub same_front : take p w ≡ take p file
  same_front =
      sym (take-take p (p + 1) w (omega arith))
      ∙ ap (λ (x : List ℕ). take p x) (ap (λ (x : List ℕ). take (p + 1) x) regrouped ∙ take_at (take (p + 1) file) (bytes ++ drop (p + 1 + length bytes) file) (p + 1) long_front)
      ∙ take-take p (p + 1) file (omega arith)

  pub behind_is : drop (p + 1) w ≡ bytes ++ drop (p + 1 + length bytes) file
  behind_is = ap (λ (x : List ℕ). drop (p + 1) x) regrouped ∙ drop_at (take (p + 1) file) (bytes ++ drop (p + 1 + length bytes) file) (p + 1) long_front

  pub longer : p < length w
  longer = omega (arith, ap length regrouped, length-append (take (p + 1) file) (bytes ++ drop (p + 1 + length bytes) file), long_front)

  gate_split : (g : ℕ) → slice_set w p g ≡ take p file ++ g ∷ (bytes ++ drop (p + 1 + length bytes) file)
  gate_split g =
      let next : suc p ≡ p + 1 = omega arith in
      set_split w p g longer ∙ ap (λ (n : ℕ). take p w ++ g ∷ drop n w) next ∙ (λ i. same_front i ++ g ∷ behind_is i)

  long_before : length (take p file) ≡ p
  long_before = omega (arith, length-take p file, within)

  pub torn_record : (l : Layout) (body c : List ℕ) → bytes ≡ laid l p body → WithGate p w c → Appended l p body file c
  torn_record l body c laid_is (g, same) =
      let split : c ≡ take p file ++ g ∷ (bytes ++ drop (p + 1 + length bytes) file) = same ∙ gate_split g in
      let rest = bytes ++ drop (p + 1 + length bytes) file in
      let at_gate : drop p c ≡ g ∷ rest = ap (λ (x : List ℕ). drop p x) split ∙ drop_at (take p file) (g ∷ rest) p long_before in
      record {
        before = ap (λ (x : List ℕ). take p x) split ∙ take_at (take p file) (g ∷ rest) p long_before;
        gate = elim (cases_eq g OPEN_GATE) [
          | inl opened ↦ inr (
              ap (λ (x : List ℕ). take (1 + length (laid l p body)) x) (at_gate ∙ ap (λ (b : ℕ). b ∷ rest) opened ∙ ap (λ (b : List ℕ). OPEN_GATE ∷ b ++ drop (p + 1 + length bytes) file) laid_is)
              ∙ take_at (OPEN_GATE ∷ laid l p body) (drop (p + 1 + length bytes) file) (1 + length (laid l p body)) (omega arith))
          | inr shut ↦ inl (ap (λ (x : List ℕ). is_closed_at p x) split ∙ byte_closed g rest p (take p file) long_before shut)
        ];
      }

  pub doubted : (l : Layout) (body c : List ℕ) → bytes ≡ laid l p body → WithGate p w c → IsDoubted l p body file c
  doubted l body c laid_is (g, same) =
      let rest = bytes ++ drop (p + 1 + length bytes) file in
      let split : c ≡ take p file ++ g ∷ rest = same ∙ gate_split g in
      let at_gate : drop p c ≡ g ∷ rest = ap (λ (x : List ℕ). drop p x) split ∙ drop_at (take p file) (g ∷ rest) p long_before in
      record {
        before = ap (λ (x : List ℕ). take p x) split ∙ take_at (take p file) (g ∷ rest) p long_before;
        gate = g;
        behind = ap (λ (x : List ℕ). take (1 + length (laid l p body)) x) (at_gate ∙ ap (λ (b : List ℕ). g ∷ b ++ drop (p + 1 + length bytes) file) laid_is)
            ∙ take_at (g ∷ laid l p body) (drop (p + 1 + length bytes) file) (1 + length (laid l p body)) (omega arith);
      }

-- ---- a gate in doubt

-- there is a byte at the gate, and then the record
module _ (l : Layout) (p : ℕ) (body d c : List ℕ) (doubt : IsDoubted l p body d c) where
  abbrev after : List ℕ
  after = drop (1 + length (laid l p body)) (drop p c)

  at_doubt : drop p c ≡ doubt.gate ∷ (laid l p body ++ after)
  at_doubt = sym (take-append-drop (1 + length (laid l p body)) (drop p c)) ∙ ap (λ (x : List ℕ). x ++ after) doubt.behind

  pub doubted_within : p < length c
  doubted_within = omega (arith, length-drop p c, ap length at_doubt)

  split_doubt : c ≡ take p d ++ doubt.gate ∷ (laid l p body ++ after)
  split_doubt = sym (take-append-drop p c) ∙ (λ i. doubt.before i ++ at_doubt i)

  long_doubt : length (take p d) ≡ p
  long_doubt = omega (arith, ap length doubt.before, length-take p c, doubted_within)

  -- so it is after any write of that gate
  pub doubted_again : (x : List ℕ) → WithGate p c x → IsDoubted l p body d x
  doubted_again x (g, same) =
      let tail = laid l p body ++ after in
      let behind : drop (suc p) c ≡ tail =
      (let next : suc p ≡ p + 1 = omega arith in ap (λ (n : ℕ). drop n c) next) ∙ sym (drop-drop 1 p c) ∙ ap (λ (y : List ℕ). drop 1 y) at_doubt in
      let split : x ≡ take p d ++ g ∷ tail = same ∙ set_split c p g doubted_within ∙ (λ i. doubt.before i ++ g ∷ behind i) in
      let at_gate : drop p x ≡ g ∷ tail = ap (λ (y : List ℕ). drop p y) split ∙ drop_at (take p d) (g ∷ tail) p long_doubt in
      record {
        before = ap (λ (y : List ℕ). take p y) split ∙ take_at (take p d) (g ∷ tail) p long_doubt;
        gate = g;
        behind = ap (λ (y : List ℕ). take (1 + length (laid l p body)) y) at_gate ∙ take_at (g ∷ laid l p body) after (1 + length (laid l p body)) (omega arith);
      }

  -- its gate is closed, or its record counts
  pub doubted_appended : Appended l p body d c
  doubted_appended = record {
    before = doubt.before;
    gate = elim (cases_eq doubt.gate OPEN_GATE) [
      | inl opened ↦ inr (doubt.behind ∙ ap (λ (g : ℕ). g ∷ laid l p body) opened)
      | inr shut ↦ inl (ap (λ (x : List ℕ). is_closed_at p x) split_doubt ∙ byte_closed doubt.gate (laid l p body ++ after) p (take p d) long_doubt shut)
    ];
  }

  -- mended, its gate is closed
  pub doubted_mended : StaysShut p d (mended p c)
  doubted_mended =
      let mine = doubted_again (mended p c) (CLOSED_GATE, refl) in
      let split : mended p c ≡ take p d ++ CLOSED_GATE ∷ drop (suc p) c = set_split c p CLOSED_GATE doubted_within ∙ ap (λ (y : List ℕ). y ++ CLOSED_GATE ∷ drop (suc p) c) doubt.before in
      record {
        before = mine.before;
        gate = ap (λ (y : List ℕ). is_closed_at p y) split ∙ byte_closed CLOSED_GATE (drop (suc p) c) p (take p d) long_doubt (λ e. absurd (cc e));
      }

pub length_laid : (l : Layout) (p : ℕ) (body : List ℕ) → length (laid l p body) ≡ record_size l body
length_laid l p body =
    let long = digest_long (has_digests l) (to_le_bytes w64 p ++ body) in
    omega (arith, offset_is (has_digests l) (record_digest l p body) long, length-append (record_digest l p body ++ body) (0 ∷ []), length-append (record_digest l p body) body)

-- and then the gate is open
pub finished : (l : Layout) (p : ℕ) (body bytes file : List ℕ) → p < length file → bytes ≡ laid l p body → slice_set (with_behind p bytes file) p OPEN_GATE ≡ appended l p body file
finished l p body bytes file within laid_is =
    let long = length_laid l p body in
    let place : p + 1 + length bytes ≡ p + record_size l body + 1 = omega (arith, ap length laid_is, long) in
    gate_split p bytes file (with_behind p bytes file) within refl OPEN_GATE
    ∙ (λ i. take p file ++ (OPEN_GATE ∷ laid_is i ++ drop (place i) file))
    ∙ sym (append_assoc (take p file) (OPEN_GATE ∷ laid l p body) (drop (p + record_size l body + 1) file))

-- the file after an append has the record
pub appended_has : (l : Layout) (p : ℕ) (body file : List ℕ) → p < length file → (take p (appended l p body file) ≡ take p file) × HasRecord l p body (appended l p body file)
appended_has l p body file within =
    let long : length (take p file) ≡ p = omega (arith, length-take p file, within) in
    let rest = drop (p + record_size l body + 1) file in
    let split : appended l p body file ≡ take p file ++ ((OPEN_GATE ∷ laid l p body) ++ rest) = append_assoc (take p file) (OPEN_GATE ∷ laid l p body) rest in (
      ap (λ (x : List ℕ). take p x) split ∙ take_at (take p file) ((OPEN_GATE ∷ laid l p body) ++ rest) p long,
      ap (λ (x : List ℕ). take (1 + length (laid l p body)) (drop p x)) split
          ∙ ap (λ (x : List ℕ). take (1 + length (laid l p body)) x) (drop_at (take p file) ((OPEN_GATE ∷ laid l p body) ++ rest) p long)
          ∙ take_at (OPEN_GATE ∷ laid l p body) rest (1 + length (laid l p body)) (omega arith),
    )

-- ---- the next gate

byte_behind : (p n : ℕ) (c : List ℕ) → slice_get (drop p c) n ≡ slice_get c (p + n)
byte_behind zero n c = let same : n ≡ 0 + n = omega arith in ap (λ (k : ℕ). slice_get c k) same
byte_behind (suc p) n [] = refl
byte_behind (suc p) n (x ∷ c) = let same : suc (p + n) ≡ suc p + n = omega arith in byte_behind p n c ∙ ap (λ (k : ℕ). slice_get (x ∷ c) k) same

-- behind a record the next gate is closed
pub next_shut : (l : Layout) (p : ℕ) (body c : List ℕ) → HasRecord l p body c → IsTrue (is_closed_at (p + record_size l body) c)
next_shut l p body c has =
    let n = record_size l body in
    let front = OPEN_GATE ∷ to_le_bytes w32 (length body) ++ record_digest l p body ++ body in
    let long = length_laid l p body in
    let long_front : length front ≡ n = omega (arith, long, length-append (record_digest l p body ++ body) (CLOSED_GATE ∷ [])) in
    let here : is_closed_at n (front ++ CLOSED_GATE ∷ []) ≡ true = byte_closed CLOSED_GATE [] n front long_front (λ e. absurd (cc e)) in
    let same : slice_get (front ++ CLOSED_GATE ∷ []) n ≡ slice_get c (p + n) =
    ap (λ (x : List ℕ). slice_get x n) (sym has) ∙ byte_of_front (1 + length (laid l p body)) n (drop p c) (omega (arith, long)) ∙ byte_behind p n c in
    ap shows_closed (sym same) ∙ here
