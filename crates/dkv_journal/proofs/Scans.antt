-- What is written as records is scanned as their bodies.
use Rattle.std.proofs.Common.{◌≡◌, refl, sym, ◌∙◌, ap, ℕ, zero, suc, ◌+◌, ◌-◌, ◌^◌, ◌<◌, ◌≤◌, Bool, true, false, not, ◌&&◌, ◌==◌, nat_le, List, [], ◌∷◌, ◌++◌, length, take, drop, arith, length-append, append_assoc}
use Rattle.std.specs.Prelude.{bytes_eq, if◌then◌else◌}
use Rattle.std.specs.List.{AllByRecursion}
use Rattle.std.specs.Int.{w32, w64, to_le_bytes}
use Rattle.std.proofs.lemmas.Bool.{le-leb}
use Rattle.std.proofs.lemmas.List.{take_at, drop_at, drop-drop}
use Rattle.std.proofs.lemmas.Nat.{from_le_bytes-to_le_bytes_4}
use Rattle.std.proofs.lemmas.Slice.Eq.{bytes_eq-Decides}
use Rattle.sha2.specs.Sha256.{sha256}
use Rattle.sha2.proofs.Facts256.{length-sha256}
use Rattle.dkv_base.specs.declared.types.Layout.{Layout}
use Rattle.dkv_base.specs.declared.types.Profile.{Profile}
use Rattle.dkv_base.specs.declared.types.Profile.TheVariants.{Narrow, Wide}
use Rattle.dkv_base.specs.Profiles.{body_most}
use Rattle.dkv_journal.specs.declared.gates.TheConstants.{OPEN_GATE}
use Rattle.dkv_journal.specs.Records.{Scan, at_closed, at_damaged, ends, with_body, has_digests, record_digest, body_offset, record_size, records, told_length, body_behind, digest_behind, is_record, scanned_by}
use Rattle.dkv_journal.specs.Laws.{IsBody, RecordsScan}

-- ---- with digests, or without

none_left : (xs : List ℕ) → length xs ≡ 0 → [] ≡ xs
none_left [] is = refl
none_left (x ∷ xs) is = absurd (omega (arith, is))

pub digest_long : (h : Bool) (m : List ℕ) → length (if h then sha256 m else []) ≡ (if h then 32 else 0)
digest_long true m = length-sha256 m
digest_long false m = refl

digest_is : (h : Bool) (D body tail : List ℕ) → length D ≡ (if h then 32 else 0) → (if h then take 32 (D ++ body ++ tail) else []) ≡ D
digest_is true D body tail long = ap (λ (l : List ℕ). take 32 l) (append_assoc D body tail) ∙ take_at D (body ++ tail) 32 long
digest_is false D body tail long = none_left D long

rest_is : (h : Bool) (a b c d e : ℕ) (D body tail : List ℕ) → length D ≡ (if h then 32 else 0) → drop (if h then 37 else 5) (a ∷ b ∷ c ∷ d ∷ e ∷ D ++ body ++ tail) ≡ body ++ tail
rest_is true a b c d e D body tail long = ap (λ (l : List ℕ). drop 32 l) (append_assoc D body tail) ∙ drop_at D (body ++ tail) 32 long
rest_is false a b c d e D body tail long = ap (λ (l : List ℕ). l ++ body ++ tail) (sym (none_left D long))

pub offset_is : (h : Bool) (D : List ℕ) → length D ≡ (if h then 32 else 0) → (if h then 37 else 5) ≡ 5 + length D
offset_is true D long = omega (arith, long)
offset_is false D long = omega (arith, long)

offset_most : (h : Bool) → 5 ≤ (if h then 37 else 5)
offset_most true = omega arith
offset_most false = omega arith

-- ---- one record

pub most : (p : Profile) → body_most p < 2 ^ 32
most Narrow = omega arith
most Wide = omega arith

module _ (l : Layout) (p : ℕ) (body tail : List ℕ) (short : length body ≤ body_most l.profile) where
  abbrev D : List ℕ
  D = record_digest l p body

  abbrev behind : List ℕ
  behind = to_le_bytes w32 (length body) ++ D ++ body ++ tail

  long : length D ≡ (if has_digests l then 32 else 0)
  long = digest_long (has_digests l) (to_le_bytes w64 p ++ body)

  told : told_length behind ≡ length body
  told = from_le_bytes-to_le_bytes_4 (length body) (omega (arith, short, most l.profile))

  pub body_is : body_behind l behind ≡ body
  body_is =
      ap (λ (n : ℕ). take n (drop (body_offset l) (OPEN_GATE ∷ behind))) told
      ∙ ap (λ (r : List ℕ). take (length body) r) (rest_is (has_digests l) _ _ _ _ _ D body tail long)
      ∙ take_at body tail (length body) refl

  digest : digest_behind l behind ≡ D
  digest = digest_is (has_digests l) D body tail long

  whole : nat_le (body_offset l + told_length behind) (1 + length behind) ≡ true
  whole = le-leb _ _ (omega (arith, told, offset_is (has_digests l) D long, length-append (D ++ body) tail, length-append D body))

  within : nat_le (told_length behind) (body_most l.profile) ≡ true
  within = le-leb _ _ (omega (arith, told, short))

  same : bytes_eq (digest_behind l behind) (record_digest l p (body_behind l behind)) ≡ true
  same = (bytes_eq-Decides _ _).1 (digest ∙ ap (λ (b : List ℕ). record_digest l p b) (sym body_is))

  pub stands : is_record l p behind ≡ true
  stands = λ i. whole i && within i && same i

  pub left : drop (record_size l body) (OPEN_GATE ∷ behind) ≡ tail
  left =
      sym (drop-drop (length body) (body_offset l) (OPEN_GATE ∷ behind))
      ∙ ap (λ (r : List ℕ). drop (length body) r) (rest_is (has_digests l) _ _ _ _ _ D body tail long)
      ∙ drop_at body tail (length body) refl

  pub size : length (OPEN_GATE ∷ behind) ≡ record_size l body + length tail
  size = omega (arith, offset_is (has_digests l) D long, length-append (D ++ body) tail, length-append D body)

-- ---- all of them

-- one record that stands, and the scan from the next gate on
abbrev stepped : ℕ → Layout → ℕ → List ℕ → Bool → List ℕ → List ℕ → Scan
stepped k l p bytes stands body after =
    if not (OPEN_GATE == OPEN_GATE) then ends p at_closed
    else if not stands then ends p at_damaged
    else with_body body (scanned_by k l (p + record_size l body) after)

abbrev scan_is : Layout → ℕ → List (List ℕ) → Scan
scan_is l p bodies = record { bodies = bodies; place = p + (length (records l p bodies) - 1); end = at_closed }

abbrev all_of : Layout → List (List ℕ) → Type 0
all_of l bodies = AllByRecursion (IsBody l.profile) bodies

positive : (l : Layout) (p : ℕ) (bodies : List (List ℕ)) → 1 ≤ length (records l p bodies)
positive l p [] = omega arith
positive l p (body ∷ bodies) = omega arith

by_fuel : (bodies : List (List ℕ)) (k : ℕ) (l : Layout) (p : ℕ) (rest : List ℕ) → all_of l bodies → length (records l p bodies) ≤ k
    → scanned_by k l p (records l p bodies ++ rest) ≡ scan_is l p bodies
by_fuel [] zero l p rest all enough = absurd (omega (arith, enough))
by_fuel [] (suc k) l p rest all enough = let here : p ≡ p + 0 = omega arith in ap (λ (n : ℕ). ends n at_closed) here
by_fuel (body ∷ bodies) zero l p rest all enough = absurd (omega (arith, enough, positive l p (body ∷ bodies)))
by_fuel (body ∷ bodies) (suc k) l p rest all enough =
    let next = p + record_size l body in
    let recs = records l next bodies in
    let tail = recs ++ rest in
    let D = record_digest l p body in
    let joined : to_le_bytes w32 (length body) ++ D ++ body ++ recs ++ rest ≡ to_le_bytes w32 (length body) ++ D ++ body ++ tail =
    ap (λ (r : List ℕ). to_le_bytes w32 (length body) ++ r) (append_assoc (D ++ body) recs rest) in
    let behind = to_le_bytes w32 (length body) ++ D ++ body ++ tail in
    let ok = stands l p body tail all.0 in
    let is = body_is l p body tail all.0 in
    let sized = size l p body recs all.0 in
    let more = by_fuel bodies k l next rest all.1 (omega (arith, enough, sized, offset_most (has_digests l))) in
    let place : next + (length recs - 1) ≡ p + (length (records l p (body ∷ bodies)) - 1) = omega (arith, sized, positive l next bodies) in
    ap (λ (b : List ℕ). scanned_by (suc k) l p (OPEN_GATE ∷ b)) joined
    ∙ (λ i. stepped k l p behind (ok i) (is i) (drop (record_size l (is i)) (OPEN_GATE ∷ behind)))
    ∙ ap (λ (t : List ℕ). with_body body (scanned_by k l next t)) (left l p body tail all.0)
    ∙ ap (λ (s : Scan). with_body body s) more
    ∙ ap (λ (n : ℕ). (let s : Scan = record { bodies = body ∷ bodies; place = n; end = at_closed } in s)) place

pub scans : RecordsScan
scans l p bodies rest all = by_fuel bodies _ l p rest all (omega (arith, length-append (records l p bodies) rest))
