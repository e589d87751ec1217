-- A scan that ends at a closed gate asks nothing of what stands from that gate on.
use Rattle.std.proofs.Common.{◌≡◌, refl, sym, ◌∙◌, ap, subst, ℕ, zero, suc, ◌+◌, ◌-◌, ◌<◌, ◌≤◌, Bool, true, false, not, ◌&&◌, ◌==◌, nat_le, List, [], ◌∷◌, ◌++◌, length, take, drop, arith, length-append, length-take, length-drop, append_assoc}
use Rattle.std.specs.Prelude.{bytes_eq, if◌then◌else◌}
use Rattle.std.specs.Int.{w32, from_le_bytes}
use Rattle.std.proofs.lemmas.Bool.{le-leb, leb-true, and_parts}
use Rattle.std.proofs.lemmas.Bool.Decides.{nat_tests}
use Rattle.dkv_base.specs.declared.types.Layout.{Layout}
use Rattle.dkv_base.specs.Profiles.{body_most}
use Rattle.dkv_journal.specs.declared.gates.TheConstants.{OPEN_GATE}
use Rattle.dkv_journal.specs.Records.{Scan, at_closed, at_damaged, ends, with_body, has_digests, record_digest, body_offset, record_size, told_length, body_behind, digest_behind, is_record, scanned_by, scanned}
use Rattle.dkv_journal.specs.Laws.{scans_on, ScanGoesOn}

-- ---- parts of a front

take_front : (n m : ℕ) (xs u : List ℕ) → n ≤ m → m ≤ length xs → take n (take m xs ++ u) ≡ take n xs
take_front zero m xs u le within = refl
take_front (suc n) zero xs u le within = absurd (omega (arith, le))
take_front (suc n) (suc m) [] u le within = absurd (omega (arith, within))
take_front (suc n) (suc m) (x ∷ xs) u le within = ap (λ (l : List ℕ). x ∷ l) (take_front n m xs u (omega (arith, le)) (omega (arith, within)))

part_of_front : (i j m : ℕ) (xs u : List ℕ) → i + j ≤ m → m ≤ length xs → take j (drop i (take m xs ++ u)) ≡ take j (drop i xs)
part_of_front zero j m xs u le within = take_front j m xs u (omega (arith, le)) within
part_of_front (suc i) j zero xs u le within = absurd (omega (arith, le))
part_of_front (suc i) j (suc m) [] u le within = absurd (omega (arith, within))
part_of_front (suc i) j (suc m) (x ∷ xs) u le within = part_of_front i j m xs u (omega (arith, le)) (omega (arith, within))

drop_front : (n : ℕ) (xs u : List ℕ) → n ≤ length xs → drop n (take n xs ++ u) ≡ u
drop_front zero xs u within = refl
drop_front (suc n) [] u within = absurd (omega (arith, within))
drop_front (suc n) (x ∷ xs) u within = drop_front n xs u (omega (arith, within))

take_two : (m n : ℕ) (xs : List ℕ) → take (m + n) xs ≡ take m xs ++ take n (drop m xs)
take_two zero n xs = let same : 0 + n ≡ n = omega arith in ap (λ (k : ℕ). take k xs) same
take_two (suc m) n [] = let same : suc m + n ≡ suc (m + n) = omega arith in ap (λ (k : ℕ). take {A = ℕ} k []) same ∙ empty n
  where
    empty : (n : ℕ) → [] ≡ take {A = ℕ} n []
    empty zero = refl
    empty (suc n) = refl
take_two (suc m) n (x ∷ xs) = let same : suc m + n ≡ suc (m + n) = omega arith in ap (λ (k : ℕ). take k (x ∷ xs)) same ∙ ap (λ (l : List ℕ). x ∷ l) (take_two m n xs)

-- ---- one record

offset_least : (h : Bool) → 5 ≤ (if h then 37 else 5)
offset_least true = omega arith
offset_least false = omega arith

digest_front : (h : Bool) (m : ℕ) (xs u : List ℕ) → (if h then 37 else 5) ≤ suc m → m ≤ length xs → (if h then take 32 (drop 4 (take m xs ++ u)) else []) ≡ (if h then take 32 (drop 4 xs) else [])
digest_front true m xs u le within = part_of_front 4 32 m xs u (omega (arith, le)) within
digest_front false m xs u le within = refl

module _ (l : Layout) (p : ℕ) (behind u : List ℕ) (stands : is_record l p behind ≡ true) where
  abbrev body : List ℕ
  body = body_behind l behind

  whole_test : Bool
  whole_test = nat_le (body_offset l + told_length behind) (1 + length behind)

  parts : ((nat_le (body_offset l + told_length behind) (1 + length behind) && nat_le (told_length behind) (body_most l.profile)) ≡ true)
      × (bytes_eq (digest_behind l behind) (record_digest l p (body_behind l behind)) ≡ true)
  parts = and_parts (nat_le (body_offset l + told_length behind) (1 + length behind) && nat_le (told_length behind) (body_most l.profile)) (bytes_eq (digest_behind l behind) (record_digest l p (body_behind l behind))) stands

  sizes : (nat_le (body_offset l + told_length behind) (1 + length behind) ≡ true) × (nat_le (told_length behind) (body_most l.profile) ≡ true)
  sizes = and_parts (nat_le (body_offset l + told_length behind) (1 + length behind)) (nat_le (told_length behind) (body_most l.profile)) parts.0

  within : body_offset l + told_length behind ≤ 1 + length behind
  within = leb-true (body_offset l + told_length behind) (1 + length behind) sizes.0

  pub body_long : length body ≡ told_length behind
  body_long = omega (arith, within, length-take (told_length behind) (drop (body_offset l) (OPEN_GATE ∷ behind)), length-drop (body_offset l) (OPEN_GATE ∷ behind))

  pub least : 5 ≤ record_size l body
  least = omega (arith, offset_least (has_digests l))

  pub fits : record_size l body ≤ 1 + length behind
  fits = omega (arith, within, body_long)

  abbrev m : ℕ
  m = record_size l body - 1

  abbrev other : List ℕ
  other = take m behind ++ u

  sized : record_size l body ≡ suc m
  sized = omega (arith, least)

  short : m ≤ length behind
  short = omega (arith, fits, least)

  pub front : take (record_size l body) (OPEN_GATE ∷ behind) ++ u ≡ OPEN_GATE ∷ other
  front = ap (λ (n : ℕ). take n (OPEN_GATE ∷ behind) ++ u) sized

  same_told : told_length other ≡ told_length behind
  same_told = ap (λ (b : List ℕ). from_le_bytes w32 b) (take_front 4 m behind u (omega (arith, least)) short)

  pub same_body : body_behind l other ≡ body
  same_body =
      ap (λ (n : ℕ). take n (drop (body_offset l) (OPEN_GATE ∷ other))) same_told
      ∙ part_of_front (body_offset l) (told_length behind) (suc m) (OPEN_GATE ∷ behind) u (omega (arith, body_long, least)) (omega (arith, short))

  same_digest : digest_behind l other ≡ digest_behind l behind
  same_digest = digest_front (has_digests l) m behind u (omega (arith, sized)) short

  pub still_stands : is_record l p other ≡ true
  still_stands =
      let whole : nat_le (body_offset l + told_length other) (1 + length other) ≡ true = le-leb _ _ (omega (arith, same_told, body_long, sized, length-append (take m behind) u, length-take m behind, short)) in
      let most : nat_le (told_length other) (body_most l.profile) ≡ true = ap (λ (n : ℕ). nat_le n (body_most l.profile)) same_told ∙ sizes.1 in
      let digest : bytes_eq (digest_behind l other) (record_digest l p (body_behind l other)) ≡ true = (λ i. bytes_eq (same_digest i) (record_digest l p (same_body i))) ∙ parts.1 in
      λ i. whole i && most i && digest i

  pub left : drop (record_size l body) (OPEN_GATE ∷ other) ≡ u
  left = ap (λ (w : List ℕ). drop (record_size l body) w) (sym front) ∙ drop_front (record_size l body) (OPEN_GATE ∷ behind) u (omega (arith, fits))

-- ---- all records

open_is : (g : ℕ) → not (g == OPEN_GATE) ≡ false → g ≡ OPEN_GATE
open_is g is = grind (arith, nat_tests)

abbrev stepped : ℕ → Layout → ℕ → ℕ → Bool → List ℕ → List ℕ → Scan
stepped k l p gate stands body after =
    if not (gate == OPEN_GATE) then ends p at_closed
    else if not stands then ends p at_damaged
    else with_body body (scanned_by k l (p + record_size l body) after)

pub record Goes (l : Layout) (p : ℕ) (bytes tail : List ℕ) (k : ℕ) (s : Scan) : Type 0 where
  pub above : p ≤ s.place
  pub inside : s.place - p < length bytes
  pub few : length s.bodies ≤ s.place - p
  pub on : scanned_by (k + length s.bodies) l p (take (s.place - p) bytes ++ tail) ≡ scans_on s.bodies (scanned_by k l s.place tail)

closed_here : (l : Layout) (p gate : ℕ) (behind tail : List ℕ) (k : ℕ) → Goes l p (gate ∷ behind) tail k (ends p at_closed)
closed_here l p gate behind tail k =
    let none : p - p ≡ 0 = omega arith in
    let same : k + 0 ≡ k = omega arith in record {
      above = omega arith;
      inside = omega (arith, none);
      few = omega arith;
      on = ap (λ (n : ℕ). scanned_by (k + 0) l p (take n (gate ∷ behind) ++ tail)) none ∙ ap (λ (n : ℕ). scanned_by n l p tail) same;
    }

module _ (k : ℕ) (l : Layout) (p : ℕ) (behind tail : List ℕ) (fuel : ℕ)
    (ih : (q : ℕ) (bytes : List ℕ) → (scanned_by k l q bytes).end ≡ at_closed → Goes l q bytes tail fuel (scanned_by k l q bytes)) where
  abbrev size : ℕ
  size = record_size l (body_behind l behind)

  abbrev after : ℕ → List ℕ
  after gate = drop size (gate ∷ behind)

  abbrev more : ℕ → Scan
  more gate = scanned_by k l (p + size) (after gate)

  open_here : is_record l p behind ≡ true → (more OPEN_GATE).end ≡ at_closed → Goes l p (OPEN_GATE ∷ behind) tail fuel (with_body (body_behind l behind) (more OPEN_GATE))
  open_here stands is =
      let rest = ih (p + size) (after OPEN_GATE) is in
      let s = more OPEN_GATE in
      let n = s.place - (p + size) in
      let u = take n (after OPEN_GATE) ++ tail in
      let fitting = fits l p behind u stands in
      let long = least l p behind u stands in
      let o = other l p behind u stands in
      let far : s.place - p ≡ size + n = omega (arith, rest.above) in
      let grown : fuel + length (body_behind l behind ∷ s.bodies) ≡ suc (fuel + length s.bodies) = omega arith in
      let bytes : take (s.place - p) (OPEN_GATE ∷ behind) ++ tail ≡ OPEN_GATE ∷ o =
      ap (λ (m : ℕ). take m (OPEN_GATE ∷ behind) ++ tail) far
      ∙ ap (λ (x : List ℕ). x ++ tail) (take_two size n (OPEN_GATE ∷ behind))
      ∙ append_assoc (take size (OPEN_GATE ∷ behind)) (take n (after OPEN_GATE)) tail
      ∙ front l p behind u stands in
      let still = still_stands l p behind u stands in
      let same = same_body l p behind u stands in
      record {
        above = omega (arith, rest.above);
        inside = omega (arith, rest.inside, far, fitting, length-drop size (OPEN_GATE ∷ behind));
        few = omega (arith, rest.few, far, long);
        on = ap (λ (m : ℕ). scanned_by m l p (take (s.place - p) (OPEN_GATE ∷ behind) ++ tail)) grown
            ∙ ap (λ (x : List ℕ). scanned_by (suc (fuel + length s.bodies)) l p x) bytes
            ∙ (λ i. stepped (fuel + length s.bodies) l p OPEN_GATE (still i) (same i) (drop (record_size l (same i)) (OPEN_GATE ∷ o)))
            ∙ ap (λ (x : List ℕ). with_body (body_behind l behind) (scanned_by (fuel + length s.bodies) l (p + size) x)) (left l p behind u stands)
            ∙ ap (λ (x : Scan). with_body (body_behind l behind) x) rest.on;
      }

  by_record : (v : Bool) → is_record l p behind ≡ v
      → (if not v then ends p at_damaged else with_body (body_behind l behind) (more OPEN_GATE)).end ≡ at_closed
      → Goes l p (OPEN_GATE ∷ behind) tail fuel (if not v then ends p at_damaged else with_body (body_behind l behind) (more OPEN_GATE))
  by_record false stands is = absurd (cc is)
  by_record true stands is = open_here stands is

  by_gate : (gate : ℕ) (v : Bool) → not (gate == OPEN_GATE) ≡ v
      → (if v then ends p at_closed else if not (is_record l p behind) then ends p at_damaged else with_body (body_behind l behind) (more gate)).end ≡ at_closed
      → Goes l p (gate ∷ behind) tail fuel (if v then ends p at_closed else if not (is_record l p behind) then ends p at_damaged else with_body (body_behind l behind) (more gate))
  by_gate gate true shut is = closed_here l p gate behind tail fuel
  by_gate gate false shut is =
      let same = open_is gate shut in
      let s : ℕ → Scan = λ g. if not (is_record l p behind) then ends p at_damaged else with_body (body_behind l behind) (more g) in
      subst (λ (g : ℕ). Goes l p (g ∷ behind) tail fuel (s g)) (sym same)
      (by_record (is_record l p behind) refl (ap (λ (g : ℕ). (s g).end) (sym same) ∙ is))

pub goes : (k : ℕ) (l : Layout) (p : ℕ) (bytes tail : List ℕ) (fuel : ℕ) → (scanned_by k l p bytes).end ≡ at_closed → Goes l p bytes tail fuel (scanned_by k l p bytes)
goes zero l p bytes tail fuel is = absurd (cc is)
goes (suc k) l p [] tail fuel is = absurd (cc is)
goes (suc k) l p (gate ∷ behind) tail fuel is =
    by_gate k l p behind tail fuel (λ q bytes end. goes k l q bytes tail fuel end) gate (not (gate == OPEN_GATE)) refl is

-- ---- enough gates are enough

pub more_gates : (k m : ℕ) (l : Layout) (p : ℕ) (bytes : List ℕ) → length bytes + 1 ≤ k → length bytes + 1 ≤ m → scanned_by k l p bytes ≡ scanned_by m l p bytes
more_gates zero m l p bytes enough also = absurd (omega (arith, enough))
more_gates (suc k) zero l p bytes enough also = absurd (omega (arith, also))
more_gates (suc k) (suc m) l p [] enough also = refl
more_gates (suc k) (suc m) l p (gate ∷ behind) enough also =
    let size = record_size l (body_behind l behind) in
    let long : 5 ≤ size = omega (arith, offset_least (has_digests l)) in
    let next = more_gates k m l (p + size) (drop size (gate ∷ behind)) (omega (arith, enough, long, length-drop size (gate ∷ behind))) (omega (arith, also, long, length-drop size (gate ∷ behind))) in
    λ i. if not (gate == OPEN_GATE) then ends p at_closed
    else if not (is_record l p behind) then ends p at_damaged
    else with_body (body_behind l behind) (next i)

pub scan_goes_on : ScanGoesOn
scan_goes_on l p bytes tail is =
    let s = scanned l p bytes in
    let n = s.place - p in
    let whole = take n bytes ++ tail in
    let first = goes (length bytes + 1) l p bytes tail (length tail + 1) is in
    let all = goes (length bytes + 1) l p bytes tail (length tail + 1 + n) is in
    let long : length whole ≡ n + length tail = omega (arith, length-append (take n bytes) tail, length-take n bytes, first.inside) in
    more_gates (length whole + 1) (length tail + 1 + n + length s.bodies) l p whole (omega arith) (omega (arith, long))
    ∙ all.on
    ∙ ap (λ (x : Scan). scans_on s.bodies x) (more_gates (length tail + 1 + n) (length tail + 1) l s.place tail (omega arith) (omega arith))
