-- One record of a scan, from what the calls of a disk read.
use Rattle.std.proofs.Common.{◌≡◌, refl, sym, ◌∙◌, ap, subst, ℕ, zero, suc, ◌+◌, ◌<◌, ◌≤◌, Bool, true, false, not, ◌&&◌, ◌==◌, nat_le, List, [], ◌∷◌, ◌++◌, ◌⊎◌, length, take, drop, IsTrue, Option, Some, inl, inr, arith, length-take, length-drop, append_assoc}
use Rattle.std.specs.Prelude.{◌↔◌, if◌then◌else◌, slice_get, slice_index}
use Rattle.std.proofs.lemmas.Bool.{le-leb, leb-true, cases_lt}
use Rattle.std.proofs.lemmas.List.{append-nil, drop-drop, drop_all}
use Rattle.dkv_base.specs.declared.types.Layout.{Layout}
use Rattle.dkv_base.specs.declared.limits.TheConstants.{MAX_RECORD_BYTES}
use Rattle.dkv_journal.specs.declared.gates.TheConstants.{OPEN_GATE}
use Rattle.dkv_journal.specs.Records.{Scan, End, at_closed, at_damaged, ends, with_body, shows_open, shows_closed, is_open_at, is_closed_at, record_size, told_length, body_behind, is_record, scanned_by, scanned, scanned_at, first_layout}
use Rattle.dkv_journal.specs.Laws.{scans_on}
use Rattle.dkv_journal.proofs.Prefix.{more_gates}

-- ---- places

index_take : (n i : ℕ) (xs : List ℕ) → i < n → slice_index (take n xs) i ≡ slice_index xs i
index_take zero i xs lt = absurd (omega (arith, lt))
index_take (suc n) i [] lt = refl
index_take (suc n) zero (x ∷ xs) lt = refl
index_take (suc n) (suc i) (x ∷ xs) lt = index_take n i xs (omega (arith, lt))

nowhere : (i : ℕ) → slice_index [] i ≡ 0
nowhere zero = refl
nowhere (suc i) = refl

index_drop : (p i : ℕ) (xs : List ℕ) → slice_index (drop p xs) i ≡ slice_index xs (p + i)
index_drop zero i xs = let same : i ≡ 0 + i = omega arith in ap (slice_index xs) same
index_drop (suc p) i [] = nowhere i ∙ sym (nowhere (suc p + i))
index_drop (suc p) i (x ∷ xs) = let same : suc (p + i) ≡ suc p + i = omega arith in index_drop p i xs ∙ ap (slice_index (x ∷ xs)) same

-- what was read of a file stands there
pub stands_at : (p i : ℕ) (into file : List ℕ) → i < 5 → take 5 into ≡ take 5 (drop p file) → slice_index into i ≡ slice_index file (p + i)
stands_at p i into file lt is = sym (index_take 5 i into lt) ∙ ap (λ (l : List ℕ). slice_index l i) is ∙ index_take 5 i (drop p file) lt ∙ index_drop p i file

pub length_at : (p i : ℕ) (into file : List ℕ) → i < 4 → take 5 into ≡ take 5 (drop p file) → slice_index (take 4 (drop (p + 1) file)) i ≡ slice_index into (i + 1)
length_at p i into file lt is =
    let same : p + 1 + i ≡ p + (i + 1) = omega arith in
    index_take 4 i (drop (p + 1) file) lt ∙ index_drop (p + 1) i file ∙ ap (slice_index file) same ∙ sym (stands_at p (i + 1) into file (omega (arith, lt)) is)

get_is : (p : ℕ) (file : List ℕ) → p < length file → slice_get file p ≡ Some (slice_index file p)
get_is p [] lt = absurd (omega (arith, lt))
get_is zero (x ∷ file) lt = refl
get_is (suc p) (x ∷ file) lt = get_is p file (omega (arith, lt))

pub open_here : (p : ℕ) (file : List ℕ) → p < length file → slice_index file p ≡ OPEN_GATE → IsTrue (is_open_at p file)
open_here p file lt is = subst (λ (o : Option ℕ). IsTrue (shows_open o)) (sym (get_is p file lt ∙ ap (λ (g : ℕ). Some g) is)) refl

-- ---- a gate and what stands behind it

record Front (p : ℕ) (file : List ℕ) : Type 0 where
  gate : ℕ
  behind : List ℕ
  is : drop p file ≡ gate ∷ behind
  got : slice_get file p ≡ Some gate

front : (p : ℕ) (file : List ℕ) → p < length file → Front p file
front p [] lt = absurd (omega (arith, lt))
front zero (x ∷ file) lt = record { gate = x; behind = file; is = refl; got = refl }
front (suc p) (x ∷ file) lt = let f = front p file (omega (arith, lt)) in record { gate = f.gate; behind = f.behind; is = f.is; got = f.got }

is_true : (b : Bool) → IsTrue b → b ≡ true
is_true true is = refl
is_true false is = absurd (cc is)

not_shut : (g : ℕ) → shows_open (Some g) ≡ true → not (g == OPEN_GATE) ≡ false
not_shut g is = ap not is

shut_or_open : (b : Bool) → not b ≡ false → b ≡ true
shut_or_open true is = refl
shut_or_open false is = absurd (cc is)

within : (p : ℕ) (file : List ℕ) → IsTrue (is_closed_at p file) → p < length file
within p [] shut = absurd (cc shut)
within zero (x ∷ file) shut = omega arith
within (suc p) (x ∷ file) shut = let lt = within p file shut in omega (arith, lt)

within_open : (p : ℕ) (file : List ℕ) → IsTrue (is_open_at p file) → p < length file
within_open p [] shut = absurd (cc shut)
within_open zero (x ∷ file) shut = omega arith
within_open (suc p) (x ∷ file) shut = let lt = within_open p file shut in omega (arith, lt)

-- ---- one step of the scan

abbrev step_of : Layout → ℕ → ℕ → List ℕ → Bool → Bool → Scan
step_of l p g behind shut stands =
    if shut then ends p at_closed
    else if not stands then ends p at_damaged
    else with_body (body_behind l behind) (scanned_by (length (g ∷ behind)) l (p + record_size l (body_behind l behind)) (drop (record_size l (body_behind l behind)) (g ∷ behind)))

unrolled : (l : Layout) (p g : ℕ) (behind : List ℕ) → scanned l p (g ∷ behind) ≡ step_of l p g behind (not (g == OPEN_GATE)) (is_record l p behind)
unrolled l p g behind = let more : length (g ∷ behind) + 1 ≡ suc (length (g ∷ behind)) = omega arith in ap (λ (k : ℕ). scanned_by k l p (g ∷ behind)) more

nothing_left : (p : ℕ) → scanned first_layout p [] ≡ ends p at_damaged
nothing_left p = let more : length {A = ℕ} [] + 1 ≡ suc 0 = omega arith in ap (λ (k : ℕ). scanned_by k first_layout p []) more

-- a record stands where it is whole and not too long
stands_if : (p : ℕ) (behind : List ℕ) (a b : Bool) → nat_le (5 + told_length behind) (1 + length behind) ≡ a → nat_le (told_length behind) MAX_RECORD_BYTES ≡ b → is_record first_layout p behind ≡ (a && b && true)
stands_if p behind a b whole most = λ i. whole i && most i && true

falls : (a b : Bool) → a ≡ false → (a && b && true) ≡ false
falls true b is = absurd (cc is)
falls false b is = refl

falls_too : (a b : Bool) → b ≡ false → (a && b && true) ≡ false
falls_too true b is = ap (λ (v : Bool). v && true) is
falls_too false b is = refl

above : (m n : ℕ) (b : Bool) → nat_le m n ≡ b → n < m → b ≡ false
above m n true is lt = absurd (omega (arith, lt, leb-true m n is))
above m n false is lt = refl

cut_short : (p : ℕ) (behind : List ℕ) → 1 + length behind < 5 + told_length behind → is_record first_layout p behind ≡ false
cut_short p behind lt =
    let a = nat_le (5 + told_length behind) (1 + length behind) in
    let b = nat_le (told_length behind) MAX_RECORD_BYTES in
    stands_if p behind a b refl refl ∙ falls a b (above (5 + told_length behind) (1 + length behind) a refl lt)

too_long : (p : ℕ) (behind : List ℕ) → MAX_RECORD_BYTES < told_length behind → is_record first_layout p behind ≡ false
too_long p behind lt =
    let a = nat_le (5 + told_length behind) (1 + length behind) in
    let b = nat_le (told_length behind) MAX_RECORD_BYTES in
    stands_if p behind a b refl refl ∙ falls_too a b (above (told_length behind) MAX_RECORD_BYTES b refl lt)

whole : (p : ℕ) (behind : List ℕ) → 5 + told_length behind ≤ 1 + length behind → told_length behind ≤ MAX_RECORD_BYTES → is_record first_layout p behind ≡ true
whole p behind le short = stands_if p behind true true (le-leb _ _ le) (le-leb _ _ short)

-- ---- at a place of a file

pub closed_scan : (l : Layout) (p : ℕ) (file : List ℕ) → IsTrue (is_closed_at p file) → scanned_at l p file ≡ ends p at_closed
closed_scan l p file shut =
    let f = front p file (within p file shut) in
    let is : not (f.gate == OPEN_GATE) ≡ true = ap shows_closed (sym f.got) ∙ is_true (is_closed_at p file) shut in
    ap (scanned l p) f.is ∙ unrolled l p f.gate f.behind ∙ ap (λ (v : Bool). step_of l p f.gate f.behind v (is_record l p f.behind)) is

broken : (p : ℕ) (file : List ℕ) (f : Front p file) → not (f.gate == OPEN_GATE) ≡ false → is_record first_layout p f.behind ≡ false → scanned_at first_layout p file ≡ ends p at_damaged
broken p file f opens falls =
    ap (scanned first_layout p) f.is ∙ unrolled first_layout p f.gate f.behind ∙ (λ i. step_of first_layout p f.gate f.behind (opens i) (falls i))

cases_le : (m n : ℕ) → (m ≤ n) ⊎ (n < m)
cases_le m n = elim (cases_lt n m) [ inl lt ↦ inr lt | inr le ↦ inl le ]

ends_at : (p : ℕ) (file : List ℕ) → is_closed_at p file ≡ false → length file < p + 5 → (length file ≤ p) ⊎ (p < length file) → scanned_at first_layout p file ≡ ends p at_damaged
ends_at p file opened short (inl le) = ap (scanned first_layout p) (drop_all p file le) ∙ nothing_left p
ends_at p file opened short (inr lt) =
    let f = front p file lt in
    broken p file f (ap shows_closed (sym f.got) ∙ opened) (cut_short p f.behind (omega (arith, short, lt, length-drop p file, ap length f.is)))

pub ends_scan : (p : ℕ) (file : List ℕ) → is_closed_at p file ≡ false → length file < p + 5 → scanned_at first_layout p file ≡ ends p at_damaged
ends_scan p file opened short = ends_at p file opened short (cases_le (length file) p)

-- a record that isn't whole is too long, or ends behind the file
pub not_whole : (count left : ℕ) (b : Bool) → (IsTrue b ↔ (count ≤ MAX_RECORD_BYTES) × (5 + count ≤ left)) → b ≡ false → (MAX_RECORD_BYTES < count) ⊎ (left < 5 + count)
not_whole count left true whole is = absurd (cc is)
not_whole count left false whole is =
    elim (cases_le count MAX_RECORD_BYTES) [
      | inl le ↦ elim (cases_le (5 + count) left) [ inl fits ↦ absurd (cc (whole.1 (le, fits))) | inr lt ↦ inr lt ]
      | inr lt ↦ inl lt
    ]

told_is : (p : ℕ) (file : List ℕ) (f : Front p file) → told_length (drop (p + 1) file) ≡ told_length f.behind
told_is p file f = ap told_length (sym (drop-drop 1 p file) ∙ ap (λ (l : List ℕ). drop 1 l) f.is)

opens_at : (p : ℕ) (file : List ℕ) (f : Front p file) → IsTrue (is_open_at p file) → not (f.gate == OPEN_GATE) ≡ false
opens_at p file f is = not_shut f.gate (ap shows_open (sym f.got) ∙ is_true (is_open_at p file) is)

-- too long, or not all there
pub damaged_scan : (p count : ℕ) (file : List ℕ) → IsTrue (is_open_at p file) → count ≡ told_length (drop (p + 1) file) → (MAX_RECORD_BYTES < count) ⊎ (length file < p + (5 + count)) → scanned_at first_layout p file ≡ ends p at_damaged
damaged_scan p count file opened told (inl long) =
    let lt = within_open p file opened in
    let f = front p file lt in
    broken p file f (opens_at p file f opened) (too_long p f.behind (omega (arith, long, told, told_is p file f)))
damaged_scan p count file opened told (inr short) =
    let lt = within_open p file opened in
    let f = front p file lt in
    broken p file f (opens_at p file f opened) (cut_short p f.behind (omega (arith, short, told, told_is p file f, lt, length-drop p file, ap length f.is)))

-- a record that stands
pub record_scan : (p count : ℕ) (body file : List ℕ) → IsTrue (is_open_at p file) → count ≡ told_length (drop (p + 1) file) → count ≤ MAX_RECORD_BYTES → p + (5 + count) ≤ length file → body ≡ take count (drop (p + 5) file)
    → scanned_at first_layout p file ≡ with_body body (scanned_at first_layout (p + record_size first_layout body) file)
record_scan p count body file opened told short within body_is =
    let lt = within_open p file opened in
    let f = front p file lt in
    let n = told_length f.behind in
    let same : n ≡ count = sym (told_is p file f) ∙ sym told in
    let long : length file ≡ p + (1 + length f.behind) = omega (arith, lt, length-drop p file, ap length f.is) in
    let stands = whole p f.behind (omega (arith, same, within, long)) (omega (arith, same, short)) in
    let b = body_behind first_layout f.behind in
    let behind_is : drop 4 f.behind ≡ drop (p + 5) file = sym (sym (drop-drop 5 p file) ∙ ap (λ (l : List ℕ). drop 5 l) f.is) in
    let is : b ≡ body = ap (λ (l : List ℕ). take n l) behind_is ∙ ap (λ (k : ℕ). take k (drop (p + 5) file)) same ∙ sym body_is in
    let size = record_size first_layout b in
    let sized : length b ≡ n = omega (arith, length-take n (drop 4 f.behind), length-drop 4 f.behind, same, within, long) in
    let rest : drop size (f.gate ∷ f.behind) ≡ drop (p + size) file = sym (sym (drop-drop size p file) ∙ ap (λ (l : List ℕ). drop size l) f.is) in
    ap (scanned first_layout p) f.is
    ∙ unrolled first_layout p f.gate f.behind
    ∙ (λ i. step_of first_layout p f.gate f.behind (opens_at p file f opened i) (stands i))
    ∙ ap (λ (s : Scan). with_body b s)
    (more_gates (length (f.gate ∷ f.behind)) (length (drop size (f.gate ∷ f.behind)) + 1) first_layout (p + size) (drop size (f.gate ∷ f.behind)) (omega (arith, length-drop size (f.gate ∷ f.behind))) (omega arith)
    ∙ ap (λ (l : List ℕ). scanned first_layout (p + size) l) rest)
    ∙ ap (λ (x : List ℕ). with_body x (scanned_at first_layout (p + record_size first_layout x) file)) is

-- ---- one more body

pub one_more : (bodies : List (List ℕ)) (body : List ℕ) (s : Scan) → scans_on bodies (with_body body s) ≡ scans_on (bodies ++ body ∷ []) s
one_more bodies body s = ap (λ (l : List (List ℕ)). (let t : Scan = record s { bodies = l } in t)) (sym (append_assoc bodies (body ∷ []) s.bodies))

pub all_before : (bodies : List (List ℕ)) (p : ℕ) (how : End) → scans_on bodies (ends p how) ≡ record { bodies = bodies; place = p; end = how }
all_before bodies p how = ap (λ (l : List (List ℕ)). (let t : Scan = record { bodies = l; place = p; end = how } in t)) (append-nil bodies)
