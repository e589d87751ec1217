-- The first space of some bytes, and what httparse answers on them.
use Rattle.std.proofs.Common.{ℕ, ◌≡◌, ◌+◌, ◌<◌, ◌≤◌, zero, suc, refl, sym, ap, ◌∙◌, subst, Bool, true, false, not, List, [], ◌∷◌, ◌++◌, length, length-append, take, drop, get_or, arith, eqb-true, add-one, get_or-take, length-take, length-drop, ◌-◌}
use Rattle.std.specs.Prelude.{◌==◌, IsTrue}
use Rattle.std.specs.List.{list_all}
use Rattle.std.proofs.Math.Seq.{split_at}
use Rattle.std.proofs.lemmas.List.{length-take-le, take_more, take_all, length-map}
use Rattle.std.proofs.lemmas.List.Sums.{list_all-from_AllPass}
use Rattle.std.proofs.lemmas.Bool.{false≢true}
use Rattle.memchr.specs.Find.{Nowhere, NoneBefore, Passes, is_byte}
use Rattle.httparse.specs.Ascii.{space}
use Rattle.httparse.specs.Grammar.{RequestHead, ReadsRequest, HasNoRequest, MayBecomeRequest, print_request}
use Rattle.httparse.specs.Spans.{name_and_value, header_bytes, AreFieldsAt, IsSectionWithin}
use Rattle.httparse.specs.declared.spans.HeaderSpan.{HeaderSpan}
use Rattle.dkv_heads.specs.Heads.{is_open, NeverHead}
use Rattle.dkv_heads.specs.Judged.{spaceless, IsOpenAt, NoSpace}
use Rattle.dkv_heads.specs.Scans.{IsOpen, IsNever}
use Rattle.dkv_heads.proofs.Opens.{first_space, one_space_no_head, waits_open, target_open, target_never}

seam : (front target : List ℕ) → get_or (front ++ space ∷ target) (length front) 0 ≡ space
seam [] target = refl
seam (b ∷ front) target = seam front target

pub open_none : (bytes : List ℕ) → Nowhere (Passes (is_byte 32) bytes) 0 (length bytes) → NoSpace bytes
open_none bytes none front target e x y =
    let at : get_or bytes (length front) 0 ≡ 32 = ap (λ l. get_or l (length front) 0) e ∙ seam front target in
    none (length front) (omega arith) (omega (arith, ap length e, length-append front (space ∷ target))) (ap (λ (b : ℕ). b == 32) at)

is_no : (b : Bool) → ¬ (b ≡ true) → not b ≡ true
is_no true h = absurd (h refl)
is_no false h = refl

found_front : (bytes : List ℕ) (k : ℕ) → NoneBefore (Passes (is_byte 32) bytes) 0 (length bytes) k → spaceless (take k bytes)
found_front bytes k x = list_all-from_AllPass (λ b. not (b == space)) (take k bytes) (λ j d less.
    let short : j < k = omega (arith, less, length-take k bytes) in
    let inside : j < length bytes = (let high = x.high in omega (arith, short, high)) in
    is_no (get_or (take k bytes) j d == 32) (λ e. x.before j (omega arith) short (ap (λ (b : ℕ). b == 32) (same_default bytes j 0 d inside ∙ sym (get_or-take k bytes j d short)) ∙ e)))
  where
    same_default : (xs : List ℕ) (j c d : ℕ) → j < length xs → get_or xs j c ≡ get_or xs j d
    same_default [] j c d less = absurd (omega arith)
    same_default (b ∷ xs) zero c d less = refl
    same_default (b ∷ xs) (suc j) c d less = same_default xs j c d (omega arith)

found_parts : (bytes : List ℕ) (k : ℕ) → k < length bytes → Passes (is_byte 32) bytes k → bytes ≡ take k bytes ++ space ∷ drop (k + 1) bytes
found_parts bytes k less e =
    let at : get_or bytes k 0 ≡ 32 = eqb-true _ 32 e in
    split_at bytes k 0 less ∙ ap (λ (b : ℕ). take k bytes ++ b ∷ drop (suc k) bytes) at ∙ ap (λ n. take k bytes ++ space ∷ drop n bytes) (sym (add-one k))

pub found_open : (bytes : List ℕ) (k : ℕ) → NoneBefore (Passes (is_byte 32) bytes) 0 (length bytes) k → Passes (is_byte 32) bytes k → IsTrue (list_all is_open (drop (k + 1) bytes)) → IsOpenAt bytes k
found_open bytes k x e y = (x.high, found_front bytes k x, found_parts bytes k x.high e, y)

pub found_closed : (bytes : List ℕ) (k : ℕ) → NoneBefore (Passes (is_byte 32) bytes) 0 (length bytes) k → Passes (is_byte 32) bytes k → list_all is_open (drop (k + 1) bytes) ≡ false → NoSpace bytes
found_closed bytes k x e y front target p q r =
    let same = first_space front (take k bytes) target (drop (k + 1) bytes) q (found_front bytes k x) (sym p ∙ found_parts bytes k x.high e) in
    false≢true (sym y ∙ ap (list_all is_open) (sym same.1) ∙ r)

-- ---- the answers

prefix : (bytes : List ℕ) (k : ℕ) → IsOpenAt bytes k → take (k + 1) bytes ≡ take k bytes ++ space ∷ []
prefix bytes k x =
    let at : get_or bytes k 0 ≡ 32 = ap (λ l. get_or l k 0) x.2 ∙ there in
    take_more bytes k 0 x.0 ∙ ap (λ (b : ℕ). take k bytes ++ b ∷ []) at
  where
    there : get_or (take k bytes ++ space ∷ drop (k + 1) bytes) k 0 ≡ 32
    there = subst (λ n. get_or (take k bytes ++ space ∷ drop (k + 1) bytes) n 0 ≡ 32) (length-take-le k bytes (let less = x.0 in omega (arith, less))) (seam (take k bytes) (drop (k + 1) bytes))

pub some_open : (bytes : List ℕ) (k : ℕ) → IsOpenAt bytes k → HasNoRequest (take (k + 1) bytes) → MayBecomeRequest (take (k + 1) bytes) → IsOpen bytes
some_open bytes k x none may =
    target_open bytes (take k bytes) (drop (k + 1) bytes) x.1 x.3 x.2 (subst IsOpen (prefix bytes k x) (waits_open (take (k + 1) bytes) none may))

pub some_never : (bytes : List ℕ) (k : ℕ) → IsOpenAt bytes k → NeverHead (take (k + 1) bytes) → IsNever bytes
some_never bytes k x never = target_never bytes (take k bytes) (drop (k + 1) bytes) x.1 x.3 x.2 (subst NeverHead (prefix bytes k x) never)

pub few_fields : (bytes : List ℕ) (headers : List HeaderSpan) (len count : ℕ) (h : RequestHead) → length headers ≡ 64 → IsSectionWithin bytes headers len count → AreFieldsAt bytes headers count h.fields → length h.fields ≤ 64
few_fields bytes headers len count h room is e =
    let same = ap length e in
    let most = is.count_fits in
    omega (arith, same, most, room, length-map (take count headers) (header_bytes bytes), length-map h.fields name_and_value, length-take count headers)

pub no_whole : (bytes : List ℕ) (k : ℕ) (h : RequestHead) (rest : List ℕ) → IsOpenAt bytes k → ReadsRequest (take (k + 1) bytes) h rest → length h.fields ≤ 64 → length bytes ≤ 65536 → ⊥
no_whole bytes k h rest x reads few short =
    let none = one_space_no_head (take (k + 1) bytes) (take k bytes) [] x.1 refl (prefix bytes k x) in
    let size : length (print_request h) ≤ 65536 = omega (arith, short, length-take (k + 1) bytes, ap length reads.1, length-append (print_request h) rest) in
    none h rest (record { reads = reads; lines = few; size = size })

pub range_tail : (bytes : List ℕ) (k : ℕ) → take (length bytes - k) (drop k bytes) ≡ drop k bytes
range_tail bytes k = take_all (length bytes - k) (drop k bytes) (omega (arith, length-drop k bytes))
