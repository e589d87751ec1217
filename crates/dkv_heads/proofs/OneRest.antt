-- A rest stands in one way, unless it has many lines.
use Rattle.std.proofs.Common.{ℕ, ◌≡◌, ◌-◌, ◌<◌, ◌≤◌, sym, ap, ◌∙◌, subst, List, [], ◌∷◌, ◌++◌, length, length-append, append_assoc, take, drop, arith, inl, inr, Option, Some}
use Rattle.std.specs.Prelude.{IsTrue, IsFalse, flat_map, ◌⊎◌}
use Rattle.std.proofs.lemmas.List.{append-nil, take_all}
use Rattle.std.proofs.lemmas.Bool.{false≢true}
use Rattle.httparse.specs.Grammar.{RequestHead, print_request, ReadsRequest, ReadsChunkLine, NeverHasChunkLine, MayBecomeChunkLine, chunk_size, ReadsSection, NeverHasSection, MayBecomeSection}
use Rattle.httparse.proofs.GrammarLemmas.{request_unique}
use Rattle.dkv_heads.specs.Heads.{head_limit, MayBecomeHead, NeverHead, EndsInTarget, has_many_lines, Framing, sized, chunked, unclear, framing, fields_of}
use Rattle.dkv_heads.specs.Chunks.{Rest, empty, IsLineRest, IsTrailerRest, section_limit, Chunk, print_chunk, chunk_bytes, IsRestAtLine, IsRestAfterLine, end_rest}
use Rattle.dkv_base.specs.declared.types.Profile.{Profile}
use Rattle.dkv_heads.specs.Requests.{body_limit, IsBodyRest, sized_rest, IsRestAfterHead, IsHeadless, IsRest}
use Rattle.dkv_heads.specs.Laws.{RestIsOne}
use Rattle.dkv_heads.proofs.OneRequest.{chunk_one, Each, each}
use Rattle.dkv_heads.proofs.Apart.{line_there, not_at_chunk, bytes_cons, print_some}
use Rattle.dkv_heads.proofs.BadStays.{not_both}

-- ---- heads

open_or_refused : (first : List ℕ) → IsFalse (has_many_lines first) → MayBecomeHead first ⊎ EndsInTarget first ⊎ IsTrue (has_many_lines first)
    → ¬ ((NeverHead first × ¬ (EndsInTarget first)) ⊎ IsTrue (has_many_lines first))
open_or_refused first few x (inr many) = false≢true (sym few ∙ many)
open_or_refused first few (inl may) (inl never) = not_both first [] never.0 (subst MayBecomeHead (sym (append-nil first)) may)
open_or_refused first few (inr (inl inside)) (inl never) = never.1 inside
open_or_refused first few (inr (inr many)) (inl never) = false≢true (sym few ∙ many)

headless_one : (first bytes : List ℕ) (r s : Rest) → IsFalse (has_many_lines first) → IsHeadless first bytes r → IsHeadless first bytes s → r ≡ s
headless_one first bytes r s few (inl x) (inl y) = x.1 ∙ sym y.1
headless_one first bytes r s few (inl x) (inr y) = absurd (open_or_refused first few x.0 y.0)
headless_one first bytes r s few (inr x) (inl y) = absurd (open_or_refused first few y.0 x.0)
headless_one first bytes r s few (inr x) (inr y) = x.1 ∙ sym y.1

-- ---- chunks

line_bad_or_cut : (bytes : List ℕ) → NeverHasChunkLine (take 4096 bytes) ⊎ (4096 ≤ length bytes) → MayBecomeChunkLine bytes → ¬ (length bytes < 4096)
line_bad_or_cut bytes (inl never) may short = never may.0 may.1 [] (subst (λ t. ReadsChunkLine (t ++ may.0) may.1 []) (sym (take_all 4096 bytes (omega (arith, short)))) may.2)
line_bad_or_cut bytes (inr long) may short = omega (arith, long, short)

line_one : (bytes : List ℕ) (r s : Rest) → IsLineRest bytes r → IsLineRest bytes s → r ≡ s
line_one bytes r s x y = elim x.1 [
  | inl a ↦ elim y.1 [ inl b ↦ a.1 ∙ sym b.1 | inr b ↦ absurd (line_bad_or_cut bytes a.0 b.0 b.1) ]
  | inr a ↦ elim y.1 [ inl b ↦ absurd (line_bad_or_cut bytes b.0 a.0 a.1) | inr b ↦ a.2 ∙ sym b.2 ]
]

trailer_bad_or_cut : (bytes : List ℕ) → NeverHasSection (take section_limit bytes) ⊎ (section_limit ≤ length bytes) → MayBecomeSection bytes → ¬ (length bytes < section_limit)
trailer_bad_or_cut bytes (inl never) may short = never may.0 may.1 may.2 [] (subst (λ t. ReadsSection (t ++ may.0) may.1 may.2 []) (sym (take_all section_limit bytes (omega (arith, short)))) may.3)
trailer_bad_or_cut bytes (inr long) may short = omega (arith, long, short)

trailer_one : (bytes : List ℕ) (r s : Rest) → IsTrailerRest bytes r → IsTrailerRest bytes s → r ≡ s
trailer_one bytes r s x y = elim x.1 [
  | inl a ↦ elim y.1 [ inl b ↦ a.1 ∙ sym b.1 | inr b ↦ absurd (trailer_bad_or_cut bytes a.0 b.0 b.1) ]
  | inr a ↦ elim y.1 [ inl b ↦ absurd (trailer_bad_or_cut bytes b.0 a.0 a.1) | inr b ↦ a.2 ∙ sym b.2 ]
]

some_one : (o : Option Rest) (r s : Rest) → o ≡ Some r → o ≡ Some s → r ≡ s
some_one o r s x y = let both : Some r ≡ Some s = sym x ∙ y in cc

zero_or_some : (n : ℕ) → n ≡ 0 → ¬ (0 < n)
zero_or_some n x y = omega (arith, x, y)

after_line_one : (room size : ℕ) (bytes : List ℕ) (r s : Rest) → IsRestAfterLine room size bytes r → IsRestAfterLine room size bytes s → r ≡ s
after_line_one room size bytes r s (inl x) (inl y) = trailer_one bytes r s x.1 y.1
after_line_one room size bytes r s (inl x) (inr (inl y)) = absurd (zero_or_some size x.0 y.0)
after_line_one room size bytes r s (inl x) (inr (inr y)) = absurd (zero_or_some size x.0 y.0)
after_line_one room size bytes r s (inr (inl x)) (inl y) = absurd (zero_or_some size y.0 x.0)
after_line_one room size bytes r s (inr (inl x)) (inr (inl y)) = x.2 ∙ sym y.2
after_line_one room size bytes r s (inr (inl x)) (inr (inr y)) = absurd (let a = x.1 in let b = y.1 in omega (arith, a, b))
after_line_one room size bytes r s (inr (inr x)) (inl y) = absurd (zero_or_some size y.0 x.0)
after_line_one room size bytes r s (inr (inr x)) (inr (inl y)) = absurd (let a = y.1 in let b = x.1 in omega (arith, a, b))
after_line_one room size bytes r s (inr (inr x)) (inr (inr y)) = some_one (end_rest (drop size bytes)) r s x.2 y.2

at_line_one : (room : ℕ) (bytes : List ℕ) (r s : Rest) → IsRestAtLine room bytes r → IsRestAtLine room bytes s → r ≡ s
at_line_one room bytes r s (inl x) (inl y) = line_one bytes r s x y
at_line_one room bytes r s (inl x) (inr y) = absurd (x.0 y.0 y.1 y.2)
at_line_one room bytes r s (inr x) (inl y) = absurd (y.0 x.0 x.1 x.2)
at_line_one room bytes r s (inr x) (inr y) =
    after_line_one room (chunk_size x.0) x.1 r s x.3 (line_there room bytes x.1 x.0 s x.2.reads x.2.size (inr y))

chunks_one : (cs ds : List Chunk) (tail other : List ℕ) (limit : ℕ) (r s : Rest) → Each cs → Each ds → chunk_bytes cs ≤ limit → chunk_bytes ds ≤ limit
    → IsRestAtLine (limit - chunk_bytes cs) tail r → IsRestAtLine (limit - chunk_bytes ds) other s → flat_map print_chunk cs ++ tail ≡ flat_map print_chunk ds ++ other → r ≡ s
chunks_one [] [] tail other limit r s x y fits less h k e = at_line_one (limit - chunk_bytes []) tail r s h (subst (λ t. IsRestAtLine (limit - chunk_bytes []) t s) (sym e) k)
chunks_one [] (d ∷ ds) tail other limit r s x y fits less h k e =
    let long = bytes_cons d ds in
    absurd (not_at_chunk (limit - chunk_bytes []) tail (flat_map print_chunk ds ++ other) d r y.0 (omega (arith, long, less)) (e ∙ append_assoc (print_chunk d) (flat_map print_chunk ds) other) h)
chunks_one (c ∷ cs) [] tail other limit r s x y fits less h k e =
    let long = bytes_cons c cs in
    absurd (not_at_chunk (limit - chunk_bytes []) other (flat_map print_chunk cs ++ tail) c s x.0 (omega (arith, long, fits)) (sym e ∙ append_assoc (print_chunk c) (flat_map print_chunk cs) tail) k)
chunks_one (c ∷ cs) (d ∷ ds) tail other limit r s x y fits less h k e =
    let first = chunk_one (flat_map print_chunk (c ∷ cs) ++ tail) (flat_map print_chunk cs ++ tail) (flat_map print_chunk ds ++ other) c d x.0 y.0
    (append_assoc (print_chunk c) (flat_map print_chunk cs) tail) (e ∙ append_assoc (print_chunk d) (flat_map print_chunk ds) other) in
    let long = bytes_cons c cs in
    let far = bytes_cons d ds in
    let same = ap (λ b. length b.bytes) first.0 in
    let one : limit - chunk_bytes (c ∷ cs) ≡ limit - length c.bytes - chunk_bytes cs = omega (arith, long) in
    let two : limit - chunk_bytes (d ∷ ds) ≡ limit - length c.bytes - chunk_bytes ds = omega (arith, far, same) in
    chunks_one cs ds tail other (limit - length c.bytes) r s x.1 y.1 (omega (arith, long, fits)) (omega (arith, far, less, same))
    (subst (λ n. IsRestAtLine n tail r) one h) (subst (λ n. IsRestAtLine n other s) two k) first.1

-- ---- a body, and a rest

body_one : (limit : ℕ) (f : Framing) (bytes : List ℕ) (r s : Rest) → IsBodyRest limit f bytes r → IsBodyRest limit f bytes s → r ≡ s
body_one limit (sized n) bytes r s x y = some_one (sized_rest limit n bytes) r s x y
body_one limit chunked bytes r s x y =
    chunks_one x.chunks y.chunks x.after y.after limit r s (each x.chunks x.each) (each y.chunks y.each) x.room y.room x.stands y.stands (sym x.parts ∙ y.parts)
body_one limit unclear bytes r s x y = x ∙ sym y

after_head_one : (limit : ℕ) (h : RequestHead) (after : List ℕ) (r s : Rest) → IsRestAfterHead limit h after r → IsRestAfterHead limit h after s → r ≡ s
after_head_one limit h after r s (inl x) (inl y) = x.1 ∙ sym y.1
after_head_one limit h after r s (inl x) (inr y) = absurd (false≢true (sym x.0 ∙ y.0))
after_head_one limit h after r s (inr x) (inl y) = absurd (false≢true (sym y.0 ∙ x.0))
after_head_one limit h after r s (inr x) (inr y) = body_one limit (framing (fields_of h)) after r s x.1 y.1

no_head_in_none : (h : RequestHead) (rest : List ℕ) → ¬ (ReadsRequest [] h rest)
no_head_in_none h rest reads = let long = ap length reads.1 in let some = print_some h in omega (arith, long, some, length-append (print_request h) rest)

some_bytes : (p : Profile) (bytes : List ℕ) (s : Rest) → bytes ≡ [] → IsRest p bytes s → s ≡ empty
some_bytes p bytes s e (inl y) = y.1
some_bytes p bytes s e (inr (inl y)) = absurd (let some = y.0 in let none = ap length e in omega (arith, some, none))
some_bytes p bytes s e (inr (inr y)) = absurd (no_head_in_none y.0 y.1 (subst (λ t. ReadsRequest t y.0 y.1) e y.2.reads))

pub one : RestIsOne
one p bytes r s few (inl x) y = x.1 ∙ sym (some_bytes p bytes s x.0 y)
one p bytes r s few x (inl y) = some_bytes p bytes r y.0 x ∙ sym y.1
one p bytes r s few (inr (inl x)) (inr (inl y)) = headless_one (take head_limit bytes) bytes r s few x.2 y.2
one p bytes r s few (inr (inl x)) (inr (inr y)) = absurd (x.1 y.0 y.1 y.2)
one p bytes r s few (inr (inr x)) (inr (inl y)) = absurd (y.1 x.0 x.1 x.2)
one p bytes r s few (inr (inr x)) (inr (inr y)) =
    let same = request_unique bytes x.0 y.0 x.1 y.1 x.2.reads y.2.reads in
    after_head_one (body_limit p) x.0 x.1 r s x.3
    (subst (λ h. IsRestAfterHead (body_limit p) h x.1 s) (sym same.0) (subst (λ after. IsRestAfterHead (body_limit p) y.0 after s) (sym same.1) y.3))
