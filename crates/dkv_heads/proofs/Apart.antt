-- Bytes that begin with a request don't stand as a rest, so they have just one list of requests.
use Rattle.std.proofs.Common.{ℕ, ◌≡◌, ◌+◌, ◌-◌, ◌<◌, ◌≤◌, refl, sym, ap, ◌∙◌, subst, Bool, true, false, List, [], ◌∷◌, ◌++◌, length, length-append, append_assoc, drop, arith, inl, inr, Some, None}
use Rattle.std.specs.Prelude.{if◌then◌else◌, flat_map, IsFalse, nat_lt}
use Rattle.std.proofs.lemmas.List.Sums.{sum_by-cons}
use Rattle.std.proofs.lemmas.Bool.{false≢true}
use Rattle.std.proofs.lemmas.Bool.Decides.{nat_tests}
use Rattle.httparse.specs.Ascii.{crlf_bytes}
use Rattle.httparse.specs.Grammar.{RequestHead, print_request, ChunkLine, print_chunk_line, ReadsChunkLine, chunk_size, print_section}
use Rattle.httparse.proofs.ChunkLemmas.{chunk_line_unique}
use Rattle.httparse.proofs.GrammarLemmas.{request_unique}
use Rattle.dkv_heads.specs.Heads.{Framing, sized, chunked, unclear, framing, fields_of}
use Rattle.dkv_heads.specs.Chunks.{Rest, cut, bad, Chunk, print_chunk, IsChunk, chunk_bytes, ChunkedBody, IsChunked, IsRestAtLine, IsRestAfterLine, end_rest}
use Rattle.dkv_base.specs.declared.types.Profile.{Profile}
use Rattle.dkv_heads.specs.Requests.{body_limit, Received, IsBody, IsReceived, IsBodyRest, IsRestAfterHead, IsRest, Begin, Stands}
use Rattle.dkv_heads.specs.Laws.{RequestsAreOne}
use Rattle.dkv_heads.proofs.OneRequest.{chunk_line_at, chunk_one, Each, each, ending, parts, ending_no_chunk, received_one}

-- ---- a chunked body

-- the line at the place of a rest is the line that the text begins with
pub line_there : (room : ℕ) (text after : List ℕ) (l : ChunkLine) (r : Rest) → ReadsChunkLine text l after → length (print_chunk_line l) ≤ 4096
    → IsRestAtLine room text r → IsRestAfterLine room (chunk_size l) after r
line_there room text after l r reads short (inl none) = absurd (none.0 l after (record { reads = reads; size = short }))
line_there room text after l r reads short (inr is) =
    let same = chunk_line_unique text is.0 l is.1 after is.2.reads reads in
    subst (λ k. IsRestAfterLine room (chunk_size k) after r) same.0 (subst (λ rest. IsRestAfterLine room (chunk_size is.0) rest r) same.1 is.3)

-- no rest stands where a whole ending does
not_at_ending : (room : ℕ) (b : ChunkedBody) (rest : List ℕ) (r : Rest) → IsChunked b → ¬ (IsRestAtLine room (ending b rest) r)
not_at_ending room b rest r is h =
    let after = line_there room (ending b rest) (print_section b.trailers b.last ++ rest) b.line r (is.line, refl) is.line_size h in
    let size = is.ends in
    elim after [
      | inl x ↦ x.1.0 b.trailers b.last rest (record { reads = (is.trailers, refl); size = is.trailer_size })
      | inr y ↦ elim y [ inl z ↦ let some = z.0 in omega (arith, size, some) | inr z ↦ let some = z.0 in omega (arith, size, some) ]
    ]

pub dropped : (xs ys : List ℕ) → drop (length xs) (xs ++ ys) ≡ ys
dropped [] ys = refl
dropped (x ∷ xs) ys = dropped xs ys

-- nor where a whole chunk does, for which there is room
pub not_at_chunk : (room : ℕ) (text more : List ℕ) (c : Chunk) (r : Rest) → IsChunk c → length c.bytes ≤ room → text ≡ print_chunk c ++ more → ¬ (IsRestAtLine room text r)
not_at_chunk room text more c r is fits e h =
    let after = line_there room text (c.bytes ++ (crlf_bytes ++ more)) c.line r (chunk_line_at text more c is e) is.line_size h in
    let size = is.counted in
    let some = is.some_bytes in
    elim after [
      | inl x ↦ let nothing = x.0 in omega (arith, size, some, nothing)
      | inr y ↦ elim y [
        | inl z ↦ let large = z.1 in omega (arith, size, large, fits)
        | inr z ↦
            let gone : drop (chunk_size c.line) (c.bytes ++ (crlf_bytes ++ more)) ≡ crlf_bytes ++ more = ap (λ n. drop n (c.bytes ++ (crlf_bytes ++ more))) size ∙ dropped c.bytes (crlf_bytes ++ more) in
            let none : end_rest (crlf_bytes ++ more) ≡ Some r = subst (λ t. end_rest t ≡ Some r) gone z.2 in
            absurd (cc)
      ]
    ]

pub bytes_cons : (c : Chunk) (cs : List Chunk) → chunk_bytes (c ∷ cs) ≡ length c.bytes + chunk_bytes cs
bytes_cons c cs = sum_by-cons (λ d. length d.bytes) c cs

chunks_apart : (cs ds : List Chunk) (b : ChunkedBody) (rest tail : List ℕ) (limit : ℕ) (r : Rest) → IsChunked b → Each cs → Each ds
    → chunk_bytes cs ≤ limit → IsRestAtLine (limit - chunk_bytes ds) tail r → ¬ (flat_map print_chunk cs ++ ending b rest ≡ flat_map print_chunk ds ++ tail)
chunks_apart [] [] b rest tail limit r is x y fits h e = not_at_ending (limit - chunk_bytes []) b rest r is (subst (λ t. IsRestAtLine (limit - chunk_bytes []) t r) (sym e) h)
chunks_apart [] (d ∷ ds) b rest tail limit r is x y fits h e =
    ending_no_chunk b rest is d (flat_map print_chunk ds ++ tail) y.0 (e ∙ append_assoc (print_chunk d) (flat_map print_chunk ds) tail)
chunks_apart (c ∷ cs) [] b rest tail limit r is x y fits h e =
    let long = bytes_cons c cs in
    not_at_chunk (limit - chunk_bytes []) tail (flat_map print_chunk cs ++ ending b rest) c r x.0 (omega (arith, long, fits)) (sym e ∙ append_assoc (print_chunk c) (flat_map print_chunk cs) (ending b rest)) h
chunks_apart (c ∷ cs) (d ∷ ds) b rest tail limit r is x y fits h e =
    let first = chunk_one (flat_map print_chunk (c ∷ cs) ++ ending b rest) (flat_map print_chunk cs ++ ending b rest) (flat_map print_chunk ds ++ tail) c d x.0 y.0
    (append_assoc (print_chunk c) (flat_map print_chunk cs) (ending b rest)) (e ∙ append_assoc (print_chunk d) (flat_map print_chunk ds) tail) in
    let long = bytes_cons c cs in
    let other = bytes_cons d ds in
    let same = ap (λ k. length k.bytes) first.0 in
    let room : limit - chunk_bytes (d ∷ ds) ≡ limit - length c.bytes - chunk_bytes ds = omega (arith, other, same) in
    chunks_apart cs ds b rest tail (limit - length c.bytes) r is x.1 y.1 (omega (arith, long, fits)) (subst (λ n. IsRestAtLine n tail r) room h) first.1

pub content_bytes : (cs : List Chunk) → length (flat_map (λ c. c.bytes) cs) ≡ chunk_bytes cs
content_bytes [] = refl
content_bytes (c ∷ cs) = omega (arith, length-append c.bytes (flat_map (λ d. d.bytes) cs), content_bytes cs, bytes_cons c cs)

-- ---- a body, and a request

pub lt_false : (a b : ℕ) → b ≤ a → nat_lt a b ≡ false
lt_false a b h = grind (arith, nat_tests)

sized_none : (a b : Bool) → a ≡ false → b ≡ false → (if a then Some (bad 413) else (if b then Some cut else None)) ≡ None
sized_none true b e f = absurd (false≢true (sym e))
sized_none false true e f = absurd (false≢true (sym f))
sized_none false false e f = refl

body_apart : (limit : ℕ) (f : Framing) (text body rest : List ℕ) (r : Rest) → IsBody limit f text body rest → ¬ (IsBodyRest limit f text r)
body_apart limit (sized n) text body rest r is h =
    let long = ap length is.2 in
    let fits = is.1 in
    let small = lt_false limit n is.0 in
    let whole = lt_false (length text) n (omega (arith, long, fits, length-append body rest)) in
    let none : None ≡ Some r = sym (sized_none (nat_lt limit n) (nat_lt (length text) n) small whole) ∙ h in
    absurd (cc)
body_apart limit chunked text body rest r is h =
    let b = is.0 in
    let fits : chunk_bytes b.chunks ≤ limit = omega (arith, content_bytes b.chunks, ap length is.2, is.3) in
    chunks_apart b.chunks h.chunks b rest h.after limit r is.1 (each b.chunks is.1.chunks) (each h.chunks h.each) fits h.stands
    (sym (parts b text rest is.4) ∙ h.parts)
body_apart limit unclear text body rest r is h = is

pub print_some : (h : RequestHead) → 0 < length (print_request h)
unfolding print_request
print_some h = omega (arith, length-append {A = ℕ})

received_apart : (p : Profile) (bytes rest : List ℕ) (q : Received) (r : Rest) → IsReceived p bytes q rest → ¬ (IsRest p bytes r)
received_apart p bytes rest q r is (inl nothing) =
    let long = ap length (sym is.head.reads.1 ∙ nothing.0) in
    let some = print_some is.h in
    omega (arith, long, some, length-append (print_request is.h) is.after)
received_apart p bytes rest q r is (inr (inl headless)) = headless.1 is.h is.after is.head
received_apart p bytes rest q r is (inr (inr x)) =
    let same = request_unique bytes x.0 is.h x.1 is.after x.2.reads is.head.reads in
    let moved : IsRestAfterHead (body_limit p) is.h is.after r =
    subst (λ h. IsRestAfterHead (body_limit p) h is.after r) same.0 (subst (λ after. IsRestAfterHead (body_limit p) x.0 after r) same.1 x.3) in
    elim moved [
      | inl lacks ↦ absurd (false≢true (sym lacks.0 ∙ is.host))
      | inr stands ↦ body_apart (body_limit p) (framing (fields_of is.h)) is.after q.body rest r is.body stands.1
    ]

-- ---- lists of requests

stands_later : (p : Profile) (q : Received) (qs : List Received) (rest : List ℕ) (r : Rest) → IsFalse q.close → Stands p (q ∷ qs) rest r → Stands p qs rest r
stands_later p q [] rest r goes (inl last) = absurd (false≢true (sym goes ∙ last.0))
stands_later p q [] rest r goes (inr is) = inr (refl, is.1)
stands_later p q (k ∷ ks) rest r goes is = is

no_more : (p : Profile) (bytes rest : List ℕ) (q : Received) (r : Rest) → IsReceived p bytes q rest → ¬ (Stands p [] bytes r)
no_more p bytes rest q r is (inl last) = false≢true last.0
no_more p bytes rest q r is (inr h) = received_apart p bytes rest q r is h.1

one : (p : Profile) (bytes rest other : List ℕ) (qs ks : List Received) (r s : Rest) → Begin p bytes qs rest → Stands p qs rest r → Begin p bytes ks other → Stands p ks other s → qs ≡ ks
one p bytes rest other [] [] r s x a y b = refl
one p bytes rest other [] (k ∷ ks) r s x a y b = absurd (no_more p bytes y.0 k r y.1 (subst (λ t. Stands p [] t r) (sym x) a))
one p bytes rest other (q ∷ qs) [] r s x a y b = absurd (no_more p bytes x.0 q s x.1 (subst (λ t. Stands p [] t s) (sym y) b))
one p bytes rest other (q ∷ qs) (k ∷ ks) r s x a y b =
    let same = received_one p bytes x.0 y.0 q k x.1 y.1 in
    let moved : Begin p x.0 ks other = subst (λ t. Begin p t ks other) (sym same.1) y.3 in
    let later : qs ≡ ks = elim x.2 [
      | inl goes ↦ one p x.0 rest other qs ks r s x.3 (stands_later p q qs rest r goes a) moved (stands_later p k ks other s (subst (λ t. IsFalse t.close) same.0 goes) b)
      | inr none ↦ elim y.2 [
        | inl goes ↦ one p x.0 rest other qs ks r s x.3 (stands_later p q qs rest r (subst (λ t. IsFalse t.close) (sym same.0) goes) a) moved (stands_later p k ks other s goes b)
        | inr nothing ↦ none ∙ sym nothing
      ]
    ] in
    λ i. same.0 i ∷ later i

pub are_one : RequestsAreOne
are_one p bytes qs others r other x y = one p bytes x.0 y.0 qs others r other x.1 x.2 y.1 y.2
