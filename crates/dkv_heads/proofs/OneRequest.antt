-- Bytes begin with at most one request, and it stays whatever follows.
use Rattle.std.proofs.Common.{ℕ, ◌≡◌, refl, sym, ap, ◌∙◌, subst, List, [], ◌∷◌, ◌++◌, length, append_assoc, arith, All}
use Rattle.std.specs.Prelude.{flat_map}
use Rattle.std.proofs.lemmas.List.{append_cancel_left}
use Rattle.std.proofs.lemmas.List.Elements.{recursion_from_All, All-from_recursion}
use Rattle.httparse.specs.Ascii.{crlf_bytes}
use Rattle.httparse.specs.Grammar.{RequestHead, print_chunk_line, ReadsChunkLine, chunk_size, print_section}
use Rattle.httparse.proofs.ChunkLemmas.{chunk_line_unique}
use Rattle.httparse.proofs.GrammarLemmas.{request_unique, section_unique, ReadsRequest-append}
use Rattle.dkv_heads.specs.Heads.{HasHead, Framing, sized, chunked, unclear, framing, fields_of}
use Rattle.dkv_heads.specs.Chunks.{Chunk, print_chunk, IsChunk, ChunkedBody, print_chunked, content, IsChunked}
use Rattle.dkv_base.specs.declared.types.Profile.{Profile}
use Rattle.dkv_heads.specs.Requests.{body_limit, Received, received, IsBody, IsReceived}
use Rattle.dkv_heads.specs.Laws.{ReceivedIsOne, RequestsStay}

-- ---- whatever follows

pub append-more : (bytes front rest more : List ℕ) → bytes ≡ front ++ rest → bytes ++ more ≡ front ++ (rest ++ more)
append-more bytes front rest more e = ap (λ b. b ++ more) e ∙ append_assoc front rest more

pub head-more : (bytes rest more : List ℕ) (h : RequestHead) → HasHead bytes h rest → HasHead (bytes ++ more) h (rest ++ more)
head-more bytes rest more h has = record { reads = ReadsRequest-append bytes h rest more has.reads; lines = has.lines; size = has.size }

body-more : (limit : ℕ) (f : Framing) (bytes body rest more : List ℕ) → IsBody limit f bytes body rest → IsBody limit f (bytes ++ more) body (rest ++ more)
body-more limit (sized n) bytes body rest more is = (is.0, is.1, append-more bytes body rest more is.2)
body-more limit chunked bytes body rest more is = (is.0, is.1, is.2, is.3, append-more bytes (print_chunked is.0) rest more is.4)
body-more limit unclear bytes body rest more is = is

pub received-more : (p : Profile) (bytes rest more : List ℕ) (q : Received) → IsReceived p bytes q rest → IsReceived p (bytes ++ more) q (rest ++ more)
received-more p bytes rest more q is = record {
  h = is.h;
  after = is.after ++ more;
  head = head-more bytes is.after more is.h is.head;
  host = is.host;
  body = body-more (body_limit p) (framing (fields_of is.h)) is.after q.body rest more is.body;
  is = is.is;
}

pub stay : RequestsStay
stay p bytes more rest [] e = ap (λ b. b ++ more) e
stay p bytes more rest (q ∷ qs) is = (is.0 ++ more, received-more p bytes is.0 more q is.1, is.2, stay p is.0 more rest qs is.3)

-- ---- at most one

pub split_eq : (xs ys r q : List ℕ) → length xs ≡ length ys → xs ++ r ≡ ys ++ q → (xs ≡ ys) × (r ≡ q)
split_eq [] [] r q l e = (refl, e)
split_eq [] (y ∷ ys) r q l e = absurd (omega (arith, l))
split_eq (x ∷ xs) [] r q l e = absurd (omega (arith, l))
split_eq (x ∷ xs) (y ∷ ys) r q l e =
    let tails : xs ++ r ≡ ys ++ q = cc in
    let both = split_eq xs ys r q (omega (arith, l)) tails in
    let heads : x ≡ y = cc in
    (λ i. heads i ∷ both.0 i, both.1)

pub chunk_line_at : (text r : List ℕ) (c : Chunk) → IsChunk c → text ≡ print_chunk c ++ r → ReadsChunkLine text c.line (c.bytes ++ (crlf_bytes ++ r))
chunk_line_at text r c is e = (is.line, e ∙ append_assoc (print_chunk_line c.line ++ c.bytes) crlf_bytes r ∙ append_assoc (print_chunk_line c.line) c.bytes (crlf_bytes ++ r))

pub chunk_one : (text r q : List ℕ) (c d : Chunk) → IsChunk c → IsChunk d → text ≡ print_chunk c ++ r → text ≡ print_chunk d ++ q → (c ≡ d) × (r ≡ q)
chunk_one text r q c d x y e f =
    let lines = chunk_line_unique text c.line d.line _ _ (chunk_line_at text r c x e) (chunk_line_at text q d y f) in
    let long = sym x.counted ∙ ap chunk_size lines.0 ∙ y.counted in
    let both = split_eq c.bytes d.bytes (crlf_bytes ++ r) (crlf_bytes ++ q) long lines.1 in
    ((λ i. record { line = lines.0 i; bytes = both.0 i }), append_cancel_left crlf_bytes r q both.1)

-- no chunk begins the text
abbrev pub NoChunk : List ℕ → Type 0
NoChunk text = (c : Chunk) (r : List ℕ) → IsChunk c → ¬ (text ≡ print_chunk c ++ r)

abbrev pub Each : List Chunk → Type 0
Each [] = Unit {0}
Each (c ∷ cs) = IsChunk c × Each cs

pub each : (cs : List Chunk) → All IsChunk cs → Each cs
each [] h = tt
each (c ∷ cs) h = ((recursion_from_All IsChunk (c ∷ cs) h).0, each cs (All-from_recursion IsChunk cs (recursion_from_All IsChunk (c ∷ cs) h).1))

chunks_one : (cs ds : List Chunk) (tail other : List ℕ) → Each cs → Each ds → NoChunk tail → NoChunk other
    → flat_map print_chunk cs ++ tail ≡ flat_map print_chunk ds ++ other → (cs ≡ ds) × (tail ≡ other)
chunks_one [] [] tail other x y ends stops e = (refl, e)
chunks_one [] (d ∷ ds) tail other x y ends stops e = absurd (ends d (flat_map print_chunk ds ++ other) y.0 (e ∙ append_assoc (print_chunk d) (flat_map print_chunk ds) other))
chunks_one (c ∷ cs) [] tail other x y ends stops e = absurd (stops c (flat_map print_chunk cs ++ tail) x.0 (sym e ∙ append_assoc (print_chunk c) (flat_map print_chunk cs) tail))
chunks_one (c ∷ cs) (d ∷ ds) tail other x y ends stops e =
    let first = chunk_one (flat_map print_chunk (c ∷ cs) ++ tail) (flat_map print_chunk cs ++ tail) (flat_map print_chunk ds ++ other) c d x.0 y.0
    (append_assoc (print_chunk c) (flat_map print_chunk cs) tail) (e ∙ append_assoc (print_chunk d) (flat_map print_chunk ds) other) in
    let both = chunks_one cs ds tail other x.1 y.1 ends stops first.1 in
    ((λ i. first.0 i ∷ both.0 i), both.1)

-- the line of size 0 and the trailers, and then the rest
abbrev pub ending : ChunkedBody → List ℕ → List ℕ
ending b rest = print_chunk_line b.line ++ (print_section b.trailers b.last ++ rest)

pub parts : (b : ChunkedBody) (text rest : List ℕ) → text ≡ print_chunked b ++ rest → text ≡ flat_map print_chunk b.chunks ++ ending b rest
parts b text rest e =
    e ∙ append_assoc (flat_map print_chunk b.chunks ++ print_chunk_line b.line) (print_section b.trailers b.last) rest
    ∙ append_assoc (flat_map print_chunk b.chunks) (print_chunk_line b.line) (print_section b.trailers b.last ++ rest)

pub ending_no_chunk : (b : ChunkedBody) (rest : List ℕ) → IsChunked b → NoChunk (ending b rest)
ending_no_chunk b rest is c r x e =
    let lines = chunk_line_unique (ending b rest) b.line c.line _ _ (is.line, refl) (chunk_line_at (ending b rest) r c x e) in
    let size = sym is.ends ∙ ap chunk_size lines.0 ∙ x.counted in
    let some = x.some_bytes in
    omega (arith, size, some)

chunked_one : (text : List ℕ) (b d : ChunkedBody) (r q : List ℕ) → IsChunked b → IsChunked d → text ≡ print_chunked b ++ r → text ≡ print_chunked d ++ q → (b ≡ d) × (r ≡ q)
chunked_one text b d r q x y e f =
    let same = chunks_one b.chunks d.chunks (ending b r) (ending d q) (each b.chunks x.chunks) (each d.chunks y.chunks) (ending_no_chunk b r x) (ending_no_chunk d q y)
    (sym (parts b text r e) ∙ parts d text q f) in
    let lines = chunk_line_unique (ending b r) b.line d.line _ _ (x.line, refl) (y.line, same.1) in
    let sections = section_unique (print_section b.trailers b.last ++ r) b.trailers d.trailers b.last d.last r q (x.trailers, refl) (y.trailers, lines.1) in
    ((λ i. record { chunks = same.0 i; line = lines.0 i; trailers = sections.0 i; last = sections.1 i }), sections.2)

body_one : (limit : ℕ) (f : Framing) (text a b r q : List ℕ) → IsBody limit f text a r → IsBody limit f text b q → (a ≡ b) × (r ≡ q)
body_one limit (sized n) text a b r q x y = split_eq a b r q (x.1 ∙ sym y.1) (sym x.2 ∙ y.2)
body_one limit chunked text a b r q x y =
    let same = chunked_one text x.0 y.0 r q x.1 y.1 x.4 y.4 in
    (x.2 ∙ ap content same.0 ∙ sym y.2, same.1)
body_one limit unclear text a b r q x y = absurd x

pub received_one : ReceivedIsOne
received_one p bytes rest other q k x y =
    let heads = request_unique bytes x.h y.h x.after y.after x.head.reads y.head.reads in
    let B : RequestHead → List ℕ → Type 0 = λ h after. IsBody (body_limit p) (framing (fields_of h)) after k.body other in
    let moved : B x.h x.after = subst (λ h. B h x.after) (sym heads.0) (subst (λ after. B y.h after) (sym heads.1) y.body) in
    let bodies = body_one (body_limit p) (framing (fields_of x.h)) x.after q.body k.body rest other x.body moved in
    (x.is ∙ (λ i. received (heads.0 i) (bodies.0 i)) ∙ sym y.is, bodies.1)
