-- What a connection holds behind a head, after one more piece.
use Rattle.std.proofs.Common.{ℕ, ◌≡◌, ◌+◌, ◌-◌, ◌<◌, ◌≤◌, refl, sym, ap, ◌∙◌, subst, Bool, true, false, List, [], ◌∷◌, ◌++◌, length, length-append, append_assoc, append-nil, drop, All, arith, inl, inr, Some, eqb-true}
use Rattle.std.specs.Prelude.{if◌then◌else◌, ◌==◌, flat_map, nat_lt}
use Rattle.std.proofs.lemmas.Bool.{eqb-false}
use Rattle.std.proofs.lemmas.Bool.Decides.{nat_tests}
use Rattle.std.proofs.lemmas.List.{take_all, drop_all}
use Rattle.std.proofs.lemmas.List.Elements.{All-push}
use Rattle.std.proofs.lemmas.Grind.{flat_map-append}
use Rattle.httparse.specs.Ascii.{crlf_bytes}
use Rattle.httparse.specs.Grammar.{RequestHead, print_request, Field, IsField, print_field, print_section, LineEnd, lf, print_end, ChunkLine, IsChunkLine, print_chunk_line, chunk_size, ReadsChunkLine, HasNoChunkLine, NeverHasChunkLine, HasNoSection, NeverHasSection, ReadsSection}
use Rattle.httparse.specs.Spans.{IsRequestAt}
use Rattle.httparse.specs.declared.spans.HeaderSpan.{HeaderSpan}
use Rattle.httparse.specs.declared.spans.RequestSpans.{RequestSpans}
use Rattle.dkv_base.specs.declared.types.Profile.{Profile}
use Rattle.dkv_http.specs.declared.phases.HeadAt.{HeadAt}
use Rattle.dkv_http.specs.declared.phases.HeadAt.TheVariants as head_at
use Rattle.dkv_http.specs.declared.phases.Phase.TheVariants as phase
use Rattle.dkv_heads.specs.declared.lines.LineAt.{LineAt}
use Rattle.dkv_heads.specs.declared.lines.LineStep.TheVariants as step
use Rattle.dkv_heads.specs.declared.sizes.SizeAt.{SizeAt}
use Rattle.dkv_heads.specs.Heads.{HasHead, fields_of, sized, chunked, unclear, framing, Framing}
use Rattle.dkv_heads.specs.Chunks.{Rest, cut, bad, Chunk, print_chunk, IsChunk, ChunkedBody, print_chunked, HasNoLine, HasNoTrailers, IsTrailerRest, IsRestAtLine, IsRestAfterLine, end_rest, chunk_bytes}
use Rattle.dkv_heads.specs.Requests.{IsRefused, body_limit, received, IsBody, IsReceived, IsRest, IsBodyRest, unended, IsHeadless}
use Rattle.dkv_heads.specs.Scans.{IsOpen, IsNever, next_line}
use Rattle.dkv_heads.specs.Sizes.{IsSize}
use Rattle.dkv_heads.specs.Scans.{IsTrailers}
use Rattle.dkv_http.specs.Holds.{IsHead, Headed, AfterChunks, InChunk, end_so_far, HoldsIn, waiting, waiting_size, waiting_trailers}
use Rattle.httparse.proofs.GrammarLemmas.{section_unique}
use Rattle.dkv_heads.proofs.Apart.{content_bytes, dropped, lt_false}
use Rattle.dkv_heads.proofs.Opens.{start_open, fields_open}
use Rattle.dkv_heads.proofs.ChunkLines.{size_open}
use Rattle.dkv_heads.proofs.Sections.{trailers_none, trailers_never, trailers_may}
use Rattle.dkv_http.proofs.Headless.{refused_behind}

-- ---- behind a head

pub is_head : (head : List ℕ) (headers : List HeaderSpan) (spans : RequestSpans) (h : RequestHead) → IsRequestAt head headers spans h → spans.len ≡ length head → head ≡ print_request h
is_head head headers spans h at whole =
    at.reads.1 ∙ ap (λ l. print_request h ++ l) (ap (λ n. drop n head) whole ∙ drop_all (length head) head (omega arith)) ∙ append-nil (print_request h)

module _ (p : Profile) (head : List ℕ) (headers : List HeaderSpan) (spans : RequestSpans) (close : Bool) (h : RequestHead) (x : Headed head headers spans close h) where
  head_text : head ≡ print_request h
  head_text = is_head head headers spans h x.at x.whole

  pub has_head : (held after : List ℕ) → held ≡ head ++ after → HasHead held h after
  has_head held after e = record {
    reads = (x.at.reads.0, e ∙ ap (λ l. l ++ after) head_text);
    lines = x.lines;
    size = subst (λ l. length l ≤ 65536) head_text x.size;
  }

  pub body_rest : (held after : List ℕ) (r : Rest) → held ≡ head ++ after → IsBodyRest (body_limit p) (framing (fields_of h)) after r → IsRest p held r
  body_rest held after r e rest = inr (inr (h, after, has_head held after e, inr (x.host, rest)))

  pub is_received : (held after body rest : List ℕ) → held ≡ head ++ after → IsBody (body_limit p) (framing (fields_of h)) after body rest → IsReceived p held (received h body) rest
  is_received held after body rest e is = record { h = h; after = after; head = has_head held after e; host = x.host; body = is; is = refl }

  by_framing : (f : Framing) (after : List ℕ) (r : Rest) → framing (fields_of h) ≡ f → IsBodyRest (body_limit p) f after r → IsBodyRest (body_limit p) (framing (fields_of h)) after r
  by_framing f after r e is = subst (λ g. IsBodyRest (body_limit p) g after r) (sym e) is

  -- ---- a body of known length

  pub sized_cut : (need : ℕ) (body held : List ℕ) → framing (fields_of h) ≡ sized (length body + need) → length body + need ≤ body_limit p → 0 < need → held ≡ head ++ body → IsRest p held cut
  sized_cut need body held f most some e =
      body_rest held body cut e (by_framing (sized (length body + need)) body cut f (
      let small = lt_false (body_limit p) (length body + need) most in
      let short : nat_lt (length body) (length body + need) ≡ true = (let less : length body < length body + need = omega (arith, some) in grind (arith, nat_tests, less)) in
      rw small (rw short refl)))

  pub sized_whole : (need : ℕ) (body piece held : List ℕ) → framing (fields_of h) ≡ sized (length body + need) → length body + need ≤ body_limit p → held ≡ head ++ body → length piece ≡ need
      → IsReceived p (held ++ piece) (received h (body ++ piece)) []
  sized_whole need body piece held f most e all =
      is_received (held ++ piece) (body ++ piece) (body ++ piece) [] (ap (λ l. l ++ piece) e ∙ append_assoc head body piece)
      (subst (λ g. IsBody (body_limit p) g (body ++ piece) (body ++ piece) []) (sym f) (most, length-append body piece ∙ ap (λ n. length body + n) all, sym (append-nil (body ++ piece))))

  body_refused : (held after : List ℕ) (status : ℕ) → held ≡ head ++ after → IsBodyRest (body_limit p) (framing (fields_of h)) after (bad status) → IsRefused p held status
  body_refused held after status e rest = refused_behind p held after status h (has_head held after e) (body_rest held after (bad status) e rest)

  pub too_large : (n : ℕ) → framing (fields_of h) ≡ sized n → body_limit p < n → IsRefused p head 413
  too_large n f large =
      body_refused head [] 413 (sym (append-nil head)) (by_framing (sized n) [] (bad 413) f (let e : nat_lt (body_limit p) n ≡ true = grind (arith, nat_tests, large) in rw e refl))

  pub unclear_bad : framing (fields_of h) ≡ unclear → IsRefused p head 400
  unclear_bad f = body_refused head [] 400 (sym (append-nil head)) (by_framing unclear [] (bad 400) f refl)

  -- ---- chunks

  pub chunk_rest : (said held after : List ℕ) (r : Rest) → (c : AfterChunks (body_limit p) head said held after h) → IsRestAtLine (body_limit p - length said) after r → IsRest p held r
  chunk_rest said held after r c stands =
      let same : chunk_bytes c.chunks ≡ length said = sym (content_bytes c.chunks) ∙ ap length (sym c.says) in
      body_rest held (flat_map print_chunk c.chunks ++ after) r c.parts (by_framing chunked (flat_map print_chunk c.chunks ++ after) r c.framed (record {
        chunks = c.chunks;
        after = after;
        each = c.each;
        parts = refl;
        room = (let most = c.room in omega (arith, same, most));
        stands = subst (λ n. IsRestAtLine (body_limit p - n) after r) (sym same) stands;
      }))

  -- so many bytes more behind whole chunks
  chunk_refused : (said held after : List ℕ) (status : ℕ) → AfterChunks (body_limit p) head said held after h → IsRest p held (bad status) → IsRefused p held status
  chunk_refused said held after status c rest = refused_behind p held (flat_map print_chunk c.chunks ++ after) status h (has_head held (flat_map print_chunk c.chunks ++ after) c.parts) rest

  pub chunked_more : (said held after piece : List ℕ) → AfterChunks (body_limit p) head said held after h → AfterChunks (body_limit p) head said (held ++ piece) (after ++ piece) h
  chunked_more said held after piece c = record {
    framed = c.framed;
    chunks = c.chunks;
    each = c.each;
    says = c.says;
    room = c.room;
    parts = ap (λ l. l ++ piece) c.parts ∙ append_assoc head (flat_map print_chunk c.chunks ++ after) piece ∙ ap (λ l. head ++ l) (append_assoc (flat_map print_chunk c.chunks) after piece);
  }

  chunked_as : (said held after other : List ℕ) → after ≡ other → AfterChunks (body_limit p) head said held after h → AfterChunks (body_limit p) head said held other h
  chunked_as said held after other e c = subst (λ l. AfterChunks (body_limit p) head said held l h) e c

  no_line : (line : List ℕ) → HasNoChunkLine line → HasNoLine line
  no_line line none l rest has = none l rest has.reads

  line_long : (said held line : List ℕ) → AfterChunks (body_limit p) head said held line h → HasNoChunkLine line → 4096 ≤ length line → IsRefused p held 400
  line_long said held line c none long = chunk_refused said held line 400 c (chunk_rest said held line (bad 400) c (inl (no_line line none, inl (inr long, refl))))

  pub line_never : (said held line : List ℕ) → AfterChunks (body_limit p) head said held line h → NeverHasChunkLine line → length line ≤ 4096 → IsRefused p held 400
  line_never said held line c never most =
      chunk_refused said held line 400 c (chunk_rest said held line (bad 400) c (inl (
        no_line line (λ l rest reads. never [] l rest (subst (λ t. ReadsChunkLine t l rest) (sym (append-nil line)) reads)),
        inl (inl (subst NeverHasChunkLine (sym (take_all 4096 line most)) never), refl),
      )))

  pub line_cut : (a : SizeAt) (said held line : List ℕ) → AfterChunks (body_limit p) head said held line h → IsSize a line → length line < 4096 → IsRest p held cut
  line_cut a said held line c is short = let o = size_open a line is in chunk_rest said held line cut c (inl (no_line line o.1, inr (o.0, short, refl)))

  size_by : (t : Bool) (a : SizeAt) (body held line : List ℕ) → (length line == 4096) ≡ t → AfterChunks (body_limit p) head body held line h → IsSize a line → length line ≤ 4096
      → HoldsIn (if t then phase.Failed 400 else phase.Size a) p head body line headers spans close held
  size_by true a body held line e c is most = line_long body held line c (size_open a line is).1 (let same = eqb-true (length line) 4096 e in omega (arith, same))
  size_by false a body held line e c is most = (h, x, c, is, (let other = eqb-false (length line) 4096 e in omega (arith, other, most)))

  pub size_waits : (a : SizeAt) (body held line : List ℕ) → AfterChunks (body_limit p) head body held line h → IsSize a line → length line ≤ 4096
      → HoldsIn (waiting_size a line) p head body line headers spans close held
  size_waits a body held line = size_by (length line == 4096) a body held line refl

  -- ---- in a chunk

  whole_line_rest : (body held line : List ℕ) (l : ChunkLine) (r : Rest) → AfterChunks (body_limit p) head body held line h → IsChunkLine l → line ≡ print_chunk_line l → length line ≤ 4096
      → IsRestAfterLine (body_limit p - length body) (chunk_size l) [] r → IsRest p held r
  whole_line_rest body held line l r c is e short after =
      chunk_rest body held line r c (inr (l, [], record { reads = (is, e ∙ sym (append-nil (print_chunk_line l))); size = subst (λ t. length t ≤ 4096) e short }, after))

  pub size_large : (body held line : List ℕ) (l : ChunkLine) → AfterChunks (body_limit p) head body held line h → IsChunkLine l → line ≡ print_chunk_line l → length line ≤ 4096
      → 0 < chunk_size l → body_limit p - length body < chunk_size l → IsRefused p held 413
  size_large body held line l c is e short some large = chunk_refused body held line 413 c (whole_line_rest body held line l (bad 413) c is e short (inr (inl (some, large, refl))))

  pub begin_data : (body held line : List ℕ) (l : ChunkLine) → AfterChunks (body_limit p) head body held line h → IsChunkLine l → line ≡ print_chunk_line l → length line ≤ 4096
      → 0 < chunk_size l → length body + chunk_size l ≤ body_limit p → InChunk (body_limit p) head body held (chunk_size l) [] h
  begin_data body held line l c is e short some fits = record {
    content = body;
    line = l;
    bytes = [];
    before = chunked_as body held line (print_chunk_line l ++ ([] ++ [])) (e ∙ sym (append-nil (print_chunk_line l))) c;
    is = is;
    short = subst (λ t. length t ≤ 4096) e short;
    size = (omega arith);
    some_bytes = some;
    room = fits;
    so_far = sym (append-nil body);
  }

  pub more_data : (body held piece : List ℕ) (left rest : ℕ) → InChunk (body_limit p) head body held left [] h → length piece + rest ≡ left → InChunk (body_limit p) head (body ++ piece) (held ++ piece) rest [] h
  more_data body held piece left rest c e = record {
    content = c.content;
    line = c.line;
    bytes = c.bytes ++ piece;
    before = chunked_as c.content (held ++ piece) ((print_chunk_line c.line ++ (c.bytes ++ [])) ++ piece) (print_chunk_line c.line ++ ((c.bytes ++ piece) ++ []))
        (append_assoc (print_chunk_line c.line) (c.bytes ++ []) piece ∙ ap (λ t. print_chunk_line c.line ++ t) (ap (λ t. t ++ piece) (append-nil c.bytes) ∙ sym (append-nil (c.bytes ++ piece))))
        (chunked_more c.content held (print_chunk_line c.line ++ (c.bytes ++ [])) piece c.before);
    is = c.is;
    short = c.short;
    size = (let size = c.size in omega (arith, size, e, length-append c.bytes piece));
    some_bytes = c.some_bytes;
    room = c.room;
    so_far = ap (λ t. t ++ piece) c.so_far ∙ append_assoc c.content c.bytes piece;
  }

  in_chunk_rest : (body held tail : List ℕ) (left : ℕ) (r : Rest) → (c : InChunk (body_limit p) head body held left tail h) → end_rest (drop (chunk_size c.line) (c.bytes ++ tail)) ≡ Some r → IsRest p held r
  in_chunk_rest body held tail left r c e =
      let fits = c.room in
      chunk_rest c.content held (print_chunk_line c.line ++ (c.bytes ++ tail)) r c.before
      (inr (c.line, c.bytes ++ tail, record { reads = (c.is, refl); size = c.short }, inr (inr (c.some_bytes, omega (arith, fits), e))))

  pub data_cut : (body held : List ℕ) (left : ℕ) → 0 < left → InChunk (body_limit p) head body held left [] h → IsRest p held cut
  data_cut body held left some c =
      let size = c.size in
      in_chunk_rest body held [] left cut c (ap end_rest (ap (drop (chunk_size c.line)) (append-nil c.bytes) ∙ drop_all (chunk_size c.line) c.bytes (omega (arith, size))))

  drop_whole : (body held tail : List ℕ) (c : InChunk (body_limit p) head body held 0 tail h) → drop (chunk_size c.line) (c.bytes ++ tail) ≡ tail
  drop_whole body held tail c =
      let size = c.size in
      let all : chunk_size c.line ≡ length c.bytes = omega (arith, size) in
      ap (λ n. drop n (c.bytes ++ tail)) all ∙ dropped c.bytes tail

  pub end_cut : (cr : Bool) (body held : List ℕ) → InChunk (body_limit p) head body held 0 (end_so_far cr) h → IsRest p held cut
  end_cut true body held c = in_chunk_rest body held (13 ∷ []) 0 cut c (ap end_rest (drop_whole body held (13 ∷ []) c))
  end_cut false body held c = in_chunk_rest body held [] 0 cut c (ap end_rest (drop_whole body held [] c))

  pub end_more : (body held tail : List ℕ) (b : ℕ) → InChunk (body_limit p) head body held 0 tail h → InChunk (body_limit p) head body (held ++ b ∷ []) 0 (tail ++ b ∷ []) h
  end_more body held tail b c = record {
    content = c.content;
    line = c.line;
    bytes = c.bytes;
    before = chunked_as c.content (held ++ b ∷ []) ((print_chunk_line c.line ++ (c.bytes ++ tail)) ++ b ∷ []) (print_chunk_line c.line ++ (c.bytes ++ (tail ++ b ∷ [])))
        (append_assoc (print_chunk_line c.line) (c.bytes ++ tail) (b ∷ []) ∙ ap (λ t. print_chunk_line c.line ++ t) (append_assoc c.bytes tail (b ∷ [])))
        (chunked_more c.content held (print_chunk_line c.line ++ (c.bytes ++ tail)) (b ∷ []) c.before);
    is = c.is;
    short = c.short;
    size = c.size;
    some_bytes = c.some_bytes;
    room = c.room;
    so_far = c.so_far;
  }

  pub end_bad : (body held tail : List ℕ) (c : InChunk (body_limit p) head body held 0 tail h) → end_rest tail ≡ Some (bad 400) → IsRefused p held 400
  end_bad body held tail c e =
      chunk_refused c.content held (print_chunk_line c.line ++ (c.bytes ++ tail)) 400 c.before (in_chunk_rest body held tail 0 (bad 400) c (ap end_rest (drop_whole body held tail c) ∙ e))

  -- a chunk is whole
  pub chunk_whole : (body held : List ℕ) (c : InChunk (body_limit p) head body held 0 crlf_bytes h) → AfterChunks (body_limit p) head body held [] h
  chunk_whole body held c =
      let k : Chunk = record { line = c.line; bytes = c.bytes } in
      let size = c.size in
      let b = c.before in
      let some = c.some_bytes in
      let is_chunk : IsChunk k = record { line = c.is; line_size = c.short; counted = (omega (arith, size)); some_bytes = (omega (arith, size, some)) } in record {
        framed = b.framed;
        chunks = b.chunks ++ k ∷ [];
        each = All-push IsChunk b.chunks k b.each is_chunk;
        says = c.so_far ∙ ap (λ t. t ++ c.bytes) b.says ∙ ap (λ t. flat_map (λ z. z.bytes) b.chunks ++ t) (sym (append-nil c.bytes)) ∙ sym (flat_map-append (λ z. z.bytes) b.chunks (k ∷ []));
        room = (let fits = c.room in let long = ap length c.so_far in omega (arith, fits, long, size, length-append c.content c.bytes));
        parts = b.parts ∙ ap (λ t. head ++ t) (
            ap (λ t. flat_map print_chunk b.chunks ++ t) (sym (append_assoc (print_chunk_line c.line) c.bytes crlf_bytes) ∙ sym (append-nil (print_chunk k)))
            ∙ sym (flat_map-append print_chunk b.chunks (k ∷ [])) ∙ sym (append-nil (flat_map print_chunk (b.chunks ++ k ∷ []))));
      }

  -- ---- trailers

  trailer_rest : (body held line : List ℕ) (l : ChunkLine) (r : Rest) → IsChunkLine l → length (print_chunk_line l) ≤ 4096 → chunk_size l ≡ 0 → AfterChunks (body_limit p) head body held (print_chunk_line l ++ line) h
      → IsTrailerRest line r → IsRest p held r
  trailer_rest body held line l r is short none c rest =
      chunk_rest body held (print_chunk_line l ++ line) r c (inr (l, line, record { reads = (is, refl); size = short }, inl (none, rest)))

  trailer_refused : (body held line : List ℕ) (l : ChunkLine) (status : ℕ) → IsChunkLine l → length (print_chunk_line l) ≤ 4096 → chunk_size l ≡ 0 → AfterChunks (body_limit p) head body held (print_chunk_line l ++ line) h
      → IsTrailerRest line (bad status) → IsRefused p held status
  trailer_refused body held line l status is short none c rest =
      chunk_refused body held (print_chunk_line l ++ line) status c (trailer_rest body held line l (bad status) is short none c rest)

  no_trailers : (line : List ℕ) → HasNoSection line → HasNoTrailers line
  no_trailers line none fields last rest has = none fields last rest has.reads

  pub trailers_cut : (a : LineAt) (body held line : List ℕ) (l : ChunkLine) → IsChunkLine l → length (print_chunk_line l) ≤ 4096 → chunk_size l ≡ 0 → AfterChunks (body_limit p) head body held (print_chunk_line l ++ line) h
      → IsTrailers a line → length line < 8194 → IsRest p held cut
  trailers_cut a body held line l is short none c t few =
      trailer_rest body held line l cut is short none c (no_trailers line (trailers_none a line t), inr (trailers_may a line t, few, refl))

  trailers_long : (a : LineAt) (body held line : List ℕ) (l : ChunkLine) → IsChunkLine l → length (print_chunk_line l) ≤ 4096 → chunk_size l ≡ 0 → AfterChunks (body_limit p) head body held (print_chunk_line l ++ line) h
      → IsTrailers a line → 8194 ≤ length line → IsRefused p held 400
  trailers_long a body held line l is short none c t many =
      trailer_refused body held line l 400 is short none c (no_trailers line (trailers_none a line t), inl (inr many, refl))

  trailers_by : (t : Bool) (a : LineAt) (body held line : List ℕ) (l : ChunkLine) → (length line == 8194) ≡ t → IsChunkLine l → length (print_chunk_line l) ≤ 4096 → chunk_size l ≡ 0
      → AfterChunks (body_limit p) head body held (print_chunk_line l ++ line) h → IsTrailers a line → length line ≤ 8194
      → HoldsIn (if t then phase.Failed 400 else phase.Trailers a) p head body line headers spans close held
  trailers_by true a body held line l e is short none c t most = trailers_long a body held line l is short none c t (let same = eqb-true (length line) 8194 e in omega (arith, same))
  trailers_by false a body held line l e is short none c t most = (h, x, l, is, short, none, c, t, (let other = eqb-false (length line) 8194 e in omega (arith, other, most)))

  pub trailers_wait : (a : LineAt) (body held line : List ℕ) (l : ChunkLine) → IsChunkLine l → length (print_chunk_line l) ≤ 4096 → chunk_size l ≡ 0
      → AfterChunks (body_limit p) head body held (print_chunk_line l ++ line) h → IsTrailers a line → length line ≤ 8194
      → HoldsIn (waiting_trailers a line) p head body line headers spans close held
  trailers_wait a body held line l = trailers_by (length line == 8194) a body held line l refl

  pub trailers_bad : (a : LineAt) (b : ℕ) (body held line : List ℕ) (l : ChunkLine) → IsChunkLine l → length (print_chunk_line l) ≤ 4096 → chunk_size l ≡ 0
      → AfterChunks (body_limit p) head body held (print_chunk_line l ++ (line ++ b ∷ [])) h → IsTrailers a line → next_line a b ≡ step.Other → length (line ++ b ∷ []) ≤ 8194 → IsRefused p held 400
  trailers_bad a b body held line l is short none c t e most =
      let never = trailers_never a b line t e in
      trailer_refused body held (line ++ b ∷ []) l 400 is short none c (
        no_trailers (line ++ b ∷ []) (λ fields last rest reads. never [] fields last rest (subst (λ z. ReadsSection z fields last rest) (sym (append-nil (line ++ b ∷ []))) reads)),
        inl (inl (subst NeverHasSection (sym (take_all 8194 (line ++ b ∷ []) most)) never), refl),
      )

  -- the header lines have more bytes than trailers may have
  pub trailers_over : (body held line : List ℕ) (l : ChunkLine) (fields : List Field) (last : LineEnd) → IsChunkLine l → length (print_chunk_line l) ≤ 4096 → chunk_size l ≡ 0
      → AfterChunks (body_limit p) head body held (print_chunk_line l ++ line) h → All IsField fields → line ≡ print_section fields last → length line ≡ 8194 → last ≡ lf → IsRefused p held 400
  trailers_over body held line l fields last is short none c all e long same =
      trailer_refused body held line l 400 is short none c (
        (λ gs k rest has.
            let one = section_unique line fields gs last k [] rest (all, e ∙ sym (append-nil (print_section fields last))) has.reads in
            let size = has.size in
            let size_of = ap (λ z. length (flat_map print_field z)) one.0 in
            let whole = ap length e in
            let end_size = ap (λ z. length (print_end z)) same in
            omega (arith, size, size_of, whole, long, end_size, length-append (flat_map print_field fields) (print_end last))),
        inl (inr (omega (arith, long)), refl),
      )

  pub trailers_whole : (body held line : List ℕ) (l : ChunkLine) (fields : List Field) (last : LineEnd) → IsChunkLine l → length (print_chunk_line l) ≤ 4096 → chunk_size l ≡ 0
      → (c : AfterChunks (body_limit p) head body held (print_chunk_line l ++ line) h) → All IsField fields → line ≡ print_section fields last → length (flat_map print_field fields) ≤ 8192 → IsReceived p held (received h body) []
  trailers_whole body held line l fields last is short none c all e size =
      let b : ChunkedBody = record { chunks = c.chunks; line = l; trailers = fields; last = last } in
      is_received held (flat_map print_chunk c.chunks ++ (print_chunk_line l ++ line)) body [] c.parts (subst (λ g. IsBody (body_limit p) g (flat_map print_chunk c.chunks ++ (print_chunk_line l ++ line)) body []) (sym c.framed) (
        b,
        record { chunks = c.each; line = is; line_size = short; ends = none; trailers = all; trailer_size = size },
        c.says,
        c.room,
        ap (λ t. flat_map print_chunk c.chunks ++ (print_chunk_line l ++ t)) e ∙ sym (append_assoc (flat_map print_chunk c.chunks) (print_chunk_line l) (print_section fields last))
            ∙ sym (append-nil (print_chunked b)),
      ))
