-- What the state stands for after each step.
use Rattle.std.proofs.Common.{ℕ, ◌≡◌, ◌+◌, ◌-◌, ◌<◌, ◌≤◌, refl, sym, ap, ◌∙◌, subst, Bool, true, false, List, [], ◌∷◌, ◌++◌, length, length-append, append_assoc, append-nil, take, drop, map, arith, inl, inr, Some, eqb-true, length-drop, length-take}
use Rattle.std.specs.Prelude.{◌==◌, flat_map, IsTrue}
use Rattle.std.proofs.lemmas.Bool.{cases_Bool, eqb-false}
use Rattle.std.proofs.Math.Seq.{take-append_seam, take-add}
use Rattle.std.proofs.lemmas.List.{length-take-le, take_all}
use Rattle.std.proofs.lemmas.List.Elements.{All-nil, All-push}
use Rattle.httparse.specs.Ascii.{crlf_bytes}
use Rattle.httparse.specs.Grammar.{RequestHead, Field, IsField, print_field, print_section, LineEnd, lf, print_end, ChunkLine, print_chunk_line, chunk_size, ReadsChunkLine, HasNoChunkLine, NeverHasChunkLine, MayBecomeChunkLine}
use Rattle.dkv_http.specs.declared.phases.HeadAt.{HeadAt}
use Rattle.dkv_http.specs.declared.phases.HeadAt.TheVariants as head_at
use Rattle.dkv_http.specs.declared.phases.Phase.{Phase}
use Rattle.dkv_http.specs.declared.phases.Phase.TheVariants as phase
use Rattle.dkv_http.specs.declared.state.State.{State}
use Rattle.dkv_heads.specs.declared.starts.StartAt.{StartAt}
use Rattle.dkv_heads.specs.declared.lines.LineAt.{LineAt}
use Rattle.dkv_heads.specs.declared.lines.LineAt.TheVariants as line_at
use Rattle.dkv_heads.specs.declared.lines.LineStep.TheVariants as step
use Rattle.dkv_heads.specs.declared.sizes.SizeAt.{SizeAt}
use Rattle.dkv_heads.specs.declared.sizes.SizeAt.TheVariants as size_at
use Rattle.httparse.specs.Grammar.{ReadsRequest, print_request}
use Rattle.httparse.specs.Spans.{IsRequestAt, header_bytes}
use Rattle.httparse.specs.declared.spans.HeaderSpan.{HeaderSpan}
use Rattle.httparse.specs.declared.spans.RequestSpans.{RequestSpans}
use Rattle.dkv_base.specs.declared.types.Profile.{Profile}
use Rattle.dkv_heads.specs.declared.fields.Body.{Body}
use Rattle.dkv_heads.specs.declared.fields.Body.TheVariants as body_is
use Rattle.dkv_heads.specs.Bodies.{BodyOf}
use Rattle.dkv_heads.specs.Heads.{HasHead, HasNoHead, fields_of, has_host, is_last, framing, sized}
use Rattle.dkv_heads.specs.Requests.{IsRefused, body_limit, received, IsBody, IsReceived}
use Rattle.dkv_heads.specs.Scans.{next_line, next_start, LineGoes, StartGoes}
use Rattle.dkv_heads.specs.Sizes.{next_size, IsSize, SizeGoes}
use Rattle.dkv_heads.specs.Scans.{IsTrailers}
use Rattle.dkv_http.specs.Filled.{Filled}
use Rattle.dkv_http.specs.Holds.{IsHead, Headed, AfterChunks, InChunk, HoldsIn, Holds, FitsPhase, Fits, IsOver, waiting, waiting_size, waiting_trailers, InLine}
use Rattle.dkv_heads.proofs.Scans.{line_goes, start_goes}
use Rattle.dkv_heads.proofs.Opens.{front_more}
use Rattle.dkv_heads.proofs.ChunkLines.{size_goes, size_open}
use Rattle.dkv_heads.proofs.Sections.{fields_push}
use Rattle.dkv_heads.proofs.Ends.{line_ends, head_ends, EndOf, section_ends}
use Rattle.dkv_http.proofs.Headless.{refused_behind, head_open, waits_holds}
use Rattle.dkv_http.proofs.Holding.{is_head, unclear_bad, too_large, is_received, end_more, end_bad, chunk_whole, sized_whole, chunked_more, size_waits, line_never, trailers_wait, trailers_bad, trailers_over, trailers_whole}

abbrev pub In : Phase → State → List ℕ → Type 0
In q s held = HoldsIn q s.profile s.head.bytes s.body.bytes s.line.bytes s.headers.items s.spans s.close held

pub as_phase : (q : Phase) (s : State) (held : List ℕ) → s.phase ≡ q → Holds s held → In q s held
as_phase q s held e x = subst (λ z. In z s held) e x

pub fits_as : (q : Phase) (s : State) → s.phase ≡ q → Fits s → FitsPhase q (body_limit s.profile) s.head.bytes s.body.bytes s.line.bytes s.headers.items s.spans
fits_as q s e x = subst (λ z. FitsPhase z (body_limit s.profile) s.head.bytes s.body.bytes s.line.bytes s.headers.items s.spans) e x

not_eq : (b k : ℕ) → ¬ (b ≡ k) → (b == k) ≡ false
not_eq b k h = elim (cases_Bool (b == k)) [ inl same ↦ absurd (h (eqb-true b k same)) | inr apart ↦ apart ]

-- ---- the line end after a chunk

pub end_done : (s : State) (b : ℕ) (held : List ℕ) → In (phase.End true) s held → s.line.bytes ≡ [] → b ≡ 10 → In (phase.Size size_at.Digits) s (held ++ b ∷ [])
end_done s b held x none e =
    let c = end_more s.profile s.head.bytes s.headers.items s.spans s.close x.0 x.1 s.body.bytes held (13 ∷ []) b x.2 in
    let d : InChunk (body_limit s.profile) s.head.bytes s.body.bytes (held ++ b ∷ []) 0 crlf_bytes x.0 = subst (λ (k : ℕ). InChunk (body_limit s.profile) s.head.bytes s.body.bytes (held ++ b ∷ []) 0 (13 ∷ k ∷ []) x.0) e c in
    subst (λ l. HoldsIn (phase.Size size_at.Digits) s.profile s.head.bytes s.body.bytes l s.headers.items s.spans s.close (held ++ b ∷ [])) (sym none)
    (x.0, x.1, chunk_whole s.profile s.head.bytes s.headers.items s.spans s.close x.0 x.1 s.body.bytes (held ++ b ∷ []) d, (omega arith, All-nil _), omega arith)

pub end_no_lf : (s : State) (b : ℕ) (held : List ℕ) → In (phase.End true) s held → ¬ (b ≡ 10) → IsRefused s.profile (held ++ b ∷ []) 400
end_no_lf s b held x apart =
    end_bad s.profile s.head.bytes s.headers.items s.spans s.close x.0 x.1 s.body.bytes (held ++ b ∷ []) (13 ∷ b ∷ [])
    (end_more s.profile s.head.bytes s.headers.items s.spans s.close x.0 x.1 s.body.bytes held (13 ∷ []) b x.2) (rw (not_eq b 10 apart) refl)

pub end_no_cr : (s : State) (b : ℕ) (held : List ℕ) → In (phase.End false) s held → ¬ (b ≡ 13) → IsRefused s.profile (held ++ b ∷ []) 400
end_no_cr s b held x apart =
    end_bad s.profile s.head.bytes s.headers.items s.spans s.close x.0 x.1 s.body.bytes (held ++ b ∷ []) (b ∷ [])
    (end_more s.profile s.head.bytes s.headers.items s.spans s.close x.0 x.1 s.body.bytes held [] b x.2) (rw (not_eq b 13 apart) refl)

-- ---- a body of known length

pub sized_done : (s : State) (need n : ℕ) (bytes filled held : List ℕ) → In (phase.Sized need) s held → n ≡ need → n ≤ length bytes → filled ≡ s.body.bytes ++ take n bytes
    → (h : RequestHead) × Headed s.head.bytes s.headers.items s.spans s.close h × IsReceived s.profile (held ++ take n bytes) (received h filled) []
sized_done s need n bytes filled held x e most f = (
  x.0,
  x.1,
  subst (λ b. IsReceived s.profile (held ++ take n bytes) (received x.0 b) []) (sym f)
      (sized_whole s.profile s.head.bytes s.headers.items s.spans s.close x.0 x.1 need s.body.bytes (take n bytes) held x.2 x.3 x.5 (length-take-le n bytes most ∙ e)),
)

-- ---- a chunk line

module _ (s : State) (a : SizeAt) (b : ℕ) (line held : List ℕ) (x : In (phase.Size a) s held) (e : line ≡ s.line.bytes ++ b ∷ []) where
  line_more : AfterChunks (body_limit s.profile) s.head.bytes s.body.bytes (held ++ b ∷ []) line x.0
  line_more = subst (λ l. AfterChunks (body_limit s.profile) s.head.bytes s.body.bytes (held ++ b ∷ []) l x.0) (sym e)
      (chunked_more s.profile s.head.bytes s.headers.items s.spans s.close x.0 x.1 s.body.bytes held s.line.bytes (b ∷ []) x.2)

  line_size : length line ≤ 4096
  line_size = let short = x.4 in omega (arith, ap length e, length-append s.line.bytes (b ∷ []), short)

  pub size_on : (next : SizeAt) (few some : Bool) → next_size a few some b ≡ Some next → (few ≡ true → length s.line.bytes < 16) → (some ≡ true → 0 < length s.line.bytes)
      → HoldsIn (waiting_size next line) s.profile s.head.bytes s.body.bytes line s.headers.items s.spans s.close (held ++ b ∷ [])
  size_on next few some eq short long =
      let goes = subst (λ o. SizeGoes o (s.line.bytes ++ b ∷ [])) eq (size_goes a few some b s.line.bytes short long x.3) in
      size_waits s.profile s.head.bytes s.headers.items s.spans s.close x.0 x.1 next s.body.bytes (held ++ b ∷ []) line line_more (subst (IsSize next) (sym e) goes) line_size

  pub size_judged : MayBecomeChunkLine line → HasNoChunkLine line
      → HoldsIn (waiting_size size_at.Judged line) s.profile s.head.bytes s.body.bytes line s.headers.items s.spans s.close (held ++ b ∷ [])
  size_judged may none = size_waits s.profile s.head.bytes s.headers.items s.spans s.close x.0 x.1 size_at.Judged s.body.bytes (held ++ b ∷ []) line line_more (may, none) line_size

  pub size_never : NeverHasChunkLine line → IsRefused s.profile (held ++ b ∷ []) 400
  size_never never = line_never s.profile s.head.bytes s.headers.items s.spans s.close x.0 x.1 s.body.bytes (held ++ b ∷ []) line line_more never line_size

  pub size_text : (l : ChunkLine) (rest : List ℕ) → ReadsChunkLine line l rest → line ≡ print_chunk_line l
  size_text l rest reads =
      let none = line_ends s.line.bytes rest b l (size_open a s.line.bytes x.3).1 (subst (λ t. ReadsChunkLine t l rest) e reads) in
      reads.1 ∙ ap (λ r. print_chunk_line l ++ r) none ∙ append-nil (print_chunk_line l)

  pub size_whole : (t : State) (f : Filled) (size : ℕ) (l : ChunkLine) (rest : List ℕ) → line ≡ f.bytes → ReadsChunkLine line l rest → size ≡ chunk_size l
      → ((h : RequestHead) (held : List ℕ) (l : ChunkLine) → InLine (record s { line = f }) held l h → size ≡ chunk_size l → Holds t held)
      → Holds t (held ++ b ∷ [])
  size_whole t f size l rest filled reads same holds = holds x.0 (held ++ b ∷ []) l (record {
    headed = x.1;
    before = subst (λ z. AfterChunks (body_limit s.profile) s.head.bytes s.body.bytes (held ++ b ∷ []) z x.0) filled line_more;
    is = reads.0;
    text = sym filled ∙ size_text l rest reads;
    short = subst (λ (z : List ℕ). length z ≤ 4096) filled line_size;
  }) same

-- ---- trailers

module _ (s : State) (a : LineAt) (b : ℕ) (line held : List ℕ) (x : In (phase.Trailers a) s held) (e : line ≡ s.line.bytes ++ b ∷ []) where
  trailers_more : AfterChunks (body_limit s.profile) s.head.bytes s.body.bytes (held ++ b ∷ []) (print_chunk_line x.2 ++ line) x.0
  trailers_more = subst (λ l. AfterChunks (body_limit s.profile) s.head.bytes s.body.bytes (held ++ b ∷ []) l x.0) (append_assoc (print_chunk_line x.2) s.line.bytes (b ∷ []) ∙ ap (λ l. print_chunk_line x.2 ++ l) (sym e))
      (chunked_more s.profile s.head.bytes s.headers.items s.spans s.close x.0 x.1 s.body.bytes held (print_chunk_line x.2 ++ s.line.bytes) (b ∷ []) x.6)

  trailers_size : length line ≤ 8194
  trailers_size = let short = x.8 in omega (arith, ap length e, length-append s.line.bytes (b ∷ []), short)

  goes : LineGoes (next_line a b) (x.7.1 ++ b ∷ [])
  goes = line_goes a b x.7.1 x.7.3

  line_text : line ≡ flat_map print_field x.7.0 ++ (x.7.1 ++ b ∷ [])
  line_text = e ∙ ap (λ l. l ++ b ∷ []) x.7.4 ∙ append_assoc (flat_map print_field x.7.0) x.7.1 (b ∷ [])

  wait_with : (next : LineAt) → IsTrailers next line → HoldsIn (waiting_trailers next line) s.profile s.head.bytes s.body.bytes line s.headers.items s.spans s.close (held ++ b ∷ [])
  wait_with next t = trailers_wait s.profile s.head.bytes s.headers.items s.spans s.close x.0 x.1 next s.body.bytes (held ++ b ∷ []) line x.2 x.3 x.4 x.5 trailers_more t trailers_size

  pub trailer_on : (next : LineAt) → next_line a b ≡ step.On next → HoldsIn (waiting_trailers next line) s.profile s.head.bytes s.body.bytes line s.headers.items s.spans s.close (held ++ b ∷ [])
  trailer_on next eq = wait_with next (x.7.0, x.7.1 ++ b ∷ [], x.7.2, subst (λ o. LineGoes o (x.7.1 ++ b ∷ [])) eq goes, line_text)

  pub trailer_field : next_line a b ≡ step.Field → HoldsIn (waiting_trailers line_at.Start line) s.profile s.head.bytes s.body.bytes line s.headers.items s.spans s.close (held ++ b ∷ [])
  trailer_field eq =
      let f = subst (λ o. LineGoes o (x.7.1 ++ b ∷ [])) eq goes in
      wait_with line_at.Start (
        x.7.0 ++ f.0 ∷ [],
        [],
        All-push IsField x.7.0 f.0 x.7.2 f.1,
        refl,
        line_text ∙ ap (λ l. flat_map print_field x.7.0 ++ l) f.2 ∙ sym (fields_push x.7.0 f.0) ∙ sym (append-nil (flat_map print_field (x.7.0 ++ f.0 ∷ []))),
      )

  pub trailer_other : next_line a b ≡ step.Other → IsRefused s.profile (held ++ b ∷ []) 400
  trailer_other eq =
      trailers_bad s.profile s.head.bytes s.headers.items s.spans s.close x.0 x.1 a b s.body.bytes (held ++ b ∷ []) s.line.bytes x.2 x.3 x.4 x.5
      (subst (λ l. AfterChunks (body_limit s.profile) s.head.bytes s.body.bytes (held ++ b ∷ []) (print_chunk_line x.2 ++ l) x.0) e trailers_more) x.7 eq (subst (λ l. length l ≤ 8194) e trailers_size)

  ends : next_line a b ≡ step.End → EndOf a line
  ends eq = subst (EndOf a) (sym e) (section_ends a b s.line.bytes x.7 eq)

  pub trailer_long : next_line a b ≡ step.End → length line ≡ 8194 → ¬ (a ≡ line_at.EndCr) → IsRefused s.profile (held ++ b ∷ []) 400
  trailer_long eq long apart =
      let z = ends eq in
      trailers_over s.profile s.head.bytes s.headers.items s.spans s.close x.0 x.1 s.body.bytes (held ++ b ∷ []) line x.2 z.fields z.last x.3 x.4 x.5 trailers_more z.all z.text long
      (elim z.by [ inl y ↦ absurd (apart y.0) | inr y ↦ y.1 ])

  pub trailer_done : next_line a b ≡ step.End → (length line ≡ 8194 → a ≡ line_at.EndCr)
      → (h : RequestHead) × Headed s.head.bytes s.headers.items s.spans s.close h × IsReceived s.profile (held ++ b ∷ []) (received h s.body.bytes) []
  trailer_done eq cr =
      let z = ends eq in
      let whole = ap length z.text in
      let most : length (flat_map print_field z.fields) ≤ 8192 = elim z.by [
        | inl y ↦ (let end_size = ap (λ k. length (print_end k)) y.1 in let size = trailers_size in omega (arith, whole, end_size, size, length-append (flat_map print_field z.fields) (print_end z.last)))
        | inr y ↦ short_of (length line == 8194) refl z.fields z.last y.0 y.1 whole
      ] in (
        x.0,
        x.1,
        trailers_whole s.profile s.head.bytes s.headers.items s.spans s.close x.0 x.1 s.body.bytes (held ++ b ∷ []) line x.2 z.fields z.last x.3 x.4 x.5 trailers_more z.all z.text most,
      )
    where
      short_of : (t : Bool) → (length line == 8194) ≡ t → (fields : List Field) (last : LineEnd) → ¬ (a ≡ line_at.EndCr) → last ≡ lf → length line ≡ length (print_section fields last) → length (flat_map print_field fields) ≤ 8192
      short_of true is fields last apart same whole = absurd (apart (cr (eqb-true (length line) 8194 is)))
      short_of false is fields last apart same whole =
          let other = eqb-false (length line) 8194 is in
          let end_size = ap (λ k. length (print_end k)) same in
          let size = trailers_size in
          omega (arith, whole, end_size, size, other, length-append (flat_map print_field fields) (print_end last))

-- ---- a head

pub head_on : (s : State) (at next : HeadAt) (b : ℕ) (head held : List ℕ) → In (phase.Head at) s held → head ≡ s.head.bytes ++ b ∷ [] → length s.head.bytes < 65536 → IsHead next (s.head.bytes ++ b ∷ [])
    → HoldsIn (waiting next head) s.profile head s.body.bytes s.line.bytes s.headers.items s.spans s.close (held ++ b ∷ [])
head_on s at next b head held x e short is =
    let some : 0 < length head = omega (arith, ap length e, length-append s.head.bytes (b ∷ [])) in
    let most : length head ≤ 65536 = omega (arith, ap length e, length-append s.head.bytes (b ∷ []), short) in
    subst (λ t. HoldsIn (waiting next head) s.profile head s.body.bytes s.line.bytes s.headers.items s.spans s.close t) (e ∙ ap (λ t. t ++ b ∷ []) (sym x.0))
    (waits_holds s.profile next head s.body.bytes s.line.bytes s.headers.items s.spans s.close (subst (IsHead next) (sym e) is) some most)

pub head_asked : (s t : State) (at : HeadAt) (b : ℕ) (head held : List ℕ) → In (phase.Head at) s held → head ≡ s.head.bytes ++ b ∷ []
    → ((front : List ℕ) → HasNoHead front → head ≡ front ++ b ∷ [] → Holds t head) → Holds t (held ++ b ∷ [])
head_asked s t at b head held x e holds = subst (Holds t) (e ∙ ap (λ l. l ++ b ∷ []) (sym x.0)) (holds s.head.bytes (head_open at s.head.bytes x.1).0 e)

pub start_next : (s : State) (at next : StartAt) (b : ℕ) (held : List ℕ) → In (phase.Head (head_at.Start at)) s held → next_start at b ≡ Some next → IsHead (head_at.Start next) (s.head.bytes ++ b ∷ [])
start_next s at next b held x e = subst (λ o. StartGoes o (s.head.bytes ++ b ∷ [])) e (start_goes at b s.head.bytes x.1)

pub line_on : (s : State) (at next : LineAt) (n b : ℕ) (held : List ℕ) → In (phase.Head (head_at.Line at n)) s held → next_line at b ≡ step.On next → IsHead (head_at.Line next n) (s.head.bytes ++ b ∷ [])
line_on s at next n b held x e =
    let f = x.1.1 in
    (x.1.0, (f.0, f.1 ++ b ∷ [], f.2, subst (λ o. LineGoes o (f.1 ++ b ∷ [])) e (line_goes at b f.1 f.3), ap (λ t. t ++ b ∷ []) f.4 ∙ append_assoc f.0 f.1 (b ∷ [])))

pub line_field : (s : State) (at : LineAt) (n b : ℕ) (held : List ℕ) → In (phase.Head (head_at.Line at n)) s held → next_line at b ≡ step.Field → n < 64 → IsHead (head_at.Line line_at.Start (n + 1)) (s.head.bytes ++ b ∷ [])
line_field s at n b held x e few =
    let f = x.1.1 in
    let g = subst (λ o. LineGoes o (f.1 ++ b ∷ [])) e (line_goes at b f.1 f.3) in (
      omega (arith, few),
      (
        f.0 ++ (f.1 ++ b ∷ []),
        [],
        front_more n f.0 (f.1 ++ b ∷ []) g.0 f.2 g.1 g.2,
        refl,
        ap (λ t. t ++ b ∷ []) f.4 ∙ append_assoc f.0 f.1 (b ∷ []) ∙ sym (append-nil (f.0 ++ (f.1 ++ b ∷ []))),
      ),
    )

-- ---- a whole head

module _ (s : State) (spans : RequestSpans) (close : Bool) (h : RequestHead) (at : IsRequestAt s.head.bytes s.headers.items spans h) (whole : spans.len ≡ length s.head.bytes) (few : length h.fields ≤ 64) (size : length s.head.bytes ≤ 65536) where
  head_here : HasHead s.head.bytes h []
  head_here = record {
    reads = (at.reads.0, is_head s.head.bytes s.headers.items spans h at whole ∙ sym (append-nil (print_request h)));
    lines = few;
    size = subst (λ l. length l ≤ 65536) (is_head s.head.bytes s.headers.items spans h at whole) size;
  }

  pub headed : IsTrue (has_host h.minor (fields_of h)) → close ≡ is_last h.minor (fields_of h) → Headed s.head.bytes s.headers.items spans close h
  headed host last = record { at = at; whole = whole; lines = few; size = size; host = host; ends = last }

  pub whole_unclear : close ≡ is_last h.minor (fields_of h) → BodyOf (body_limit s.profile) h.minor (fields_of h) body_is.Unclear → IsRefused s.profile s.head.bytes 400
  whole_unclear last (inl none) = refused_behind s.profile s.head.bytes [] 400 h head_here (inr (inr (h, [], head_here, inl (none, refl))))
  whole_unclear last (inr x) = unclear_bad s.profile s.head.bytes s.headers.items spans close h (headed x.0 last) x.1

  pub whole_large : close ≡ is_last h.minor (fields_of h) → BodyOf (body_limit s.profile) h.minor (fields_of h) body_is.TooLarge → IsRefused s.profile s.head.bytes 413
  whole_large last x = too_large s.profile s.head.bytes s.headers.items spans close h (headed x.0 last) x.1.0 x.1.1 x.1.2

  pub whole_none : (n : ℕ) → n ≡ 0 → s.body.bytes ≡ [] → close ≡ is_last h.minor (fields_of h) → BodyOf (body_limit s.profile) h.minor (fields_of h) (body_is.Sized n)
      → (x : RequestHead) × Headed s.head.bytes s.headers.items spans close x × IsReceived s.profile s.head.bytes (received x s.body.bytes) []
  whole_none n zero none last x =
      let hd = headed x.0 last in
      let f : framing (fields_of h) ≡ sized 0 = x.1 ∙ ap sized zero in (
        h,
        hd,
        subst (λ b. IsReceived s.profile s.head.bytes (received h b) []) (sym none) (is_received s.profile s.head.bytes s.headers.items spans close h hd s.head.bytes [] [] [] (sym (append-nil s.head.bytes))
            (subst (λ g. IsBody (body_limit s.profile) g [] [] []) (sym f) (omega arith, refl, refl))),
      )

-- what the kept fields say is what the head says
pub fields_said : (head kept : List ℕ) (headers spans_kept : List HeaderSpan) (spans : RequestSpans) (h : RequestHead) → IsRequestAt head headers spans h → kept ≡ head → spans_kept ≡ headers
    → map (header_bytes kept) (take spans.headers spans_kept) ≡ fields_of h
fields_said head kept headers spans_kept spans h at e f = ap (λ k. map (header_bytes k) (take spans.headers spans_kept)) e ∙ ap (λ k. map (header_bytes head) (take spans.headers k)) f ∙ at.fields

pub body_said : (p : Profile) (limit minor : ℕ) (fields : List (List ℕ × List ℕ)) (b : Body) (h : RequestHead) → limit ≡ body_limit p → minor ≡ h.minor → fields ≡ fields_of h
    → BodyOf limit minor fields b → BodyOf (body_limit p) h.minor (fields_of h) b
body_said p limit minor fields b h e f g x = subst (λ l. BodyOf l h.minor (fields_of h) b) e (subst (λ m. BodyOf limit m (fields_of h) b) f (subst (λ k. BodyOf limit minor k b) g x))

pub last_said : (minor : ℕ) (fields : List (List ℕ × List ℕ)) (close : Bool) (h : RequestHead) → minor ≡ h.minor → fields ≡ fields_of h → close ≡ is_last minor fields → close ≡ is_last h.minor (fields_of h)
last_said minor fields close h e f x = x ∙ ap (λ m. is_last m fields) e ∙ ap (is_last h.minor) f

-- the head ends with its last byte
pub head_len : (head : List ℕ) (front : List ℕ) (b : ℕ) (headers : List HeaderSpan) (spans : RequestSpans) (h : RequestHead) → HasNoHead front → head ≡ front ++ b ∷ [] → IsRequestAt head headers spans h
    → length h.fields ≤ 64 → length head ≤ 65536 → spans.len ≡ length head
head_len head front b headers spans h none e at few size =
    let rest = head_ends front (drop spans.len head) b h none (subst (λ t. ReadsRequest t h (drop spans.len head)) e at.reads) few (subst (λ t. length t ≤ 65536) e size) in
    let whole = ap length at.reads.1 in
    let nothing = ap length rest in
    let len = at.len in
    omega (arith, whole, nothing, len, length-append (print_request h) (drop spans.len head))

pub some_head : (head front : List ℕ) (b : ℕ) → head ≡ front ++ b ∷ [] → 0 < length head
some_head head front b e = omega (arith, ap length e, length-append front (b ∷ []))

pub seam_back : {X : Type 0} (n : ℕ) (xs ys : List X) → n ≡ length xs → take n (xs ++ ys) ≡ xs
seam_back n xs ys e = ap (λ k. take k (xs ++ ys)) e ∙ take-append_seam xs ys
