-- A piece that is taken part by part.
use Rattle.std.proofs.Common.{ℕ, ◌≡◌, ◌+◌, ◌-◌, ◌<◌, ◌≤◌, refl, sym, ap, ◌∙◌, subst, Bool, true, false, List, [], ◌∷◌, ◌++◌, length, length-append, append_assoc, append-nil, take, drop, map, arith, inl, inr, Some, eqb-true, length-drop, length-take}
use Rattle.std.specs.Prelude.{◌==◌, flat_map, IsTrue}
use Rattle.std.proofs.lemmas.Bool.{cases_Bool, eqb-false}
use Rattle.std.proofs.Math.Seq.{take-append_seam, take-add}
use Rattle.std.proofs.lemmas.List.{length-take-le, take_all}
use Rattle.std.proofs.lemmas.List.Elements.{All-nil, All-push}
use Rattle.httparse.specs.Ascii.{crlf_bytes}
use Rattle.httparse.specs.Grammar.{RequestHead, Field, IsField, print_field, print_section, LineEnd, lf, print_end, ChunkLine, print_chunk_line, chunk_size, ReadsChunkLine, HasNoChunkLine, NeverHasChunkLine, MayBecomeChunkLine}
use Rattle.dkv_http.specs.declared.phases.HeadAt.{HeadAt}
use Rattle.dkv_http.specs.declared.phases.HeadAt.TheVariants as head_at
use Rattle.dkv_http.specs.declared.phases.Phase.{Phase}
use Rattle.dkv_http.specs.declared.phases.Phase.TheVariants as phase
use Rattle.dkv_http.specs.declared.state.State.{State}
use Rattle.dkv_heads.specs.declared.starts.StartAt.{StartAt}
use Rattle.dkv_heads.specs.declared.lines.LineAt.{LineAt}
use Rattle.dkv_heads.specs.declared.lines.LineAt.TheVariants as line_at
use Rattle.dkv_heads.specs.declared.lines.LineStep.TheVariants as step
use Rattle.dkv_heads.specs.declared.sizes.SizeAt.{SizeAt}
use Rattle.dkv_heads.specs.declared.sizes.SizeAt.TheVariants as size_at
use Rattle.httparse.specs.Grammar.{ReadsRequest, print_request}
use Rattle.httparse.specs.Spans.{IsRequestAt, header_bytes}
use Rattle.httparse.specs.declared.spans.HeaderSpan.{HeaderSpan}
use Rattle.httparse.specs.declared.spans.RequestSpans.{RequestSpans}
use Rattle.dkv_base.specs.declared.types.Profile.{Profile}
use Rattle.dkv_heads.specs.declared.fields.Body.{Body}
use Rattle.dkv_heads.specs.declared.fields.Body.TheVariants as body_is
use Rattle.dkv_heads.specs.Bodies.{BodyOf}
use Rattle.dkv_heads.specs.Heads.{HasHead, HasNoHead, fields_of, has_host, is_last, framing, sized}
use Rattle.dkv_heads.specs.Requests.{IsRefused, body_limit, received, IsBody, IsReceived}
use Rattle.dkv_heads.specs.Scans.{next_line, next_start, LineGoes, StartGoes}
use Rattle.dkv_heads.specs.Sizes.{next_size, IsSize, SizeGoes}
use Rattle.dkv_heads.specs.Scans.{IsTrailers}
use Rattle.dkv_http.specs.Filled.{Filled}
use Rattle.dkv_http.specs.Holds.{IsHead, Headed, AfterChunks, InChunk, HoldsIn, Holds, FitsPhase, Fits, IsOver, waiting, waiting_size, waiting_trailers, InLine}
use Rattle.dkv_heads.proofs.Scans.{line_goes, start_goes}
use Rattle.dkv_heads.proofs.Opens.{front_more}
use Rattle.dkv_heads.proofs.ChunkLines.{size_goes, size_open}
use Rattle.dkv_heads.proofs.Sections.{fields_push}
use Rattle.dkv_heads.proofs.Ends.{line_ends, head_ends, EndOf, section_ends}
use Rattle.dkv_http.proofs.Headless.{refused_behind, head_open, waits_holds}
use Rattle.dkv_http.proofs.Holding.{is_head, unclear_bad, too_large, is_received, end_more, end_bad, chunk_whole, sized_whole, chunked_more, size_waits, line_never, trailers_wait, trailers_bad, trailers_over, trailers_whole}
use Rattle.dkv_http.proofs.Stepping.{fits_as}

pub joined : (bytes : List ℕ) (t r : ℕ) → t ≤ length bytes → r ≤ length (take (length bytes - t) (drop t bytes)) → take t bytes ++ take r (take (length bytes - t) (drop t bytes)) ≡ take (t + r) bytes
joined bytes t r low most =
    ap (λ l. take t bytes ++ take r l) (take_all (length bytes - t) (drop t bytes) (omega (arith, length-drop t bytes))) ∙ sym (take-add t r bytes)

pub onward : (s u t : State) (bytes : List ℕ) (n r : ℕ) → n ≤ length bytes → r ≤ length (take (length bytes - n) (drop n bytes))
    → ((held : List ℕ) → Holds s held → Holds u (held ++ take n bytes)) → ((held : List ℕ) → Holds u held → Holds t (held ++ take r (take (length bytes - n) (drop n bytes))))
    → (held : List ℕ) → Holds s held → Holds t (held ++ take (n + r) bytes)
onward s u t bytes n r low most first second held x =
    subst (Holds t) (append_assoc held (take n bytes) (take r (take (length bytes - n) (drop n bytes))) ∙ ap (λ l. held ++ l) (joined bytes n r low most)) (second (held ++ take n bytes) (first held x))

pub over_fits : (s : State) → IsOver s.phase → Fits s → ⊥
over_fits s (inl e) x = fits_as phase.Last s e x
over_fits s (inr e) x = fits_as phase.Over s e x

pub inside : (bytes : List ℕ) (t r : ℕ) → t ≤ length bytes → r ≤ length (take (length bytes - t) (drop t bytes)) → t + r ≤ length bytes
inside bytes t r low most = omega (arith, low, most, length-take (length bytes - t) (drop t bytes), length-drop t bytes)
