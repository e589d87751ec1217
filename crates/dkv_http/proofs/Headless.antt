-- What a connection holds while no whole head is there.
use Rattle.std.proofs.Common.{ℕ, ◌≡◌, ◌+◌, ◌-◌, ◌<◌, ◌≤◌, refl, sym, ap, ◌∙◌, subst, Bool, true, false, List, [], ◌∷◌, ◌++◌, length, length-append, append_assoc, append-nil, drop, All, arith, inl, inr, Some, eqb-true}
use Rattle.std.specs.Prelude.{if◌then◌else◌, ◌==◌, flat_map, nat_lt}
use Rattle.std.proofs.lemmas.Bool.{eqb-false}
use Rattle.std.proofs.lemmas.Bool.Decides.{nat_tests}
use Rattle.std.proofs.lemmas.List.{take_all, drop_all}
use Rattle.std.proofs.lemmas.List.Elements.{All-push}
use Rattle.std.proofs.lemmas.Grind.{flat_map-append}
use Rattle.httparse.specs.Ascii.{crlf_bytes}
use Rattle.httparse.specs.Grammar.{RequestHead, print_request, Field, IsField, print_field, print_section, LineEnd, lf, print_end, ChunkLine, IsChunkLine, print_chunk_line, chunk_size, ReadsChunkLine, HasNoChunkLine, NeverHasChunkLine, HasNoSection, NeverHasSection, ReadsSection}
use Rattle.httparse.specs.Spans.{IsRequestAt}
use Rattle.httparse.specs.declared.spans.HeaderSpan.{HeaderSpan}
use Rattle.httparse.specs.declared.spans.RequestSpans.{RequestSpans}
use Rattle.dkv_base.specs.declared.types.Profile.{Profile}
use Rattle.dkv_http.specs.declared.phases.HeadAt.{HeadAt}
use Rattle.dkv_http.specs.declared.phases.HeadAt.TheVariants as head_at
use Rattle.dkv_http.specs.declared.phases.Phase.TheVariants as phase
use Rattle.dkv_heads.specs.declared.lines.LineAt.{LineAt}
use Rattle.dkv_heads.specs.declared.lines.LineStep.TheVariants as step
use Rattle.dkv_heads.specs.declared.sizes.SizeAt.{SizeAt}
use Rattle.dkv_heads.specs.Heads.{HasHead, fields_of, sized, chunked, unclear, framing, Framing}
use Rattle.dkv_heads.specs.Chunks.{Rest, cut, bad, Chunk, print_chunk, IsChunk, ChunkedBody, print_chunked, HasNoLine, HasNoTrailers, IsTrailerRest, IsRestAtLine, IsRestAfterLine, end_rest, chunk_bytes}
use Rattle.dkv_heads.specs.Requests.{IsRefused, body_limit, received, IsBody, IsReceived, IsRest, IsBodyRest, unended, IsHeadless}
use Rattle.dkv_heads.specs.Scans.{IsOpen, IsNever, next_line}
use Rattle.dkv_heads.specs.Sizes.{IsSize}
use Rattle.dkv_heads.specs.Scans.{IsTrailers}
use Rattle.dkv_http.specs.Holds.{IsHead, Headed, AfterChunks, InChunk, end_so_far, HoldsIn, waiting, waiting_size, waiting_trailers}
use Rattle.httparse.proofs.GrammarLemmas.{section_unique}
use Rattle.dkv_heads.proofs.Apart.{content_bytes, dropped, lt_false}
use Rattle.dkv_heads.proofs.Opens.{start_open, fields_open}
use Rattle.dkv_heads.proofs.ChunkLines.{size_open}
use Rattle.dkv_heads.proofs.Sections.{trailers_none, trailers_never, trailers_may}

-- ---- no head yet

pub head_open : (a : HeadAt) (bytes : List ℕ) → IsHead a bytes → IsOpen bytes
head_open (head_at.Start a) bytes is = start_open a bytes is
head_open (head_at.Line a n) bytes is = fields_open n a bytes is.0 is.1
head_open head_at.Tail bytes is = is

short_is_cut : (bytes : List ℕ) → length bytes < 65536 → cut ≡ unended bytes
short_is_cut bytes short = let e : nat_lt (length bytes) 65536 ≡ true = grind (arith, nat_tests, short) in rw e refl

long_is_bad : (bytes : List ℕ) → 65536 ≤ length bytes → bad 431 ≡ unended bytes
long_is_bad bytes long = rw (lt_false (length bytes) 65536 long) refl

open_rest : (p : Profile) (bytes : List ℕ) (r : Rest) → IsOpen bytes → 0 < length bytes → length bytes ≤ 65536 → r ≡ unended bytes → IsRest p bytes r
open_rest p bytes r is some most e = inr (inl (some, is.0, subst (λ b. IsHeadless b bytes r) (sym (take_all 65536 bytes most)) (inl (is.1, e))))

never_rest : (p : Profile) (bytes : List ℕ) → IsNever bytes → 0 < length bytes → length bytes ≤ 65536 → IsRest p bytes (bad 400)
never_rest p bytes is some most = inr (inl (some, is.0, subst (λ b. IsHeadless b bytes (bad 400)) (sym (take_all 65536 bytes most)) (inr (inl (is.1, is.2), refl))))

pub never_refused : (p : Profile) (bytes : List ℕ) → IsNever bytes → 0 < length bytes → length bytes ≤ 65536 → IsRefused p bytes 400
never_refused p bytes is some most = record { rest = never_rest p bytes is some most; never = λ _ _. (is.1, is.2) }

-- a status other than 400 says nothing of what may follow
refused_otherwise : (p : Profile) (bytes : List ℕ) (status : ℕ) → ¬ (status ≡ 400) → IsRest p bytes (bad status) → IsRefused p bytes status
refused_otherwise p bytes status other rest = record { rest = rest; never = λ e _. absurd (other e) }

-- nor does any where a head stands
pub refused_behind : (p : Profile) (bytes after : List ℕ) (status : ℕ) (h : RequestHead) → HasHead bytes h after → IsRest p bytes (bad status) → IsRefused p bytes status
refused_behind p bytes after status h has rest = record { rest = rest; never = λ _ none. absurd (none h after has) }

pub open_cut : (p : Profile) (bytes : List ℕ) → IsOpen bytes → 0 < length bytes → length bytes < 65536 → IsRest p bytes cut
open_cut p bytes is some short = open_rest p bytes cut is some (omega (arith, short)) (short_is_cut bytes short)

waits_by : (t : Bool) (p : Profile) (at : HeadAt) (head body line : List ℕ) (headers : List HeaderSpan) (spans : RequestSpans) (close : Bool) → (length head == 65536) ≡ t
    → IsHead at head → 0 < length head → length head ≤ 65536 → HoldsIn (if t then phase.Failed 431 else phase.Head at) p head body line headers spans close head
waits_by true p at head body line headers spans close e is some most =
    refused_otherwise p head 431 (λ same. omega (arith, same))
    (open_rest p head (bad 431) (head_open at head is) some most (long_is_bad head (let same = eqb-true (length head) 65536 e in omega (arith, same))))
waits_by false p at head body line headers spans close e is some most = (refl, is)

pub waits_holds : (p : Profile) (at : HeadAt) (head body line : List ℕ) (headers : List HeaderSpan) (spans : RequestSpans) (close : Bool)
    → IsHead at head → 0 < length head → length head ≤ 65536 → HoldsIn (waiting at head) p head body line headers spans close head
waits_holds p at head body line headers spans close = waits_by (length head == 65536) p at head body line headers spans close refl
