-- What is whole ends with the last byte.
use Rattle.std.proofs.Common.{ℕ, ◌≡◌, ◌≤◌, refl, sym, ap, ◌∙◌, subst, Bool, true, false, List, [], ◌∷◌, ◌++◌, length, length-append, append_assoc, append-nil, drop, take, get_or, All, arith, inl, inr}
use Rattle.std.specs.Prelude.{if◌then◌else◌, ◌==◌, ◌⊎◌, flat_map}
use Rattle.std.proofs.lemmas.List.{nil_from_length, drop_all, length-map}
use Rattle.httparse.specs.Grammar.{is_token_byte, is_value_byte, RequestHead, ReadsRequest, print_request, Field, IsField, print_field, print_section, LineEnd, crlf, lf, print_end, ChunkLine, ReadsChunkLine, print_chunk_line, HasNoChunkLine}
use Rattle.httparse.specs.Spans.{IsRequestAt, header_bytes, name_and_value}
use Rattle.httparse.specs.declared.spans.HeaderSpan.{HeaderSpan}
use Rattle.httparse.specs.declared.spans.RequestSpans.{RequestSpans}
use Rattle.dkv_heads.specs.declared.lines.LineAt.{LineAt}
use Rattle.dkv_heads.specs.declared.lines.LineAt.TheVariants as at
use Rattle.dkv_heads.specs.declared.lines.LineStep.TheVariants as step
use Rattle.dkv_heads.specs.Heads.{HasNoHead}
use Rattle.dkv_heads.specs.Scans.{next_line, LineGoes, first_line}
use Rattle.dkv_heads.specs.Judged.{EndsLine}
use Rattle.dkv_heads.specs.Scans.{IsTrailers}
use Rattle.dkv_heads.proofs.Waiting.{fronts}
use Rattle.dkv_heads.proofs.OneRequest.{split_eq}
use Rattle.dkv_heads.proofs.Opens.{with_text}
use Rattle.dkv_heads.proofs.Scans.{line_goes}

-- a text that begins line and one byte, and not line, is all of it
last_of : (text line rest : List ℕ) (b : ℕ) → line ++ b ∷ [] ≡ text ++ rest → ((m : List ℕ) → ¬ (line ≡ text ++ m)) → rest ≡ []
last_of text line rest b e none = elim (fronts text line rest (b ∷ []) (sym e)) [
  | inl p ↦ absurd (none p.0 p.1)
  | inr p ↦ go p.0 p.1
]
  where
    go : (m : List ℕ) → text ≡ line ++ m → rest ≡ []
    go [] x = absurd (none [] (sym (append-nil line) ∙ sym x ∙ sym (append-nil text)))
    go (c ∷ m) x = nil_from_length rest (omega (arith, ap length e, ap length x, length-append line (b ∷ []), length-append text rest, length-append line (c ∷ m)))

pub line_ends : (line rest : List ℕ) (b : ℕ) (l : ChunkLine) → HasNoChunkLine line → ReadsChunkLine (line ++ b ∷ []) l rest → rest ≡ []
line_ends line rest b l none reads = last_of (print_chunk_line l) line rest b reads.1 (λ m e. none l m (reads.0, e))

pub head_ends : (front rest : List ℕ) (b : ℕ) (h : RequestHead) → HasNoHead front → ReadsRequest (front ++ b ∷ []) h rest → length h.fields ≤ 64 → length (front ++ b ∷ []) ≤ 65536 → rest ≡ []
head_ends front rest b h none reads few short = last_of (print_request h) front rest b reads.1 (λ m e.
    none h m (record { reads = (reads.0, e); lines = few; size = omega (arith, short, ap length e, length-append (print_request h) m, length-append front (b ∷ [])) }))

-- ---- the first line

last_apart : (xs ys : List ℕ) → xs ++ 10 ∷ [] ≡ ys ++ 13 ∷ [] → ⊥
last_apart xs ys e =
    let both = split_eq xs ys (10 ∷ []) (13 ∷ []) (omega (arith, ap length e, length-append xs (10 ∷ []), length-append ys (13 ∷ []))) e in
    let same : 10 ≡ 13 = ap (λ l. get_or l 0 0) both.1 in
    omega (arith, same)

line_by : (h : RequestHead) (last : LineEnd) (front before : List ℕ) → h.last ≡ last → front ++ 10 ∷ [] ≡ (first_line h ++ flat_map print_field h.fields) ++ print_end last → front ≡ before ++ 10 ∷ []
    → front ≡ first_line h ++ flat_map print_field h.fields
line_by h lf front before l e x =
    (split_eq front (first_line h ++ flat_map print_field h.fields) (10 ∷ []) (10 ∷ []) (omega (arith, ap length e, length-append front (10 ∷ []), length-append (first_line h ++ flat_map print_field h.fields) (10 ∷ []))) e).0
line_by h crlf front before l e x =
    let X = first_line h ++ flat_map print_field h.fields in
    let text : front ++ 10 ∷ [] ≡ (X ++ 13 ∷ []) ++ 10 ∷ [] = e ∙ sym (append_assoc X (13 ∷ []) (10 ∷ [])) in
    let both = split_eq front (X ++ 13 ∷ []) (10 ∷ []) (10 ∷ []) (omega (arith, ap length text, length-append front (10 ∷ []), length-append (X ++ 13 ∷ []) (10 ∷ []))) text in
    absurd (last_apart before X (sym x ∙ both.0))

pub first_line_ends : (bytes : List ℕ) (headers : List HeaderSpan) (spans : RequestSpans) (h : RequestHead) → IsRequestAt bytes headers spans h → spans.headers ≡ 0 → spans.len ≡ length bytes → EndsLine bytes
first_line_ends bytes headers spans h x none whole front e before f =
    let same = ap length x.fields in
    let zero_fields = ap (λ n. length (take n headers)) none in
    let count : length h.fields ≡ 0 = omega (arith, same, zero_fields, length-map (take spans.headers headers) (header_bytes bytes), length-map h.fields name_and_value) in
    let text : bytes ≡ print_request h = x.reads.1 ∙ ap (λ l. print_request h ++ l) (ap (λ n. drop n bytes) whole ∙ drop_all (length bytes) bytes (omega arith)) ∙ append-nil (print_request h) in
    record {
      h = h;
      is = x.reads.0;
      count = count;
      text = line_by h h.last front before refl (sym e ∙ text ∙ with_text h h.fields h.last) f;
    }

-- ---- the last line of a section

one_end : (e : LineEnd) → length (print_end e) ≡ 1 → e ≡ lf
one_end lf x = refl
one_end crlf x = absurd (omega (arith, x))

two_end : (e : LineEnd) → length (print_end e) ≡ 2 → e ≡ crlf
two_end crlf x = refl
two_end lf x = absurd (omega (arith, x))

pub record EndOf (a : LineAt) (bytes : List ℕ) : Type 0 where
  pub fields : List Field
  pub last : LineEnd
  pub all : All IsField fields
  pub text : bytes ≡ print_section fields last
  pub by : ((a ≡ at.EndCr) × (last ≡ crlf)) ⊎ (¬ (a ≡ at.EndCr) × (last ≡ lf))

no_two : (t u : Bool) (x y : LineAt) → (if t then step.On x else if u then step.On y else step.Other) ≡ step.End → ⊥
no_two true u x y e = cc
no_two false true x y e = cc
no_two false false x y e = cc

no_three : (t u v : Bool) (x y : LineAt) → (if t then step.On x else if u then step.Field else if v then step.On y else step.Other) ≡ step.End → ⊥
no_three true u v x y e = cc
no_three false true v x y e = cc
no_three false false true x y e = cc
no_three false false false x y e = cc

no_one : (t : Bool) → (if t then step.Field else step.Other) ≡ step.End → ⊥
no_one true e = cc
no_one false e = cc

pub section_ends : (a : LineAt) (b : ℕ) (bytes : List ℕ) → IsTrailers a bytes → next_line a b ≡ step.End → EndOf a (bytes ++ b ∷ [])
section_ends at.Start b bytes t e =
    let g = subst (λ s. LineGoes s (t.1 ++ b ∷ [])) e (line_goes at.Start b t.1 t.3) in
    let size : length (print_end g.0) ≡ 1 = omega (arith, ap length g.1, length-append t.1 (b ∷ []), ap length t.3) in
    record {
      fields = t.0;
      last = g.0;
      all = t.2;
      text = ap (λ l. l ++ b ∷ []) t.4 ∙ append_assoc (flat_map print_field t.0) t.1 (b ∷ []) ∙ ap (λ l. flat_map print_field t.0 ++ l) g.1;
      by = inr ((λ x. cc), one_end g.0 size);
    }
section_ends at.EndCr b bytes t e =
    let g = subst (λ s. LineGoes s (t.1 ++ b ∷ [])) e (line_goes at.EndCr b t.1 t.3) in
    let size : length (print_end g.0) ≡ 2 = omega (arith, ap length g.1, length-append t.1 (b ∷ []), ap length t.3) in
    record {
      fields = t.0;
      last = g.0;
      all = t.2;
      text = ap (λ l. l ++ b ∷ []) t.4 ∙ append_assoc (flat_map print_field t.0) t.1 (b ∷ []) ∙ ap (λ l. flat_map print_field t.0 ++ l) g.1;
      by = inl (refl, two_end g.0 size);
    }
section_ends at.Name b bytes t e = absurd (no_two (b == 58) (is_token_byte b) at.Value at.Name e)
section_ends at.Value b bytes t e = absurd (no_three (b == 13) (b == 10) (is_value_byte b) at.ValueCr at.Value e)
section_ends at.ValueCr b bytes t e = absurd (no_one (b == 10) e)
