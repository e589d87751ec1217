-- What stands so far is no head, and more may make one.
use Rattle.std.proofs.Common.{ℕ, ◌≡◌, ◌+◌, ◌<◌, ◌≤◌, refl, sym, ap, ◌∙◌, subst, true, not, List, [], ◌∷◌, ◌++◌, length, length-append, append_assoc, append-nil, All, arith, inl, inr}
use Rattle.std.specs.Prelude.{◌==◌, flat_map, nat_lt, IsTrue}
use Rattle.std.specs.List.{list_all}
use Rattle.std.proofs.lemmas.List.Elements.{All-nil, All-push}
use Rattle.std.proofs.lemmas.List.Sums.{list_all-from_AllPass, AllPass-from_list_all}
use Rattle.std.proofs.lemmas.List.Folds.{list_all-append}
use Rattle.std.proofs.lemmas.Bool.{and_from, and_parts, false≢true, cases_Bool}
use Rattle.std.proofs.lemmas.Bool.Decides.{nat_tests}
use Rattle.std.proofs.lemmas.Grind.{flat_map-append}
use Rattle.httparse.specs.Ascii.{space}
use Rattle.httparse.specs.Grammar.{is_token_byte, IsToken, LineEnd, crlf, lf, print_end, print_blank, print_version, print_section, Field, IsField, print_field, RequestHead, IsRequestHead, ReadsRequest, print_request, HasNoRequest, MayBecomeRequest}
use Rattle.httparse.proofs.GrammarLemmas.{request_prefix_free, print_request-append}
use Rattle.dkv_heads.specs.declared.lines.LineAt.{LineAt}
use Rattle.dkv_heads.specs.declared.lines.LineAt.TheVariants as at
use Rattle.dkv_heads.specs.declared.starts.StartAt.{StartAt}
use Rattle.dkv_heads.specs.declared.starts.StartAt.TheVariants as start
use Rattle.dkv_heads.specs.Heads.{is_open, HasNoHead, MayBecomeHead, NeverHead, has_many_lines}
use Rattle.dkv_heads.specs.Judged.{NoSpace}
use Rattle.dkv_heads.specs.Scans.{Row, IsLine, IsStart, first_line, Front, IsFields, IsOpen, IsNever}
use Rattle.dkv_heads.proofs.Waiting.{lines, lines-append, lines_of_fields, lines_of_start, no_space_in_blank, token_is_no_space, weaker, ending, small_head, small_is, small_text, waiting}
use Rattle.dkv_heads.proofs.BadStays.{never-more}

-- ---- heads that are still to come

-- what needs more bytes to be a head is none so far
strict : (bytes more : List ℕ) (h : RequestHead) → ReadsRequest (bytes ++ more) h [] → 0 < length more → HasNoHead bytes
strict bytes more h reads some k rest has =
    let same = request_prefix_free bytes more k h rest [] has.reads reads in
    let none = ap length same.1 in
    omega (arith, none, length-append rest more, some)

may_open : (bytes more : List ℕ) (h : RequestHead) → ReadsRequest (bytes ++ more) h [] → 0 < length more → length h.fields ≤ 64 → IsOpen bytes
may_open bytes more h reads some few = (strict bytes more h reads some, inl (more, h, [], reads, few))

many_open : (bytes more : List ℕ) (h : RequestHead) → ReadsRequest (bytes ++ more) h [] → 0 < length more → IsTrue (has_many_lines bytes) → IsOpen bytes
many_open bytes more h reads some many = (strict bytes more h reads some, inr (inr many))

-- ---- after field lines

abbrev pub with : RequestHead → List Field → LineEnd → RequestHead
with h fields last = record h { fields = fields; last = last }

pub with_text : (h : RequestHead) (fields : List Field) (last : LineEnd) → print_request (with h fields last) ≡ (first_line h ++ flat_map print_field fields) ++ print_end last
unfolding print_request
with_text h fields last = sym (append_assoc (first_line h) (flat_map print_field fields) (print_end last))

with_is : (h : RequestHead) (fields : List Field) (last : LineEnd) → IsRequestHead h → All IsField fields → IsRequestHead (with h fields last)
with_is h fields last is all = record { method = is.method; target = is.target; target_text = is.target_text; minor = is.minor; fields = all }

fields_push : (fs : List Field) (f : Field) → flat_map print_field (fs ++ f ∷ []) ≡ flat_map print_field fs ++ print_field f
fields_push fs f = flat_map-append print_field fs (f ∷ []) ∙ ap (λ l. flat_map print_field fs ++ l) (append-nil (print_field f))

-- one more field line
pub front_more : (n : ℕ) (front line : List ℕ) (f : Field) → Front n front → IsField f → line ≡ print_field f → Front (n + 1) (front ++ line)
front_more n front line f x is e = record {
  h = with x.h (x.h.fields ++ f ∷ []) x.h.last;
  is = with_is x.h (x.h.fields ++ f ∷ []) x.h.last x.is (All-push IsField x.h.fields f x.is.fields is);
  count = length-append x.h.fields (f ∷ []) ∙ ap (λ k. k + 1) x.count;
  text = ap (λ l. front ++ l) e ∙ ap (λ l. l ++ print_field f) x.text ∙ append_assoc (first_line x.h) (flat_map print_field x.h.fields) (print_field f)
      ∙ ap (λ l. first_line x.h ++ l) (sym (fields_push x.h.fields f));
}

-- with an empty line it is a head
pub front_reads : (n : ℕ) (front : List ℕ) (last : LineEnd) (x : Front n front) → ReadsRequest (front ++ print_end last) (with x.h x.h.fields last) []
front_reads n front last x = (
  with_is x.h x.h.fields last x.is x.is.fields,
  ap (λ l. l ++ print_end last) x.text ∙ sym (with_text x.h x.h.fields last) ∙ sym (append-nil (print_request (with x.h x.h.fields last))),
)

many_front : (n : ℕ) (front line : List ℕ) → Front n front → 64 ≤ n → IsTrue (has_many_lines (front ++ line))
many_front n front line x many =
    let all : 65 ≤ lines (front ++ line) = omega (arith, many, x.count, lines-append front line, ap lines x.text, lines-append (first_line x.h) (flat_map print_field x.h.fields), lines_of_start x.h, lines_of_fields x.h.fields) in
    grind (arith, nat_tests, all)

-- what is left of a field line and an empty line
field_open : (n : ℕ) (front line tail : List ℕ) (f : Field) → Front n front → n ≤ 64 → IsField f → line ++ tail ≡ print_field f → 0 < length tail → IsOpen (front ++ line)
field_open n front line tail f x most is e some =
    let y = front_more n front (line ++ tail) f x is e in
    let reads = front_reads (n + 1) (front ++ (line ++ tail)) lf y in
    let text : (front ++ line) ++ (tail ++ 10 ∷ []) ≡ (front ++ (line ++ tail)) ++ print_end lf =
    append_assoc front line (tail ++ 10 ∷ []) ∙ ap (λ l. front ++ l) (sym (append_assoc line tail (10 ∷ []))) ∙ sym (append_assoc front (line ++ tail) (10 ∷ [])) in
    let whole : ReadsRequest ((front ++ line) ++ (tail ++ 10 ∷ [])) (with y.h y.h.fields lf) [] = subst (λ t. ReadsRequest t (with y.h y.h.fields lf) []) (sym text) reads in
    let long : 0 < length (tail ++ 10 ∷ []) = omega (arith, length-append tail (10 ∷ [])) in
    elim (cases_Bool (nat_lt n 64)) [
      | inl few ↦ may_open (front ++ line) (tail ++ 10 ∷ []) (with y.h y.h.fields lf) whole long (let c = y.count in let less : n < 64 = grind (arith, nat_tests, few) in omega (arith, c, less))
      | inr over ↦ many_open (front ++ line) (tail ++ 10 ∷ []) (with y.h y.h.fields lf) whole long (many_front n front line x (grind (arith, nat_tests, over)))
    ]

end_open : (n : ℕ) (front line tail : List ℕ) (e : LineEnd) → Front n front → n ≤ 64 → line ++ tail ≡ print_end e → 0 < length tail → IsOpen (front ++ line)
end_open n front line tail e x most is some =
    let reads = front_reads n front e x in
    may_open (front ++ line) tail (with x.h x.h.fields e) (subst (λ t. ReadsRequest t (with x.h x.h.fields e) []) (ap (λ l. front ++ l) (sym is) ∙ sym (append_assoc front line tail)) reads) some
    (let c = x.count in omega (arith, c, most))

row_open : (n : ℕ) (front line row tail : List ℕ) (e : LineEnd) → Front n front → n ≤ 64 → Row row → line ++ tail ≡ row ++ print_end e → 0 < length tail → IsOpen (front ++ line)
row_open n front line row tail e x most r text some =
    let f : Field = record { name = r.name; raw = r.raw; end = e } in
    field_open n front line tail f x most (record { name = r.token; raw = r.value }) (text ∙ ap (λ l. l ++ print_end e) r.is) some

line_open : (n : ℕ) (a : LineAt) (front line : List ℕ) → Front n front → n ≤ 64 → IsLine a line → IsOpen (front ++ line)
line_open n at.Start front line x most is = end_open n front line (10 ∷ []) lf x most (ap (λ l. l ++ 10 ∷ []) is) (omega arith)
line_open n at.Name front line x most is =
    row_open n front line (line ++ 58 ∷ []) (58 ∷ 10 ∷ []) lf x most (record { name = line; raw = []; token = is; value = All-nil _; is = refl }) (sym (append_assoc line (58 ∷ []) (10 ∷ []))) (omega arith)
line_open n at.Value front line x most is = row_open n front line line (10 ∷ []) lf x most is refl (omega arith)
line_open n at.ValueCr front line x most is =
    row_open n front line is.0 (10 ∷ []) crlf x most is.1 (ap (λ l. l ++ 10 ∷ []) is.2 ∙ append_assoc is.0 (13 ∷ []) (10 ∷ [])) (omega arith)
line_open n at.EndCr front line x most is = end_open n front line (10 ∷ []) crlf x most (ap (λ l. l ++ 10 ∷ []) is) (omega arith)

pub fields_open : (n : ℕ) (a : LineAt) (bytes : List ℕ) → n ≤ 64 → IsFields n a bytes → IsOpen bytes
fields_open n a bytes most x = subst IsOpen (sym x.4) (line_open n a x.0 x.1 x.2 most x.3)

-- ---- one space

-- two lists with their first space
pub first_space : (a b s t : List ℕ) → list_all (λ c. not (c == space)) a ≡ true → list_all (λ c. not (c == space)) b ≡ true → a ++ space ∷ s ≡ b ++ space ∷ t → (a ≡ b) × (s ≡ t)
first_space [] [] s t x y e = (refl, (let tails : s ≡ t = cc in tails))
first_space [] (c ∷ b) s t x y e =
    let heads : c ≡ 32 = cc in
    absurd (false≢true (subst (λ (v : ℕ). not (v == 32) ≡ true) heads (and_parts _ _ y).0))
first_space (c ∷ a) [] s t x y e =
    let heads : c ≡ 32 = cc in
    absurd (false≢true (subst (λ (v : ℕ). not (v == 32) ≡ true) heads (and_parts _ _ x).0))
first_space (c ∷ a) (d ∷ b) s t x y e =
    let heads : c ≡ d = cc in
    let tails : a ++ space ∷ s ≡ b ++ space ∷ t = cc in
    let rest = first_space a b s t (and_parts _ _ x).1 (and_parts _ _ y).1 tails in
    ((λ i. heads i ∷ rest.0 i), rest.1)

pub front_spaceless : (ends : List LineEnd) (method : List ℕ) → IsToken method → list_all (λ c. not (c == space)) (print_blank ends ++ method) ≡ true
front_spaceless ends method token = list_all-append (λ c. not (c == space)) (print_blank ends) method
    ∙ and_from _ _ (no_space_in_blank ends) (weaker is_token_byte (λ c. not (c == space)) token_is_no_space method (list_all-from_AllPass is_token_byte method token.1))

-- a head has two spaces
pub one_space_no_head : (bytes front target : List ℕ) → list_all (λ c. not (c == space)) front ≡ true → list_all is_open target ≡ true → bytes ≡ front ++ space ∷ target → HasNoHead bytes
one_space_no_head bytes front target x y e k rest has =
    let X = print_version k.minor ++ (print_end k.line_end ++ (print_section k.fields k.last ++ rest)) in
    let text : front ++ space ∷ target ≡ (print_blank k.blank ++ k.method) ++ space ∷ (k.target ++ space ∷ X) =
    sym e ∙ has.reads.1 ∙ print_request-append k rest ∙ sym (append_assoc (print_blank k.blank) k.method (space ∷ (k.target ++ space ∷ X))) in
    let same = first_space front (print_blank k.blank ++ k.method) target (k.target ++ space ∷ X) x (front_spaceless k.blank k.method has.reads.0.method) text in
    let all : list_all is_open (k.target ++ space ∷ X) ≡ true = subst (λ t. list_all is_open t ≡ true) same.1 y in
    false≢true ((and_parts _ _ (sym (list_all-append is_open k.target (space ∷ X)) ∙ all)).1)

-- ---- the start

letter : IsToken (71 ∷ [])
unfolding is_token_byte
letter = (omega arith, AllPass-from_list_all is_token_byte (71 ∷ []) refl)

start_may : (bytes more : List ℕ) (ends : List LineEnd) (method : List ℕ) → IsToken method → bytes ++ more ≡ (print_blank ends ++ method) ++ (space ∷ []) ++ ending → 0 < length more → IsOpen bytes
start_may bytes more ends method token e some =
    may_open bytes more (small_head ends method) (small_is ends method token, e ∙ small_text ends method) some (omega arith)

blank_text : (b m e : List ℕ) → b ++ (m ++ ((space ∷ []) ++ e)) ≡ (b ++ m) ++ (space ∷ []) ++ e
blank_text b m e = simp append_assoc

pub start_open : (a : StartAt) (bytes : List ℕ) → IsStart a bytes → IsOpen bytes
start_open start.Blank bytes is =
    start_may bytes ((71 ∷ []) ++ ((space ∷ []) ++ ending)) is.0 (71 ∷ []) letter (ap (λ l. l ++ ((71 ∷ []) ++ ((space ∷ []) ++ ending))) is.1 ∙ blank_text (print_blank is.0) (71 ∷ []) ending) (omega arith)
start_open start.BlankCr bytes is =
    start_may bytes (10 ∷ (71 ∷ []) ++ ((space ∷ []) ++ ending)) (is.0 ++ crlf ∷ []) (71 ∷ []) letter (
    ap (λ l. l ++ (10 ∷ (71 ∷ []) ++ ((space ∷ []) ++ ending))) is.1
    ∙ append_assoc (print_blank is.0) (13 ∷ []) (10 ∷ (71 ∷ []) ++ ((space ∷ []) ++ ending))
    ∙ sym (append_assoc (print_blank is.0) (13 ∷ 10 ∷ []) ((71 ∷ []) ++ ((space ∷ []) ++ ending)))
    ∙ ap (λ l. l ++ ((71 ∷ []) ++ ((space ∷ []) ++ ending))) (sym (flat_map-append print_end is.0 (crlf ∷ [])))
    ∙ blank_text (print_blank (is.0 ++ crlf ∷ [])) (71 ∷ []) ending) (omega arith)
start_open start.Method bytes is =
    start_may bytes ((space ∷ []) ++ ending) is.0 is.1 is.2 (ap (λ l. l ++ ((space ∷ []) ++ ending)) is.3 ∙ sym (append_assoc (print_blank is.0 ++ is.1) (space ∷ []) ending)) (omega arith)
start_open start.Target bytes is = (
  one_space_no_head bytes (print_blank is.0 ++ is.1) is.2 (front_spaceless is.0 is.1 is.3) is.4 is.5,
  inr (inl (record {
    front = print_blank is.0 ++ is.1;
    target = is.2;
    parts = is.5;
    one_space = front_spaceless is.0 is.1 is.3;
    open_end = is.4;
    may = (ending, small_head is.0 is.1, [], (small_is is.0 is.1 is.3, ap (λ l. l ++ ending) refl ∙ small_text is.0 is.1), omega arith);
  })),
)

-- ---- what httparse answers

never_no_head : (bytes : List ℕ) → NeverHead bytes → HasNoHead bytes
never_no_head bytes never h rest has =
    let many = never [] h rest (subst (λ t. ReadsRequest t h rest) (sym (append-nil bytes)) has.reads) in
    let few = has.lines in
    omega (arith, many, few)

pub waits_open : (bytes : List ℕ) → HasNoRequest bytes → MayBecomeRequest bytes → IsOpen bytes
waits_open bytes none may = (
  (λ h rest has. none h rest has.reads),
  elim (cases_Bool (has_many_lines bytes)) [
    | inl many ↦ inr (inr many)
    | inr few ↦ elim (waiting bytes may few) [ inl x ↦ inl x | inr x ↦ inr (inl x) ]
  ],
)

pub never_whole : (bytes : List ℕ) → NoSpace bytes → NeverHead bytes → IsNever bytes
never_whole bytes none never = (never_no_head bytes never, never, λ x. none x.front x.target x.parts x.one_space x.open_end)

-- the same where the target is open: what counts is the front with its space
pub target_open : (bytes front target : List ℕ) → list_all (λ c. not (c == space)) front ≡ true → list_all is_open target ≡ true → bytes ≡ front ++ space ∷ target → IsOpen (front ++ space ∷ []) → IsOpen bytes
target_open bytes front target x y e waits = (
  one_space_no_head bytes front target x y e,
  elim waits.1 [
    | inl may ↦ inr (inl (record { front = front; target = target; parts = e; one_space = x; open_end = y; may = may }))
    | inr other ↦ elim other [
      | inl z ↦
          let same = first_space z.front front z.target [] z.one_space x (sym z.parts) in
          inr (inl (record { front = front; target = target; parts = e; one_space = x; open_end = y; may = subst (λ t. MayBecomeHead (t ++ space ∷ [])) same.0 z.may }))
      | inr many ↦ inr (inr (subst (λ t. IsTrue (has_many_lines t)) (sym (e ∙ sym (append_assoc front (space ∷ []) target)))
          (let more : 65 ≤ lines ((front ++ space ∷ []) ++ target) = (let few : 65 ≤ lines (front ++ space ∷ []) = grind (arith, nat_tests, many) in omega (arith, few, lines-append (front ++ space ∷ []) target)) in grind (arith, nat_tests, more))))
    ]
  ],
)

pub target_never : (bytes front target : List ℕ) → list_all (λ c. not (c == space)) front ≡ true → list_all is_open target ≡ true → bytes ≡ front ++ space ∷ target → NeverHead (front ++ space ∷ []) → IsNever bytes
target_never bytes front target x y e never =
    let split : bytes ≡ (front ++ space ∷ []) ++ target = e ∙ sym (append_assoc front (space ∷ []) target) in
    let all : NeverHead bytes = subst NeverHead (sym split) (never-more (front ++ space ∷ []) target never) in (
      never_no_head bytes all,
      all,
      λ z.
          let same = first_space z.front front z.target target z.one_space x (sym z.parts ∙ e) in
          let many = never z.may.0 z.may.1 z.may.2 (subst (λ t. ReadsRequest ((t ++ space ∷ []) ++ z.may.0) z.may.1 z.may.2) same.0 z.may.3) in
          let few = z.may.4 in
          omega (arith, many, few),
    )
