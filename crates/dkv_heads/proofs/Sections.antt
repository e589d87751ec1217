-- The steps through a whole section, and what they say of the bytes so far.
use Rattle.std.proofs.Common.{ℕ, ◌≡◌, ◌<◌, refl, sym, ap, ◌∙◌, subst, Bool, true, false, List, [], ◌∷◌, ◌++◌, length, append_assoc, append-nil, All, arith, inl, inr, eqb-true}
use Rattle.std.specs.Prelude.{◌==◌, flat_map}
use Rattle.std.proofs.lemmas.Bool.{false≢true, and_parts, cases_Bool}
use Rattle.std.proofs.lemmas.List.Elements.{recursion_from_All, All-from_recursion, All-nil, All-push}
use Rattle.std.proofs.lemmas.Grind.{flat_map-append}
use Rattle.std.proofs.lemmas.List.Sums.{list_all-from_AllPass}
use Rattle.std.specs.List.{list_all}
use Rattle.httparse.specs.Grammar.{is_token_byte, is_value_byte, LineEnd, crlf, lf, print_end, Field, IsField, print_field, ReadsSection, HasNoSection, NeverHasSection, MayBecomeSection}
use Rattle.dkv_heads.specs.declared.lines.LineAt.{LineAt}
use Rattle.dkv_heads.specs.declared.lines.LineAt.TheVariants as at
use Rattle.dkv_heads.specs.declared.lines.LineStep.{LineStep}
use Rattle.dkv_heads.specs.declared.lines.LineStep.TheVariants as step
use Rattle.dkv_heads.specs.Scans.{next_line, Row, IsLine}
use Rattle.dkv_heads.specs.Scans.{IsTrailers}

-- where the steps lead: into a line, to the end of the section, or to a byte that no section has
data Run : Type 0 where
  waits other : Run
  ends : List ℕ → Run

abbrev follow : LineStep → List ℕ → (LineAt → Run) → Run
follow (step.On a) bytes go = go a
follow step.Field bytes go = go at.Start
follow step.End bytes go = ends bytes
follow step.Other bytes go = other

abbrev run : LineAt → List ℕ → Run
run a [] = waits
run a (b ∷ bytes) = follow (next_line a b) bytes (λ x. run x bytes)

goes_on : (a c : LineAt) (b : ℕ) (bytes : List ℕ) → next_line a b ≡ step.On c → run a (b ∷ bytes) ≡ run c bytes
goes_on a c b bytes e = ap (λ s. follow s bytes (λ x. run x bytes)) e

is_not : (test : ℕ → Bool) (b k : ℕ) → test b ≡ true → test k ≡ false → (b == k) ≡ false
is_not test b k e f = elim (cases_Bool (b == k)) [ inl same ↦ absurd (false≢true (sym f ∙ ap test (sym (eqb-true b k same)) ∙ e)) | inr apart ↦ apart ]

token_is : (k : ℕ) → is_token_byte k ≡ false → (b : ℕ) → is_token_byte b ≡ true → (b == k) ≡ false
token_is k f b e = is_not is_token_byte b k e f

no_colon : is_token_byte 58 ≡ false
unfolding is_token_byte
no_colon = refl

no_cr : is_token_byte 13 ≡ false
unfolding is_token_byte
no_cr = refl

no_lf : is_token_byte 10 ≡ false
unfolding is_token_byte
no_lf = refl

name_step : (b : ℕ) → is_token_byte b ≡ true → next_line at.Name b ≡ step.On at.Name
name_step b e = rw (token_is 58 no_colon b e) (rw e refl)

start_step : (b : ℕ) → is_token_byte b ≡ true → next_line at.Start b ≡ step.On at.Name
start_step b e = rw (token_is 13 no_cr b e) (rw (token_is 10 no_lf b e) (rw e refl))

value_step : (b : ℕ) → is_value_byte b ≡ true → next_line at.Value b ≡ step.On at.Value
value_step b e = rw (is_not is_value_byte b 13 e refl) (rw (is_not is_value_byte b 10 e refl) (rw e refl))

name_run : (name x : List ℕ) → list_all is_token_byte name ≡ true → run at.Name (name ++ x) ≡ run at.Name x
name_run [] x e = refl
name_run (b ∷ name) x e = goes_on at.Name at.Name b (name ++ x) (name_step b (and_parts _ _ e).0) ∙ name_run name x (and_parts _ _ e).1

value_run : (raw x : List ℕ) → list_all is_value_byte raw ≡ true → run at.Value (raw ++ x) ≡ run at.Value x
value_run [] x e = refl
value_run (b ∷ raw) x e = goes_on at.Value at.Value b (raw ++ x) (value_step b (and_parts _ _ e).0) ∙ value_run raw x (and_parts _ _ e).1

token_run : (name x : List ℕ) → 0 < length name → list_all is_token_byte name ≡ true → run at.Start (name ++ x) ≡ run at.Name x
token_run [] x some e = absurd (omega (arith, some))
token_run (b ∷ name) x some e = goes_on at.Start at.Name b (name ++ x) (start_step b (and_parts _ _ e).0) ∙ name_run name x (and_parts _ _ e).1

row_run : (row x : List ℕ) → Row row → run at.Start (row ++ x) ≡ run at.Value x
row_run row x r =
    ap (λ l. run at.Start (l ++ x)) r.is ∙ ap (run at.Start) (append_assoc r.name (58 ∷ r.raw) x)
    ∙ token_run r.name (58 ∷ (r.raw ++ x)) r.token.0 (list_all-from_AllPass is_token_byte r.name r.token.1)
    ∙ value_run r.raw x (list_all-from_AllPass is_value_byte r.raw r.value)

end_run : (e : LineEnd) (x : List ℕ) → run at.Value (print_end e ++ x) ≡ run at.Start x
end_run crlf x = refl
end_run lf x = refl

field_run : (f : Field) (x : List ℕ) → IsField f → run at.Start (print_field f ++ x) ≡ run at.Start x
field_run f x is =
    ap (run at.Start) (append_assoc (f.name ++ 58 ∷ f.raw) (print_end f.end) x)
    ∙ row_run (f.name ++ 58 ∷ f.raw) (print_end f.end ++ x) (record { name = f.name; raw = f.raw; token = is.name; value = is.raw; is = refl })
    ∙ end_run f.end x

abbrev EachField : List Field → Type 0
EachField [] = Unit {0}
EachField (f ∷ fields) = IsField f × EachField fields

fields_run : (fields : List Field) (x : List ℕ) → EachField fields → run at.Start (flat_map print_field fields ++ x) ≡ run at.Start x
fields_run [] x is = refl
fields_run (f ∷ fields) x is = ap (run at.Start) (append_assoc (print_field f) (flat_map print_field fields) x) ∙ field_run f (flat_map print_field fields ++ x) is.0 ∙ fields_run fields x is.1

each_field : (fields : List Field) → All IsField fields → EachField fields
each_field [] all = tt
each_field (f ∷ fields) all = ((recursion_from_All IsField (f ∷ fields) all).0, each_field fields (All-from_recursion IsField fields (recursion_from_All IsField (f ∷ fields) all).1))

last_run : (e : LineEnd) (x : List ℕ) → run at.Start (print_end e ++ x) ≡ ends x
last_run crlf x = refl
last_run lf x = refl

section_run : (bytes : List ℕ) (fields : List Field) (last : LineEnd) (rest : List ℕ) → ReadsSection bytes fields last rest → run at.Start bytes ≡ ends rest
section_run bytes fields last rest reads =
    ap (run at.Start) (reads.1 ∙ append_assoc (flat_map print_field fields) (print_end last) rest)
    ∙ fields_run fields (print_end last ++ rest) (each_field fields reads.0) ∙ last_run last rest

line_run : (a : LineAt) (line x : List ℕ) → IsLine a line → run at.Start (line ++ x) ≡ run a x
line_run at.Start line x is = ap (λ l. run at.Start (l ++ x)) is
line_run at.Name line x is = token_run line x is.0 (list_all-from_AllPass is_token_byte line is.1)
line_run at.Value line x is = row_run line x is
line_run at.ValueCr line x is = ap (λ l. run at.Start (l ++ x)) is.2 ∙ ap (run at.Start) (append_assoc is.0 (13 ∷ []) x) ∙ row_run is.0 (13 ∷ x) is.1
line_run at.EndCr line x is = ap (λ l. run at.Start (l ++ x)) is

trailers_run : (a : LineAt) (bytes x : List ℕ) → IsTrailers a bytes → run at.Start (bytes ++ x) ≡ run a x
trailers_run a bytes x is =
    ap (λ l. run at.Start (l ++ x)) is.4 ∙ ap (run at.Start) (append_assoc (flat_map print_field is.0) is.1 x)
    ∙ fields_run is.0 (is.1 ++ x) (each_field is.0 is.2) ∙ line_run a is.1 x is.3

pub trailers_none : (a : LineAt) (bytes : List ℕ) → IsTrailers a bytes → HasNoSection bytes
trailers_none a bytes is fields last rest reads =
    let e : waits ≡ ends rest = sym (trailers_run a bytes [] is) ∙ ap (run at.Start) (append-nil bytes) ∙ section_run bytes fields last rest reads in
    absurd (cc)

pub trailers_never : (a : LineAt) (b : ℕ) (bytes : List ℕ) → IsTrailers a bytes → next_line a b ≡ step.Other → NeverHasSection (bytes ++ b ∷ [])
trailers_never a b bytes is bad more fields last rest reads =
    let here : run a (b ∷ more) ≡ other = ap (λ s. follow s more (λ x. run x more)) bad in
    let e : other ≡ ends rest = sym here ∙ sym (trailers_run a bytes (b ∷ more) is) ∙ ap (run at.Start) (sym (append_assoc bytes (b ∷ []) more)) ∙ section_run ((bytes ++ b ∷ []) ++ more) fields last rest reads in
    absurd (cc)

-- ---- more bytes make a section

pub fields_push : (fs : List Field) (f : Field) → flat_map print_field (fs ++ f ∷ []) ≡ flat_map print_field fs ++ print_field f
fields_push fs f = flat_map-append print_field fs (f ∷ []) ∙ ap (λ l. flat_map print_field fs ++ l) (append-nil (print_field f))

with_field : (fields : List Field) (line tail : List ℕ) (f : Field) → All IsField fields → IsField f → line ++ tail ≡ print_field f → MayBecomeSection (flat_map print_field fields ++ line)
with_field fields line tail f all is e = (
  tail ++ 10 ∷ [],
  fields ++ f ∷ [],
  lf,
  (
    All-push IsField fields f all is,
    append_assoc (flat_map print_field fields) line (tail ++ 10 ∷ [])
        ∙ ap (λ l. flat_map print_field fields ++ l) (sym (append_assoc line tail (10 ∷ [])) ∙ ap (λ l. l ++ 10 ∷ []) e)
        ∙ sym (append_assoc (flat_map print_field fields) (print_field f) (10 ∷ []))
        ∙ ap (λ l. l ++ 10 ∷ []) (sym (fields_push fields f))
        ∙ sym (append-nil (flat_map print_field (fields ++ f ∷ []) ++ 10 ∷ [])),
  ),
)

with_end : (fields : List Field) (line tail : List ℕ) (e : LineEnd) → All IsField fields → line ++ tail ≡ print_end e → MayBecomeSection (flat_map print_field fields ++ line)
with_end fields line tail e all is = (
  tail,
  fields,
  e,
  (all, append_assoc (flat_map print_field fields) line tail ∙ ap (λ l. flat_map print_field fields ++ l) is ∙ sym (append-nil (flat_map print_field fields ++ print_end e))),
)

with_row : (fields : List Field) (line row tail : List ℕ) (e : LineEnd) → All IsField fields → Row row → line ++ tail ≡ row ++ print_end e → MayBecomeSection (flat_map print_field fields ++ line)
with_row fields line row tail e all r text =
    with_field fields line tail (record { name = r.name; raw = r.raw; end = e }) all (record { name = r.token; raw = r.value }) (text ∙ ap (λ l. l ++ print_end e) r.is)

line_may : (a : LineAt) (fields : List Field) (line : List ℕ) → All IsField fields → IsLine a line → MayBecomeSection (flat_map print_field fields ++ line)
line_may at.Start fields line all is = with_end fields line (10 ∷ []) lf all (ap (λ l. l ++ 10 ∷ []) is)
line_may at.Name fields line all is = with_row fields line (line ++ 58 ∷ []) (58 ∷ 10 ∷ []) lf all (record { name = line; raw = []; token = is; value = All-nil _; is = refl }) (sym (append_assoc line (58 ∷ []) (10 ∷ [])))
line_may at.Value fields line all is = with_row fields line line (10 ∷ []) lf all is refl
line_may at.ValueCr fields line all is = with_row fields line is.0 (10 ∷ []) crlf all is.1 (ap (λ l. l ++ 10 ∷ []) is.2 ∙ append_assoc is.0 (13 ∷ []) (10 ∷ []))
line_may at.EndCr fields line all is = with_end fields line (10 ∷ []) crlf all (ap (λ l. l ++ 10 ∷ []) is)

pub trailers_may : (a : LineAt) (bytes : List ℕ) → IsTrailers a bytes → MayBecomeSection bytes
trailers_may a bytes is = subst MayBecomeSection (sym is.4) (line_may a is.0 is.1 is.2 is.3)
