-- One more byte of a head.
use Rattle.std.proofs.Common.{ℕ, ◌≡◌, refl, sym, ap, ◌∙◌, subst, Bool, true, false, List, [], ◌∷◌, ◌++◌, length-append, append_assoc, append-nil, arith, Option, Some, None, eqb-true}
use Rattle.std.specs.Prelude.{if◌then◌else◌, ◌==◌, ◌||◌}
use Rattle.std.proofs.lemmas.List.Elements.{All-nil, All-push}
use Rattle.std.proofs.lemmas.List.Folds.{list_all-append}
use Rattle.std.proofs.lemmas.Bool.{and_from}
use Rattle.std.proofs.lemmas.Grind.{flat_map-append}
use Rattle.httparse.specs.Ascii.{space, line_feed, carriage_return}
use Rattle.httparse.specs.Grammar.{is_token_byte, is_value_byte, AllPass, IsToken, LineEnd, crlf, lf, print_end, print_blank, Field, IsField, print_field}
use Rattle.dkv_heads.specs.declared.lines.LineAt.{LineAt}
use Rattle.dkv_heads.specs.declared.lines.LineAt.TheVariants as at
use Rattle.dkv_heads.specs.declared.lines.LineStep.{LineStep}
use Rattle.dkv_heads.specs.declared.lines.LineStep.TheVariants as step
use Rattle.dkv_heads.specs.declared.starts.StartAt.{StartAt}
use Rattle.dkv_heads.specs.declared.starts.StartAt.TheVariants as start
use Rattle.dkv_heads.specs.Heads.{is_open}
use Rattle.dkv_heads.specs.Scans.{next_line, Row, IsLine, LineGoes, next_start, IsStart, StartGoes}

-- ---- lines

by_test : (t : Bool) (x y : LineStep) (line : List ℕ) → (t ≡ true → LineGoes x line) → (t ≡ false → LineGoes y line) → LineGoes (if t then x else y) line
by_test true x y line h k = h refl
by_test false x y line h k = k refl

last_byte : (line : List ℕ) (b k : ℕ) → (b == k) ≡ true → line ++ b ∷ [] ≡ line ++ k ∷ []
last_byte line b k e = ap (λ (x : ℕ). line ++ x ∷ []) (eqb-true b k e)

token_push : (line : List ℕ) (b : ℕ) → AllPass is_token_byte line → is_token_byte b ≡ true → IsToken (line ++ b ∷ [])
token_push line b all e = (omega (arith, length-append line (b ∷ [])), All-push (λ v. is_token_byte v ≡ true) line b all e)

-- a row with a line end is a field line
field_of_row : (row : List ℕ) (e : LineEnd) → Row row → (f : Field) × IsField f × (row ++ print_end e ≡ print_field f)
field_of_row row e r = (
  record { name = r.name; raw = r.raw; end = e },
  record { name = r.token; raw = r.value },
  ap (λ l. l ++ print_end e) r.is,
)

pub line_goes : (a : LineAt) (b : ℕ) (line : List ℕ) → IsLine a line → LineGoes (next_line a b) (line ++ b ∷ [])
line_goes at.Start b line is =
    let one : line ++ b ∷ [] ≡ b ∷ [] = ap (λ l. l ++ b ∷ []) is in
    by_test (b == 13) (step.On at.EndCr) _ (line ++ b ∷ []) (λ e. last_byte line b 13 e ∙ ap (λ l. l ++ 13 ∷ []) is) (λ _.
    by_test (b == 10) step.End _ (line ++ b ∷ []) (λ e. (lf, last_byte line b 10 e ∙ ap (λ l. l ++ 10 ∷ []) is)) (λ _.
    by_test (is_token_byte b) (step.On at.Name) step.Other (line ++ b ∷ []) (λ e. subst IsToken (sym one) (token_push [] b (All-nil _) e)) (λ _. tt)))
line_goes at.Name b line is =
    by_test (b == 58) (step.On at.Value) _ (line ++ b ∷ []) (λ e. record { name = line; raw = []; token = is; value = All-nil _; is = last_byte line b 58 e }) (λ _.
    by_test (is_token_byte b) (step.On at.Name) step.Other (line ++ b ∷ []) (λ e. token_push line b is.1 e) (λ _. tt))
line_goes at.Value b line is =
    by_test (b == 13) (step.On at.ValueCr) _ (line ++ b ∷ []) (λ e. (line, is, last_byte line b 13 e)) (λ _.
    by_test (b == 10) step.Field _ (line ++ b ∷ []) (λ e. let f = field_of_row line lf is in (f.0, f.1, last_byte line b 10 e ∙ f.2)) (λ _.
    by_test (is_value_byte b) (step.On at.Value) step.Other (line ++ b ∷ []) (λ e. record {
      name = is.name;
      raw = is.raw ++ b ∷ [];
      token = is.token;
      value = All-push (λ v. is_value_byte v ≡ true) is.raw b is.value e;
      is = ap (λ l. l ++ b ∷ []) is.is ∙ append_assoc is.name (58 ∷ is.raw) (b ∷ []);
    }) (λ _. tt)))
line_goes at.ValueCr b line is =
    by_test (b == 10) step.Field step.Other (line ++ b ∷ []) (λ e.
    let f = field_of_row is.0 crlf is.1 in
    (f.0, f.1, last_byte line b 10 e ∙ ap (λ l. l ++ 10 ∷ []) is.2 ∙ append_assoc is.0 (13 ∷ []) (10 ∷ []) ∙ f.2)) (λ _. tt)
line_goes at.EndCr b line is =
    by_test (b == 10) step.End step.Other (line ++ b ∷ []) (λ e. (crlf, last_byte line b 10 e ∙ ap (λ l. l ++ 10 ∷ []) is)) (λ _. tt)

-- ---- the start

by_start : (t : Bool) (x y : Option StartAt) (bytes : List ℕ) → (t ≡ true → StartGoes x bytes) → (t ≡ false → StartGoes y bytes) → StartGoes (if t then x else y) bytes
by_start true x y bytes h k = h refl
by_start false x y bytes h k = k refl

blank_push : (ends : List LineEnd) (e : LineEnd) → print_blank (ends ++ e ∷ []) ≡ print_blank ends ++ print_end e
blank_push ends e = flat_map-append print_end ends (e ∷ []) ∙ ap (λ l. print_blank ends ++ l) (append-nil (print_end e))

closes_not : (b : ℕ) → ((b == space) || (b == carriage_return) || (b == line_feed)) ≡ false → is_open b ≡ true
closes_not b e = λ i. not_of (e i)
  where
    not_of : Bool → Bool
    not_of true = false
    not_of false = true

pub start_goes : (a : StartAt) (b : ℕ) (bytes : List ℕ) → IsStart a bytes → StartGoes (next_start a b) (bytes ++ b ∷ [])
start_goes start.Blank b bytes is =
    let all = bytes ++ b ∷ [] in
    by_start (b == 13) (Some start.BlankCr) _ all (λ e. (is.0, last_byte bytes b 13 e ∙ ap (λ l. l ++ 13 ∷ []) is.1)) (λ _.
    by_start (b == 10) (Some start.Blank) _ all (λ e. (is.0 ++ lf ∷ [], last_byte bytes b 10 e ∙ ap (λ l. l ++ 10 ∷ []) is.1 ∙ sym (blank_push is.0 lf))) (λ _.
    by_start (is_token_byte b) (Some start.Method) None all (λ e. (is.0, b ∷ [], token_push [] b (All-nil _) e, ap (λ l. l ++ b ∷ []) is.1)) (λ _. tt)))
start_goes start.BlankCr b bytes is =
    by_start (b == 10) (Some start.Blank) None (bytes ++ b ∷ []) (λ e. (
      is.0 ++ crlf ∷ [],
      last_byte bytes b 10 e ∙ ap (λ l. l ++ 10 ∷ []) is.1
          ∙ append_assoc (print_blank is.0) (13 ∷ []) (10 ∷ []) ∙ sym (blank_push is.0 crlf),
    )) (λ _. tt)
start_goes start.Method b bytes is =
    let all = bytes ++ b ∷ [] in
    by_start (b == 32) (Some start.Target) _ all (λ e. (is.0, is.1, [], is.2, refl, last_byte bytes b 32 e ∙ ap (λ l. l ++ 32 ∷ []) is.3)) (λ _.
    by_start (is_token_byte b) (Some start.Method) None all (λ e. (is.0, is.1 ++ b ∷ [], token_push is.1 b is.2.1 e, ap (λ l. l ++ b ∷ []) is.3 ∙ append_assoc (print_blank is.0) is.1 (b ∷ []))) (λ _. tt))
start_goes start.Target b bytes is =
    by_start ((b == space) || (b == carriage_return) || (b == line_feed)) None (Some start.Target) (bytes ++ b ∷ []) (λ _. tt) (λ e. (
      is.0,
      is.1,
      is.2 ++ b ∷ [],
      is.3,
      list_all-append is_open is.2 (b ∷ []) ∙ and_from _ _ is.4 (and_from _ true (closes_not b e) refl),
      ap (λ l. l ++ b ∷ []) is.5 ∙ append_assoc (print_blank is.0 ++ is.1) (space ∷ is.2) (b ∷ []),
    ))
