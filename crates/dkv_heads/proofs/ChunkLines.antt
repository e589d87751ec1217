-- One more byte of a chunk line.
use Rattle.std.proofs.Common.{ℕ, ◌≡◌, ◌<◌, ◌≤◌, refl, sym, ap, ◌∙◌, subst, Bool, true, false, not, List, [], ◌∷◌, ◌++◌, length, length-append, append_assoc, append-nil, arith, Option, Some, None, eqb-true}
use Rattle.std.specs.Prelude.{if◌then◌else◌, ◌==◌, ◌&&◌, ◌||◌}
use Rattle.std.specs.Char.{is_ascii_hexdigit}
use Rattle.std.proofs.lemmas.List.Elements.{All-nil, All-push}
use Rattle.std.proofs.lemmas.Bool.{and_parts}
use Rattle.httparse.specs.Grammar.{AllPass, is_ows, is_extension_byte, ChunkLine, IsChunkLine, IsExtension, print_extension, print_chunk_line, print_end, crlf, ReadsChunkLine, HasNoChunkLine, MayBecomeChunkLine}
use Rattle.httparse.proofs.ChunkLemmas.{chunk_line_unique, ReadsChunkLine-append}
use Rattle.dkv_heads.specs.declared.sizes.SizeAt.{SizeAt}
use Rattle.dkv_heads.specs.declared.sizes.SizeAt.TheVariants as at
use Rattle.dkv_heads.specs.Sizes.{next_size, without_end, IsSize, SizeGoes}

by_test : (t : Bool) (x y : Option SizeAt) (line : List ℕ) → (t ≡ true → SizeGoes x line) → (t ≡ false → SizeGoes y line) → SizeGoes (if t then x else y) line
by_test true x y line h k = h refl
by_test false x y line h k = k refl

last_byte : (line : List ℕ) (b k : ℕ) → (b == k) ≡ true → line ++ b ∷ [] ≡ line ++ k ∷ []
last_byte line b k e = ap (λ (x : ℕ). line ++ x ∷ []) (eqb-true b k e)

abbrev digits_line : List ℕ → ChunkLine
digits_line digits = record { digits = digits; pad = []; extension = None }

digits_is : (digits : List ℕ) → 0 < length digits → length digits ≤ 16 → AllPass is_ascii_hexdigit digits → IsChunkLine (digits_line digits)
digits_is digits some few all = record { digits = (some, few, all); pad = All-nil _; extension = tt }

digits_text : (digits : List ℕ) → digits ≡ without_end (digits_line digits)
digits_text digits = sym (append-nil (digits ++ []) ∙ append-nil digits)

abbrev with_pad : ChunkLine → List ℕ → ChunkLine
with_pad l pad = record l { pad = pad }

abbrev with_extension : ChunkLine → List ℕ → ChunkLine
with_extension l text = record l { extension = Some text }

-- a pad goes on
pad_more : (b : ℕ) (line : List ℕ) (l : ChunkLine) → IsChunkLine l → l.extension ≡ None → line ≡ without_end l → is_ows b ≡ true → IsSize at.Pad (line ++ b ∷ [])
pad_more b line l is none e ows = (
  record { digits = l.digits; pad = l.pad ++ b ∷ []; extension = None },
  record { digits = is.digits; pad = All-push (λ v. is_ows v ≡ true) l.pad b is.pad ows; extension = tt },
  refl,
  ap (λ t. t ++ b ∷ []) (e ∙ ap (λ x. (l.digits ++ l.pad) ++ print_extension x) none ∙ append-nil (l.digits ++ l.pad)) ∙ append_assoc l.digits l.pad (b ∷ []) ∙ sym (append-nil (l.digits ++ (l.pad ++ b ∷ []))),
)

-- an extension begins
begins : (b : ℕ) (line : List ℕ) (l : ChunkLine) → IsChunkLine l → l.extension ≡ None → line ≡ without_end l → (b == 59) ≡ true → IsSize at.Extension (line ++ b ∷ [])
begins b line l is none e semi = (
  with_extension l [],
  [],
  record { digits = is.digits; pad = is.pad; extension = All-nil _ },
  refl,
  last_byte line b 59 semi ∙ ap (λ t. t ++ 59 ∷ []) (e ∙ ap (λ x. (l.digits ++ l.pad) ++ print_extension x) none ∙ append-nil (l.digits ++ l.pad)),
)

ends : (b : ℕ) (line : List ℕ) (l : ChunkLine) → IsChunkLine l → line ≡ without_end l → (b == 13) ≡ true → IsSize at.Cr (line ++ b ∷ [])
ends b line l is e cr = (l, is, last_byte line b 13 cr ∙ ap (λ t. t ++ 13 ∷ []) e)

extension_byte : (b : ℕ) → (b == 13) ≡ false → (b == 10) ≡ false → is_extension_byte b ≡ true
extension_byte b e f = λ i. not ((e i) || (f i))

extends : (b : ℕ) (line text : List ℕ) (l : ChunkLine) → IsChunkLine l → l.extension ≡ Some text → line ≡ without_end l → is_extension_byte b ≡ true → IsSize at.Extension (line ++ b ∷ [])
extends b line text l is has e byte = (
  with_extension l (text ++ b ∷ []),
  text ++ b ∷ [],
  record { digits = is.digits; pad = is.pad; extension = All-push (λ v. is_extension_byte v ≡ true) text b (subst IsExtension has is.extension) byte },
  refl,
  ap (λ t. t ++ b ∷ []) (e ∙ ap (λ x. (l.digits ++ l.pad) ++ print_extension x) has) ∙ append_assoc (l.digits ++ l.pad) (59 ∷ text) (b ∷ []),
)

pub size_goes : (a : SizeAt) (few some : Bool) (b : ℕ) (line : List ℕ) → (few ≡ true → length line < 16) → (some ≡ true → 0 < length line) → IsSize a line → SizeGoes (next_size a few some b) (line ++ b ∷ [])
size_goes at.Digits few some b line short long is =
    by_test (few && is_ascii_hexdigit b) (Some at.Digits) _ (line ++ b ∷ []) (λ e. (let less = short (and_parts _ _ e).0 in omega (arith, less, length-append line (b ∷ [])), All-push (λ v. is_ascii_hexdigit v ≡ true) line b is.1 (and_parts _ _ e).1)) (λ _.
    by_test (some && is_ows b) (Some at.Pad) _ (line ++ b ∷ []) (λ e. pad_more b line (digits_line line) (digits_is line (long (and_parts _ _ e).0) is.0 is.1) refl (digits_text line) (and_parts _ _ e).1) (λ _.
    by_test (some && (b == 59)) (Some at.Extension) _ (line ++ b ∷ []) (λ e. begins b line (digits_line line) (digits_is line (long (and_parts _ _ e).0) is.0 is.1) refl (digits_text line) (and_parts _ _ e).1) (λ _.
    by_test (some && (b == 13)) (Some at.Cr) None (line ++ b ∷ []) (λ e. ends b line (digits_line line) (digits_is line (long (and_parts _ _ e).0) is.0 is.1) (digits_text line) (and_parts _ _ e).1) (λ _. tt))))
size_goes at.Pad few some b line short long is =
    by_test (is_ows b) (Some at.Pad) _ (line ++ b ∷ []) (λ e. pad_more b line is.0 is.1 is.2 is.3 e) (λ _.
    by_test (b == 59) (Some at.Extension) _ (line ++ b ∷ []) (λ e. begins b line is.0 is.1 is.2 is.3 e) (λ _.
    by_test (b == 13) (Some at.Cr) None (line ++ b ∷ []) (λ e. ends b line is.0 is.1 is.3 e) (λ _. tt)))
size_goes at.Extension few some b line short long is =
    by_test (b == 13) (Some at.Cr) _ (line ++ b ∷ []) (λ e. ends b line is.0 is.2 is.4 e) (λ n.
    by_test (b == 10) None (Some at.Extension) (line ++ b ∷ []) (λ _. tt) (λ m. extends b line is.1 is.0 is.2 is.3 is.4 (extension_byte b n m)))
size_goes at.Cr few some b line short long is = tt
size_goes at.Judged few some b line short long is = tt

-- ---- no line so far, and more may make one

line_text : (l : ChunkLine) → print_chunk_line l ≡ without_end l ++ print_end crlf
unfolding print_chunk_line
line_text l = refl

strict : (line more : List ℕ) (l : ChunkLine) → ReadsChunkLine (line ++ more) l [] → 0 < length more → MayBecomeChunkLine line × HasNoChunkLine line
strict line more l reads some = (
  (more, l, reads),
  λ k rest has.
      let same = chunk_line_unique (line ++ more) k l (rest ++ more) [] (ReadsChunkLine-append line k rest more has) reads in
      let none = ap length same.1 in
      omega (arith, none, length-append rest more, some),
)

by_line : (line more : List ℕ) (l : ChunkLine) → IsChunkLine l → line ++ more ≡ without_end l ++ 13 ∷ 10 ∷ [] → 0 < length more → MayBecomeChunkLine line × HasNoChunkLine line
by_line line more l is e some = strict line more l (is, e ∙ sym (line_text l) ∙ sym (append-nil (print_chunk_line l))) some

pub size_open : (a : SizeAt) (line : List ℕ) → IsSize a line → MayBecomeChunkLine line × HasNoChunkLine line
size_open at.Digits [] is = by_line [] (48 ∷ 13 ∷ 10 ∷ []) (digits_line (48 ∷ [])) (digits_is (48 ∷ []) (omega arith) (omega arith) (All-push (λ v. is_ascii_hexdigit v ≡ true) [] 48 (All-nil _) refl)) refl (omega arith)
size_open at.Digits (d ∷ ds) is = by_line (d ∷ ds) (13 ∷ 10 ∷ []) (digits_line (d ∷ ds)) (digits_is (d ∷ ds) (omega arith) is.0 is.1) (ap (λ t. t ++ 13 ∷ 10 ∷ []) (digits_text (d ∷ ds))) (omega arith)
size_open at.Pad line is = by_line line (13 ∷ 10 ∷ []) is.0 is.1 (ap (λ t. t ++ 13 ∷ 10 ∷ []) is.3) (omega arith)
size_open at.Extension line is = by_line line (13 ∷ 10 ∷ []) is.0 is.2 (ap (λ t. t ++ 13 ∷ 10 ∷ []) is.4) (omega arith)
size_open at.Cr line is = by_line line (10 ∷ []) is.0 is.1 (ap (λ t. t ++ 10 ∷ []) is.2 ∙ append_assoc (without_end is.0) (13 ∷ []) (10 ∷ [])) (omega arith)
size_open at.Judged line is = is
