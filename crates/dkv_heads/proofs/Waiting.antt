-- Where httparse waits for more, what a rest is called open for holds.
use Rattle.std.proofs.Common.{ℕ, ◌≡◌, ◌+◌, ◌<◌, ◌≤◌, refl, sym, ap, ◌∙◌, subst, Bool, true, false, cond, not, List, [], ◌∷◌, ◌++◌, length, append_assoc, take, drop, arith, inl, inr, codes, rules}
use Rattle.std.specs.Prelude.{flat_map, IsFalse, nat_lt, nat_le, count_by, ◌==◌, ◌⊎◌, ◌||◌}
use Rattle.std.specs.List.{list_all}
use Rattle.std.proofs.lemmas.List.{append-nil, length-take-le, take-append-drop}
use Rattle.std.proofs.lemmas.List.Elements.{All-take, All-from_recursion}
use Rattle.std.proofs.lemmas.List.Sums.{sum_by-append, list_all-from_AllPass, AllPass-from_list_all}
use Rattle.std.proofs.lemmas.List.Folds.{list_all-append}
use Rattle.std.proofs.lemmas.Grind.{flat_map-append}
use Rattle.std.proofs.lemmas.Bool.{false≢true, and_from, and_parts}
use Rattle.std.proofs.lemmas.Bool.Decides.{nat_tests}
use lib.Utf8.{encode}
use Rattle.httparse.specs.Ascii.{space, line_feed}
use Rattle.httparse.specs.Grammar.{LineEnd, crlf, lf, print_end, print_blank, print_version, Field, print_field, IsField, RequestHead, IsRequestHead, ReadsRequest, print_request, is_token_byte, is_uri_byte, IsToken, AllPass}
use Rattle.dkv_heads.specs.Heads.{has_many_lines, MayBecomeHead, EndsInTarget, is_open}
use Rattle.dkv_heads.specs.Laws.{WaitingIsOpen}

-- ---- line feeds

abbrev pub lines : List ℕ → ℕ
lines xs = count_by (λ b. b == line_feed) xs

pub lines-append : (xs ys : List ℕ) → lines (xs ++ ys) ≡ lines xs + lines ys
lines-append xs ys = sum_by-append (λ b. cond (b == line_feed) 1 0) xs ys

pub lines_of_end : (e : LineEnd) → lines (print_end e) ≡ 1
lines_of_end crlf = refl
lines_of_end lf = refl

lines_of_field : (f : Field) → 1 ≤ lines (print_field f)
lines_of_field f = omega (arith, lines-append (f.name ++ 58 ∷ f.raw) (print_end f.end), lines_of_end f.end)

pub lines_of_fields : (fs : List Field) → length fs ≤ lines (flat_map print_field fs)
lines_of_fields [] = search rules
lines_of_fields (f ∷ fs) = omega (arith, lines-append (print_field f) (flat_map print_field fs), lines_of_field f, lines_of_fields fs)

-- ---- the parts of a head

abbrev pub start : RequestHead → List ℕ
start h = print_blank h.blank ++ h.method ++ space ∷ h.target ++ space ∷ print_version h.minor ++ print_end h.line_end

pub lines_of_start : (h : RequestHead) → 1 ≤ lines (start h)
lines_of_start h = omega (arith, lines-append (print_blank h.blank ++ h.method ++ space ∷ h.target ++ space ∷ print_version h.minor) (print_end h.line_end), lines_of_end h.line_end)

-- the head with its first 64 fields
abbrev cut_head : RequestHead → RequestHead
cut_head h = record h { fields = take 64 h.fields }

abbrev front_part : RequestHead → List ℕ
front_part h = start h ++ flat_map print_field (take 64 h.fields)

print_cut : (h : RequestHead) → print_request (cut_head h) ≡ front_part h ++ print_end h.last
unfolding print_request
print_cut h = sym (append_assoc (start h) (flat_map print_field (take 64 h.fields)) (print_end h.last))

print_parts : (h : RequestHead) → print_request h ≡ front_part h ++ (flat_map print_field (drop 64 h.fields) ++ print_end h.last)
unfolding print_request
print_parts h =
    let all = ap (flat_map print_field) (sym (take-append-drop 64 h.fields)) ∙ flat_map-append print_field (take 64 h.fields) (drop 64 h.fields) in
    ap (λ t. start h ++ (t ++ print_end h.last)) all
    ∙ ap (λ t. start h ++ t) (append_assoc (flat_map print_field (take 64 h.fields)) (flat_map print_field (drop 64 h.fields)) (print_end h.last))
    ∙ sym (append_assoc (start h) (flat_map print_field (take 64 h.fields)) (flat_map print_field (drop 64 h.fields) ++ print_end h.last))

cut_is : (h : RequestHead) → IsRequestHead h → IsRequestHead (cut_head h)
cut_is h is = record { method = is.method; target = is.target; target_text = is.target_text; minor = is.minor; fields = All-take IsField 64 h.fields is.fields }

-- of two fronts of one list, one begins the other
pub fronts : (xs ys a b : List ℕ) → xs ++ a ≡ ys ++ b → ((m : List ℕ) × (ys ≡ xs ++ m)) ⊎ ((m : List ℕ) × (xs ≡ ys ++ m))
fronts [] ys a b e = inl (ys, refl)
fronts (x ∷ xs) [] a b e = inr (x ∷ xs, refl)
fronts (x ∷ xs) (y ∷ ys) a b e =
    let tails : xs ++ a ≡ ys ++ b = cc in
    let heads : x ≡ y = cc in
    elim (fronts xs ys a b tails) [
      | inl p ↦ inl (p.0, let back = sym heads in λ i. back i ∷ p.1 i)
      | inr p ↦ inr (p.0, λ i. heads i ∷ p.1 i)
    ]

few_lines : (bytes : List ℕ) → IsFalse (has_many_lines bytes) → lines bytes ≤ 64
few_lines bytes e = grind (arith, nat_tests, e)

many : (h : RequestHead) → 64 ≤ length h.fields → 65 ≤ lines (front_part h)
many h long = omega (arith, lines-append (start h) (flat_map print_field (take 64 h.fields)), lines_of_start h, lines_of_fields (take 64 h.fields), length-take-le 64 h.fields long)

from_head : (bytes more : List ℕ) (h : RequestHead) → ReadsRequest (bytes ++ more) h [] → IsFalse (has_many_lines bytes) → 64 ≤ length h.fields → MayBecomeHead bytes
from_head bytes more h reads few long =
    let whole = reads.1 ∙ append-nil (print_request h) ∙ print_parts h in
    elim (fronts bytes (front_part h) more _ whole) [
      | inl p ↦ (
        p.0 ++ print_end h.last,
        cut_head h,
        [],
        (cut_is h reads.0, sym (append_assoc bytes p.0 (print_end h.last)) ∙ ap (λ t. t ++ print_end h.last) (sym p.1) ∙ sym (print_cut h) ∙ sym (append-nil (print_request (cut_head h)))),
        (let short = length-take-le 64 h.fields long in omega (arith, short)),
      )
      | inr p ↦ absurd (omega (arith, many h long, few_lines bytes few, ap lines p.1, lines-append (front_part h) p.0))
    ]

by_length : (n : ℕ) → (n ≤ 64) ⊎ (64 ≤ n)
by_length n = elim (nat_le n 64) as (λ b. nat_le n 64 ≡ b → (n ≤ 64) ⊎ (64 ≤ n)) [
  | true ↦ λ e. inl (grind (arith, nat_tests, e))
  | false ↦ λ e. inr (grind (arith, nat_tests, e))
] refl

-- ---- inside the target

pub no_space_in_blank : (ends : List LineEnd) → list_all (λ b. not (b == space)) (print_blank ends) ≡ true
no_space_in_blank [] = refl
no_space_in_blank (crlf ∷ ends) = no_space_in_blank ends
no_space_in_blank (lf ∷ ends) = no_space_in_blank ends

pub weaker : (p q : ℕ → Bool) → ((b : ℕ) → p b ≡ true → q b ≡ true) → (xs : List ℕ) → list_all p xs ≡ true → list_all q xs ≡ true
weaker p q h xs e = list_all-from_AllPass q xs (λ k d lt. h _ (AllPass-from_list_all p xs e k d lt))

pub token_is_no_space : (b : ℕ) → is_token_byte b ≡ true → not (b == space) ≡ true
unfolding is_token_byte
token_is_no_space b e = elim (b == space) as (λ t. b == space ≡ t → not t ≡ true) [ true ↦ λ same. absurd (let at : b ≡ 32 = grind (arith, nat_tests, same) in false≢true (subst (λ (v : ℕ). is_token_byte v ≡ true) at e)) | false ↦ λ other. refl ] refl

is_other : (b k : ℕ) → 32 < b → k < 33 → (b == k) ≡ false
is_other b k h l = elim (b == k) as (λ t. b == k ≡ t → t ≡ false) [ true ↦ λ same. absurd (let at : b ≡ k = grind (arith, nat_tests, same) in omega (arith, at)) | false ↦ λ other. refl ] refl

uri_is_open : (b : ℕ) → is_uri_byte b ≡ true → is_open b ≡ true
uri_is_open b e =
    let test : nat_lt 32 b ≡ true = (and_parts _ _ e).0 in
    let above : 32 < b = grind (arith, nat_tests, test) in
    let space_not = is_other b 32 above (omega arith) in
    let cr_not = is_other b 13 above (omega arith) in
    let lf_not = is_other b 10 above (omega arith) in
    λ i. not ((space_not i) || (cr_not i) || (lf_not i))

-- what follows the space of a target that is still to come
abbrev pub ending : List ℕ
ending = codes "/ HTTP/1.1" ++ 13 ∷ 10 ∷ 13 ∷ 10 ∷ []

abbrev pub small_head : List LineEnd → List ℕ → RequestHead
small_head blank method = record { blank = blank; method = method; target = codes "/"; minor = 1; line_end = crlf; fields = []; last = crlf }

pub small_is : (blank : List LineEnd) (method : List ℕ) → IsToken method → IsRequestHead (small_head blank method)
unfolding encode
small_is blank method token = record { method = token; target = (search rules, AllPass-from_list_all is_uri_byte (codes "/") refl); target_text = (codes "/", (refl, refl)); minor = search rules; fields = All-from_recursion IsField [] tt }

pub small_text : (blank : List LineEnd) (method : List ℕ) → (print_blank blank ++ method) ++ (space ∷ []) ++ ending ≡ print_request (small_head blank method) ++ []
unfolding print_request
small_text blank method = simp (append_assoc, append-nil)

in_target : (bytes : List ℕ) (blank : List LineEnd) (method target : List ℕ) → IsToken method → AllPass is_uri_byte target
    → bytes ≡ print_blank blank ++ method ++ space ∷ target → EndsInTarget bytes
in_target bytes blank method target token uri e = record {
  front = print_blank blank ++ method;
  target = target;
  parts = e;
  one_space = list_all-append (λ b. not (b == space)) (print_blank blank) method
      ∙ and_from _ _ (no_space_in_blank blank) (weaker is_token_byte (λ b. not (b == space)) token_is_no_space method (list_all-from_AllPass is_token_byte method token.1));
  open_end = weaker is_uri_byte is_open uri_is_open target (list_all-from_AllPass is_uri_byte target uri);
  may = (ending, small_head blank method, [], (small_is blank method token, small_text blank method), search rules);
}

-- ---- both

pub waiting : WaitingIsOpen
waiting bytes (inl x) few = elim (by_length (length x.1.fields)) [
  | inl short ↦ inl (x.0, x.1, [], x.2, short)
  | inr long ↦ inl (from_head bytes x.0 x.1 x.2 few long)
]
waiting bytes (inr x) few = inr (in_target bytes x.0 x.1 x.2 x.3 x.4 x.5)
