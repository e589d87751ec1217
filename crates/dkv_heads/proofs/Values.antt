-- The values of a name, field by field.
use Rattle.std.proofs.Common.{ℕ, ◌≡◌, ◌+◌, ◌-◌, ◌*◌, ◌<◌, ◌≤◌, take, refl, sym, ap, ◌∙◌, Bool, true, false, List, [], ◌∷◌, length, drop, map, get_or, arith, inl, inr, Some, None, add-one, drop-cons, codes}
use Rattle.std.specs.Prelude.{if◌then◌else◌, ◌==◌, ◌&&◌, nat_le, slice_get}
use Rattle.std.specs.List.{list_all}
use Rattle.std.specs.Str.{str_eq_ignore_ascii_case}
use Rattle.std.proofs.lemmas.Bool.{cases_Bool, and_parts, eqb-false}
use Rattle.httparse.specs.Spans.{header_bytes}
use Rattle.httparse.specs.declared.spans.HeaderSpan.{HeaderSpan}
use Rattle.std.specs.Str.Parse.{digits_value}
use Rattle.std.specs.Char.{is_ascii_digit, digit_value}
use Rattle.std.proofs.lemmas.List.Sums.{AllPass-from_list_all}
use Rattle.std.proofs.lemmas.Int.Digits.{digits_value_more}
use Rattle.std.proofs.lemmas.Str.{digit_value_digit}
use Rattle.std.proofs.lemmas.Bool.Decides.{nat_tests}
use Rattle.dkv_heads.specs.Bodies.{agrees}
use Rattle.dkv_heads.specs.Heads.{values, is_named, is_number, framing_by, sized, chunked, unclear}

pub same_bool : (x y : Bool) → (x ≡ true → y ≡ true) → (y ≡ true → x ≡ true) → x ≡ y
same_bool true y f g = sym (f refl)
same_bool false true f g = g refl
same_bool false false f g = refl

abbrev pub fields_from : List ℕ → List HeaderSpan → ℕ → List (List ℕ × List ℕ)
fields_from head headers i = map (header_bytes head) (drop i headers)

pub next_field : (head : List ℕ) (headers : List HeaderSpan) (i : ℕ) (d : HeaderSpan) → i < length headers → fields_from head headers i ≡ header_bytes head (get_or headers i d) ∷ fields_from head headers (i + 1)
next_field head headers i d less = ap (map (header_bytes head)) (drop-cons headers i d less) ∙ ap (λ n. header_bytes head (get_or headers i d) ∷ map (header_bytes head) (drop n headers)) (sym (add-one i))

pub named_yes : (name : List ℕ) (f : List ℕ × List ℕ) (fs : List (List ℕ × List ℕ)) → is_named name f ≡ true → values name (f ∷ fs) ≡ f.1 ∷ values name fs
named_yes name f fs e = rw e refl

pub named_no : (name : List ℕ) (f : List ℕ × List ℕ) (fs : List (List ℕ × List ℕ)) → is_named name f ≡ false → values name (f ∷ fs) ≡ values name fs
named_no name f fs e = rw e refl

-- ---- the framing

some_same : (w v : List ℕ) → Some w ≡ Some v → w ≡ v
some_same w v e = cc

no_number : (v : List ℕ) (cl : List (List ℕ)) → slice_get cl 0 ≡ Some v → is_number v ≡ false → framing_by [] cl ≡ unclear
no_number v [] e f = absurd (let x : None ≡ Some v = e in cc)
no_number v (w ∷ os) e f = let same : w ≡ v = some_same w v e in rw same (rw f refl)

same_self : (n : ℕ) → (n == n) ≡ true
same_self n = elim (cases_Bool (n == n)) [ inl t ↦ t | inr f ↦ absurd (eqb-false n n f refl) ]

pub framed_unclear : (v : List ℕ) (cl : List (List ℕ)) → slice_get cl 0 ≡ Some v → is_number v ≡ false → framing_by [] cl ≡ unclear
framed_unclear = no_number

pub framed_apart : (v : List ℕ) (cl : List (List ℕ)) → slice_get cl 0 ≡ Some v → is_number v ≡ true → list_all (agrees v) cl ≡ false → framing_by [] cl ≡ unclear
framed_apart v [] e f g = absurd (let x : None ≡ Some v = e in cc)
framed_apart v (w ∷ os) e f g =
    let same : w ≡ v = some_same w v e in
    let self : agrees v w ≡ true = rw same (rw f (same_self (digits_value 10 v))) in
    let rest : list_all (agrees v) os ≡ false = sym (ap (λ b. b && list_all (agrees v) os) self) ∙ g in
    rw same (rw f (rw rest refl))

pub framed_sized : (v : List ℕ) (cl : List (List ℕ)) → slice_get cl 0 ≡ Some v → is_number v ≡ true → list_all (agrees v) cl ≡ true → framing_by [] cl ≡ sized (digits_value 10 v)
framed_sized v [] e f g = absurd (let x : None ≡ Some v = e in cc)
framed_sized v (w ∷ os) e f g =
    let same : w ≡ v = some_same w v e in
    let rest : list_all (agrees v) os ≡ true = (and_parts _ _ g).1 in
    rw same (rw f (rw rest refl))

pub framed_both : (te cl : List (List ℕ)) (v : List ℕ) → ¬ (length te ≡ 0) → slice_get cl 0 ≡ Some v → framing_by te cl ≡ unclear
framed_both [] cl v some e = absurd (some refl)
framed_both (c ∷ te) [] v some e = absurd (let x : None ≡ Some v = e in cc)
framed_both (c ∷ []) (w ∷ os) v some e = refl
framed_both (c ∷ d ∷ te) (w ∷ os) v some e = refl

pub framed_none : (te cl : List (List ℕ)) → slice_get te 0 ≡ None → slice_get cl 0 ≡ None → framing_by te cl ≡ sized 0
framed_none [] [] e f = refl
framed_none (c ∷ te) cl e f = absurd (let x : Some c ≡ None = e in cc)
framed_none [] (w ∷ os) e f = absurd (let x : Some w ≡ None = f in cc)

pub framed_many : (te cl : List (List ℕ)) (c : List ℕ) → ¬ (length te ≡ 1) → slice_get te 0 ≡ Some c → framing_by te cl ≡ unclear
framed_many [] cl c more e = absurd (let x : None ≡ Some c = e in cc)
framed_many (d ∷ []) cl c more e = absurd (more refl)
framed_many (d ∷ f ∷ te) [] c more e = refl
framed_many (d ∷ f ∷ te) (w ∷ os) c more e = refl

framed_if : (b : Bool) (te cl : List (List ℕ)) (c : List ℕ) → str_eq_ignore_ascii_case c (codes "chunked") ≡ b → length te ≡ 1 → slice_get te 0 ≡ Some c → slice_get cl 0 ≡ None → framing_by te cl ≡ (if b then chunked else unclear)
framed_if b te (w ∷ os) c e n f g = absurd (let x : Some w ≡ None = g in cc)
framed_if b [] [] c e n f g = absurd (let x : None ≡ Some c = f in cc)
framed_if b (d ∷ []) [] c e n f g = let same : d ≡ c = some_same d c f in rw same (rw e refl)
framed_if b (d ∷ k ∷ te) [] c e n f g = absurd (omega (arith, n))

pub framed_chunked : (te cl : List (List ℕ)) (c : List ℕ) → str_eq_ignore_ascii_case c (codes "chunked") ≡ true → length te ≡ 1 → slice_get te 0 ≡ Some c → slice_get cl 0 ≡ None → framing_by te cl ≡ chunked
framed_chunked = framed_if true

pub framed_other : (te cl : List (List ℕ)) (c : List ℕ) → str_eq_ignore_ascii_case c (codes "chunked") ≡ false → length te ≡ 1 → slice_get te 0 ≡ Some c → slice_get cl 0 ≡ None → framing_by te cl ≡ unclear
framed_other = framed_if false

-- ---- the number that digits write

pub one_digit : (bs : List ℕ) (i n : ℕ) → i < length bs → is_ascii_digit (get_or bs i 0) ≡ true → digits_value 10 (take i bs) ≡ n → digits_value 10 (take (i + 1) bs) ≡ n * 10 + (get_or bs i 0 - 48)
one_digit bs i n less digit e =
    let both = and_parts (nat_le 48 (get_or bs i 0)) (nat_le (get_or bs i 0) 57) digit in
    let at_least = both.0 in
    let at_most = both.1 in
    let low : 48 ≤ get_or bs i 0 = grind (arith, nat_tests, at_least) in
    let high : get_or bs i 0 ≤ 57 = grind (arith, nat_tests, at_most) in
    let d : digit_value (get_or bs i 0) + 48 ≡ get_or bs i 0 = digit_value_digit (get_or bs i 0) (low, high) in
    omega (arith, digits_value_more 10 bs i less, e, d, low)

pub digit_high : (b : ℕ) → is_ascii_digit b ≡ true → b - 48 ≤ 9
digit_high b digit = let at_most = (and_parts (nat_le 48 b) (nat_le b 57) digit).1 in let high : b ≤ 57 = grind (arith, nat_tests, at_most) in omega (arith, high)

pub digit_at : (bs : List ℕ) (i : ℕ) → is_number bs ≡ true → i < length bs → is_ascii_digit (get_or bs i 0) ≡ true
digit_at bs i e less = AllPass-from_list_all is_ascii_digit bs (and_parts _ _ e).1 i 0 less

pub one_more : (bs : List ℕ) (i limit : ℕ) → i < length bs → limit < digits_value 10 (take i bs) → limit < digits_value 10 (take (i + 1) bs)
one_more bs i limit less e = omega (arith, digits_value_more 10 bs i less, e)
