-- One item of a row, from a window that holds enough of the file.
use Rattle.std.proofs.Common.{◌≡◌, refl, sym, ◌∙◌, ap, subst, ℕ, suc, ◌+◌, ◌-◌, ◌^◌, ◌<◌, ◌≤◌, Bool, true, false, List, [], ◌∷◌, ◌++◌, length, take, drop, Option, Some, None, Result, Ok, Err, arith, append_assoc, length-append}
use Rattle.std.specs.Prelude.{if◌then◌else◌, slice_get}
use Rattle.std.proofs.lemmas.List.{append-nil}
use Rattle.dkv_image.specs.Image.{standing, row_at, ◌>>◌}
use Rattle.dkv_image_io.specs.Reading.{Sight, behind, rest_in, end_in, IsFront, StandsNot, last_of}

stands_if : {X : Type 0} (test : X → Bool) (bytes : List ℕ) (y : X × List ℕ) → test y.0 ≡ true → standing test bytes (Some y) ≡ Ok y
stands_if test bytes y is i = if is i then Ok y else Err (length bytes)

falls_if : {X : Type 0} (test : X → Bool) (bytes : List ℕ) (y : X × List ℕ) → test y.0 ≡ false → standing test bytes (Some y) ≡ Err (length bytes)
falls_if test bytes y is i = if is i then Ok y else Err (length bytes)

-- an item that passes is taken
pub front_taken : {X : Type 0} (test : X → Bool) (bytes new : List ℕ) (x : X) (front : Option (X × List ℕ)) → front ≡ Some (x, new) → test x ≡ true → IsFront (standing test bytes front) bytes new (Some x)
front_taken test bytes new x front is passes = ap (standing test bytes) is ∙ stands_if test bytes (x, new) passes

-- one that doesn't is left
pub front_left : {X : Type 0} (test : X → Bool) (bytes : List ℕ) (front : Option (X × List ℕ)) → StandsNot test front → standing test bytes front ≡ Err (length bytes)
front_left test bytes None not = refl
front_left test bytes (Some y) not = falls_if test bytes y not

-- ---- rows

-- a row behind items that were read
abbrev pub prepended : {X : Type 0} → List X → Result (List X × List ℕ) ℕ → Result (List X × List ℕ) ℕ
prepended xs row = row >> λ others. Ok (xs ++ others.0, others.1)

got_last : {X : Type 0} (xs : List X) (x : X) → slice_get (xs ++ x ∷ []) (length xs) ≡ Some x
got_last [] x = refl
got_last (y ∷ xs) x = got_last xs x

pub last_added : {X : Type 0} (xs : List X) (x : X) → last_of (xs ++ x ∷ []) ≡ Some x
last_added xs x = let place : length (xs ++ x ∷ []) - 1 ≡ length xs = omega (arith, length-append xs (x ∷ [])) in ap (slice_get (xs ++ x ∷ [])) place ∙ got_last xs x

prepended_on : {X : Type 0} (xs : List X) (x : X) (row : Result (List X × List ℕ) ℕ) → prepended xs (row >> λ others. Ok (x ∷ others.0, others.1)) ≡ prepended (xs ++ x ∷ []) row
prepended_on xs x (Err left) = refl
prepended_on {X = X} xs x (Ok others) = ap (λ (l : List X). (let r : Result (List X × List ℕ) ℕ = Ok (l, others.1) in r)) (sym (append_assoc xs (x ∷ []) others.0))

module _ {X : Type 0} (one : List ℕ → Option (X × List ℕ)) (test : Option X → X → Bool) where
  -- one item more
  pub row_on : (xs : List X) (x : X) (before : Option X) (left k : ℕ) (bytes rest : List ℕ) → left ≡ suc k → standing (test before) bytes (one bytes) ≡ Ok (x, rest)
      → prepended xs (row_at one test before left bytes) ≡ prepended (xs ++ x ∷ []) (row_at one test (last_of (xs ++ x ∷ [])) k rest)
  row_on xs x before left k bytes rest is stands =
      ap (λ (m : ℕ). prepended xs (row_at one test before m bytes)) is
      ∙ ap (λ (r : Result (X × List ℕ) ℕ). prepended xs (r >> λ y. row_at one test (Some y.0) k y.1 >> λ others. Ok (y.0 ∷ others.0, others.1))) stands
      ∙ prepended_on xs x (row_at one test (Some x) k rest)
      ∙ ap (λ (o : Option X). prepended (xs ++ x ∷ []) (row_at one test o k rest)) (sym (last_added xs x))

  -- no item more
  pub row_falls : (xs : List X) (before : Option X) (left k fault : ℕ) (bytes : List ℕ) → left ≡ suc k → standing (test before) bytes (one bytes) ≡ Err fault
      → prepended xs (row_at one test before left bytes) ≡ Err fault
  row_falls xs before left k fault bytes is falls =
      ap (λ (m : ℕ). prepended xs (row_at one test before m bytes)) is
      ∙ ap (λ (r : Result (X × List ℕ) ℕ). prepended xs (r >> λ y. row_at one test (Some y.0) k y.1 >> λ others. Ok (y.0 ∷ others.0, others.1))) falls

  -- the row is through
  pub row_ended : (xs : List X) (before : Option X) (bytes : List ℕ) → prepended xs (row_at one test before 0 bytes) ≡ Ok (xs, bytes)
  row_ended xs before bytes = ap (λ (l : List X). (let r : Result (List X × List ℕ) ℕ = Ok (l, bytes) in r)) (append-nil xs)

  -- nothing was read yet
  pub row_begins : (row : Result (List X × List ℕ) ℕ) → row ≡ prepended [] row
  row_begins (Ok x) = refl
  row_begins (Err left) = refl

-- ---- windows

-- an item at the front of a window is at the front of all that isn't read yet
pub item_on : {X : Type 0} (front : List ℕ → Option (X × List ℕ)) (test : X → Bool) (file : List ℕ) (old filled new : Sight) (found : Option X)
    → rest_in file filled ≡ rest_in file old → filled.place ≡ old.place → new.left ≡ filled.left → length new.held ≤ length filled.held
    → (filled.place + (length filled.held - length new.held) < 2 ^ 64 → new.place ≡ filled.place + (length filled.held - length new.held)) → end_in file old < 2 ^ 64
    → IsFront (standing test (rest_in file filled) (front (rest_in file filled))) (rest_in file filled) (new.held ++ behind file filled) found
    → IsFront (standing test (rest_in file old) (front (rest_in file old))) (rest_in file old) (rest_in file new) found
item_on front test file old filled new found same place left fewer exact few is =
    let here = length-append filled.held (behind file filled) in
    let all = ap length same in
    let p : new.place ≡ filled.place + (length filled.held - length new.held) = exact (omega (arith, few, here, all, place)) in
    let next : new.place + length new.held ≡ filled.place + length filled.held = omega (arith, p, fewer) in
    let last : new.held ++ behind file filled ≡ rest_in file new = λ i. new.held ++ take (sym left i) (drop (sym next i) file) in
    subst (λ (l : List ℕ × List ℕ). IsFront (standing test l.0 (front l.0)) l.0 l.1 found) (λ i. (same i, last i)) is
