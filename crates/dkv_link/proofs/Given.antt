-- What a copy of the front of the bytes from a place on adds to those that were given, and takes off those that are to come.
use Rattle.std.proofs.Common.{◌≡◌, sym, ap, ◌∙◌, ℕ, ◌+◌, ◌-◌, List, ◌++◌, length, take, drop}
use Rattle.std.proofs.lemmas.List.{take-append-drop, drop-drop, take_rest}
use Rattle.std.proofs.Math.Seq.{take-add}

-- the bytes from a place on, as a slice says it
of_slice : (place n : ℕ) (bytes seen into : List ℕ) → seen ≡ bytes → take n into ≡ take n (take (length seen - place) (drop place seen))
    → take n into ≡ take n (drop place bytes)
of_slice place n bytes seen into is front = front ∙ ap (λ l. take n l) (take_rest seen place) ∙ ap (λ l. take n (drop place l)) is

-- what it adds
pub given_of_slice : (place n : ℕ) (bytes seen into : List ℕ) → seen ≡ bytes → take n into ≡ take n (take (length seen - place) (drop place seen))
    → take (place + n) bytes ≡ take place bytes ++ take n into
given_of_slice place n bytes seen into is front =
    take-add place n bytes ∙ ap (λ l. take place bytes ++ l) (sym (of_slice place n bytes seen into is front))

-- what it takes off
pub taken_of_slice : (place n : ℕ) (bytes seen into : List ℕ) → seen ≡ bytes → take n into ≡ take n (take (length seen - place) (drop place seen))
    → drop place bytes ≡ take n into ++ drop (place + n) bytes
taken_of_slice place n bytes seen into is front =
    sym (take-append-drop n (drop place bytes))
    ∙ ap (λ l. take n (drop place bytes) ++ l) (drop-drop n place bytes)
    ∙ ap (λ l. l ++ drop (place + n) bytes) (sym (of_slice place n bytes seen into is front))
