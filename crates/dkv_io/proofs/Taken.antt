-- What is taken off the front of bytes, and what is left behind it.
use Rattle.std.proofs.Common.{◌≡◌, sym, ap, ◌∙◌, ℕ, ◌+◌, ◌-◌, List, ◌++◌, length, take, drop}
use Rattle.std.proofs.lemmas.List.{take-append-drop, drop-drop, take_rest}

-- a copy of the front of the bytes from a place on is what the place passes
pub taken : (place n : ℕ) (bytes into : List ℕ) → take n into ≡ take n (drop place bytes) → drop place bytes ≡ take n into ++ drop (place + n) bytes
taken place n bytes into front =
    sym (take-append-drop n (drop place bytes))
    ∙ ap (λ l. take n (drop place bytes) ++ l) (drop-drop n place bytes)
    ∙ ap (λ l. l ++ drop (place + n) bytes) (sym front)

-- the same, as a slice says it
pub taken_of_slice : (place n : ℕ) (bytes seen into : List ℕ) → seen ≡ bytes → take n into ≡ take n (take (length seen - place) (drop place seen))
    → drop place bytes ≡ take n into ++ drop (place + n) bytes
taken_of_slice place n bytes seen into is front =
    taken place n bytes into (front ∙ ap (λ l. take n l) (take_rest seen place) ∙ ap (λ l. take n (drop place l)) is)
