-- Pieces of bytes, one behind the other.
use Rattle.std.proofs.Common.{◌≡◌, ◌∙◌, ℕ, suc, ◌<◌, List, ◌++◌, length, take, drop, get_or, append_assoc, sym, ap, subst, Option}
use Rattle.std.specs.List.{flat_map}
use Rattle.std.specs.Io.KnownBytes.{Appends}
use Rattle.std.proofs.Math.Seq.{drop-cons}
use Rattle.std.proofs.lemmas.List.{take-append-drop}
use Rattle.std.proofs.lemmas.List.Concat.{flat_map-cons}
use Rattle.std.proofs.lemmas.Grind.{flat_map-append}
use Rattle.dkv_io.specs.Streams.{AppendsFront}
use Rattle.dkv_io.proofs.Written.{appends_front_then, appends_front_more}

-- all pieces: those before a place, the one there, and those behind it
at_place : {X : Type 0} (f : X → List ℕ) (pieces : List X) (i : ℕ) (d : X) → i < length pieces
    → flat_map f pieces ≡ (flat_map f (take i pieces) ++ f (get_or pieces i d)) ++ flat_map f (drop (suc i) pieces)
at_place f pieces i d there =
    let before = flat_map f (take i pieces) in
    let whole = ap (λ l. flat_map f l) (sym (take-append-drop i pieces)) in
    let parted = flat_map-append f (take i pieces) (drop i pieces) in
    let here = ap (λ l. before ++ flat_map f l) (drop-cons pieces i d there) in
    let first = ap (λ (l : List ℕ). before ++ l) (flat_map-cons f (get_or pieces i d) (drop (suc i) pieces)) in
    whole ∙ parted ∙ here ∙ first ∙ sym (append_assoc before (f (get_or pieces i d)) (flat_map f (drop (suc i) pieces)))

-- whole pieces, and then a front of the next
pub front_of_pieces : {X : Type 0} (f : X → List ℕ) (pieces : List X) (i : ℕ) (d : X) → i < length pieces → (a b c : Option (List ℕ))
    → Appends a b (flat_map f (take i pieces)) → AppendsFront b c (f (get_or pieces i d)) → AppendsFront a c (flat_map f pieces)
front_of_pieces f pieces i d there a b c before front =
    let rest = flat_map f (drop (suc i) pieces) in
    let two = flat_map f (take i pieces) ++ f (get_or pieces i d) in
    subst (λ (l : List ℕ). AppendsFront a c l) (sym (at_place f pieces i d there))
    (appends_front_more a c two rest (appends_front_then a b c (flat_map f (take i pieces)) (f (get_or pieces i d)) before front))
