-- Fronts that are read piece by piece.
use Rattle.std.proofs.Common.{◌≡◌, ℕ, ◌+◌, ◌≤◌, List, ◌++◌, length, take, drop, Option, None, Some, sym, ap, ◌∙◌, subst, arith, drop-drop}
use Rattle.std.proofs.Math.Seq.{take-add, take-append-add}
use Rattle.std.proofs.lemmas.List.{length-take-le, take-append-le}
use Rattle.std.proofs.lemmas.Slice.{take-put_mid_below}
use borrow.Rule.Slice.PartMut.{put_mid}
use Rattle.dkv_net.specs.Places.{IsFront}

-- what was read before, and then the front of what was read now
both_pieces : (xs ys : List ℕ) (n k m : ℕ) → n ≤ length xs → m ≤ length ys → take (n + m) (put_mid n k xs ys) ≡ take n xs ++ take m ys
both_pieces xs ys n k m within piece =
    let size : length (take n xs) ≡ n = length-take-le n xs within in
    let behind : List ℕ = ys ++ drop k (drop n xs) in
    subst (λ (i : ℕ). take (i + m) (take n xs ++ behind) ≡ take n xs ++ take m ys) size
    (take-append-add (take n xs) behind m ∙ ap (λ (l : List ℕ). take n xs ++ l) (take-append-le m ys (drop k (drop n xs)) piece))

-- a front, and then a front of what stands behind it, is a front
pub read_more : (content : Option (List ℕ)) (at n k m : ℕ) (into ys : List ℕ) → n ≤ length into → m ≤ length ys → IsFront content at into n → IsFront content (at + n) ys m
    → IsFront content at (put_mid n k into ys) (n + m)
read_more None at n k m into ys within piece before now = tt
read_more (Some xs) at n k m into ys within piece before now =
    let there : take m (drop (at + n) xs) ≡ take m (drop n (drop at xs)) = ap (λ (l : List ℕ). take m l) (sym (drop-drop n at xs)) in
    (omega arith, both_pieces into ys n k m within piece ∙ cc (before.1, now.1, there) ∙ sym (take-add n m (drop at xs)))

-- whatever is read behind a front leaves it
pub read_kept : (content : Option (List ℕ)) (at n k : ℕ) (into ys : List ℕ) → n ≤ length into → IsFront content at into n → IsFront content at (put_mid n k into ys) n
read_kept None at n k into ys within before = tt
read_kept (Some xs) at n k into ys within before = (before.0, take-put_mid_below n k into ys n (omega arith) within ∙ before.1)
