-- A turn by one, again and again.
use Rattle.std.proofs.Common.{◌≡◌, ℕ, suc, ◌≤◌, ◌<◌, ◌+◌, ◌-◌, List, [], ◌∷◌, ◌++◌, length, take, drop, get_or, sym, ap, ◌∙◌, arith, append_assoc}
use Rattle.std.proofs.Math.Seq.{take-suc, drop-cons, take-append_seam, drop-append_seam}
use Rattle.std.proofs.lemmas.List.{length-append}
use Rattle.dkv_wire.specs.Rooms.{turned}

-- the last goes before the others
last_first : (front : List ℕ) (b : ℕ) (x r : List ℕ) → x ≡ front ++ (b ∷ []) → r ≡ drop (length x - 1) x ++ take (length x - 1) x → r ≡ b ∷ front
last_first front b x r is turn =
    let one : List ℕ = b ∷ [] in
    let len : length x - 1 ≡ length front = omega (arith, ap length is, length-append front one) in
    turn
    ∙ ap (λ (n : ℕ). drop n x ++ take n x) len
    ∙ ap (λ (l : List ℕ). drop (length front) l ++ take (length front) l) is
    ∙ ap (λ (l : List ℕ). l ++ take (length front) (front ++ one)) (drop-append_seam front one)
    ∙ ap (λ (l : List ℕ). one ++ l) (take-append_seam front one)

-- all of them, from the first on
turned_all : (e : ℕ) (bytes : List ℕ) → turned 0 e bytes ≡ drop e bytes ++ take e bytes
turned_all e bytes = let less : e - 0 ≡ e = omega arith in ap (λ (n : ℕ). drop e bytes ++ take n bytes) less

-- one more of them was turned
pub turned_one_more : (bytes x r : List ℕ) (m e : ℕ) → e ≡ suc m → e ≤ length bytes → x ≡ turned 0 e bytes → r ≡ drop (length x - 1) x ++ take (length x - 1) x → r ≡ turned 0 m bytes
turned_one_more bytes x r m e next within is turn =
    let lt : m < length bytes = omega (arith, next, within) in
    let b = get_or bytes m 0 in
    let split : x ≡ (drop (suc m) bytes ++ take m bytes) ++ (b ∷ []) =
    is
    ∙ turned_all e bytes
    ∙ ap (λ (n : ℕ). drop n bytes ++ take n bytes) next
    ∙ ap (λ (l : List ℕ). drop (suc m) bytes ++ l) (take-suc bytes m 0 lt)
    ∙ sym (append_assoc (drop (suc m) bytes) (take m bytes) (b ∷ [])) in
    last_first (drop (suc m) bytes ++ take m bytes) b x r split turn
    ∙ ap (λ (l : List ℕ). l ++ take m bytes) (sym (drop-cons bytes m 0 lt))
    ∙ sym (turned_all m bytes)
