-- Files that aren't open, and what the opening of a gate leaves.
use Rattle.std.proofs.Common.{◌≡◌, ◌⊎◌, inl, inr, refl, sym, ◌∙◌, ap, ℕ, zero, suc, ◌+◌, ◌<◌, ◌≤◌, Bool, true, false, not, ◌&&◌, ◌==◌, nat_le, List, [], ◌∷◌, ◌++◌, length, drop, IsTrue, arith}
use Rattle.std.proofs.lemmas.List.{append-nil}
use Rattle.std.proofs.lemmas.Bool.{eqb-true}
use Rattle.std.proofs.lemmas.Bool.Decides.{nat_tests}
use Rattle.dkv_journal.specs.declared.gates.TheConstants.{OPEN_GATE, CLOSED_GATE}
use Rattle.dkv_journal.specs.Crashes.{with_behind}
use Rattle.dkv_journal.specs.Records.{is_closed_at}
use Rattle.dkv_files.specs.Crashes.{GateLeaves, cleared}
use Rattle.dkv_files.specs.Files.{is_open}

not_long : (n : ℕ) → n < 96 → nat_le 96 n ≡ false
not_long n lt = grind (arith, nat_tests)

and_not : (v : Bool) → (v && false) ≡ false
and_not true = refl
and_not false = refl

-- a file that is too short for a header
pub shut_short : (c : List ℕ) → length c < 96 → is_open c ≡ false
shut_short [] lt = refl
shut_short (g ∷ c) lt = ap (λ (v : Bool). v && (g == OPEN_GATE)) (not_long (length (g ∷ c)) lt)

-- a file with a closed gate
pub shut_closed : (c : List ℕ) → IsTrue (is_closed_at 0 c) → is_open c ≡ false
shut_closed [] closed = refl
shut_closed (g ∷ c) closed = elim (g == OPEN_GATE) as (λ (v : Bool). not v ≡ true → (nat_le 96 (length (g ∷ c)) && v) ≡ false) [
  | true ↦ λ no. absurd (cc no)
  | false ↦ λ _. and_not (nat_le 96 (length (g ∷ c)))
] closed

-- with some byte at its gate a file isn't open, or that byte is the open gate
pub gate_leaves : (bytes c : List ℕ) → GateLeaves (CLOSED_GATE ∷ bytes) c → (is_open c ≡ false) ⊎ (c ≡ OPEN_GATE ∷ bytes)
gate_leaves bytes c (g, is) = elim (g == OPEN_GATE) as (λ (v : Bool). (g == OPEN_GATE) ≡ v → (is_open c ≡ false) ⊎ (c ≡ OPEN_GATE ∷ bytes)) [
  | true ↦ λ opened. inr (is ∙ ap (λ (n : ℕ). n ∷ bytes) (eqb-true g OPEN_GATE opened))
  | false ↦ λ shut. inl (ap is_open is ∙ ap (λ (v : Bool). nat_le 96 (length (g ∷ bytes)) && v) shut ∙ and_not (nat_le 96 (length (g ∷ bytes))))
] refl

drop_none : (n : ℕ) → (let none : List ℕ = [] in drop n none ≡ none)
drop_none zero = refl
drop_none (suc n) = refl

-- what is written behind the gate of a cleared file
pub behind_cleared : (bytes : List ℕ) → with_behind 0 bytes cleared ≡ CLOSED_GATE ∷ bytes
behind_cleared bytes =
    let next : 0 + 1 + length bytes ≡ suc (length bytes) = omega arith in
    ap (λ (n : ℕ). CLOSED_GATE ∷ bytes ++ drop n (0 ∷ [])) next
    ∙ ap (λ (l : List ℕ). CLOSED_GATE ∷ bytes ++ l) (drop_none (length bytes))
    ∙ ap (λ (l : List ℕ). CLOSED_GATE ∷ l) (append-nil bytes)
