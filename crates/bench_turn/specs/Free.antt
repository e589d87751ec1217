-- What clauses say of a pass between two rounds.
use Rattle.std.specs.Prelude.{◌≡◌, ℕ, ◌+◌, length}
use Rattle.dkv_turn.specs.declared.pass.Pass.{Pass}
use Rattle.dkv_turn.specs.declared.turn.Turn.{Turn}
use Rattle.dkv_turn.specs.Passes.{view, loan, gone, left, IsOutside}
use Rattle.dkv_turn.specs.Words.{IsOf}

module _ {V I : Type 0} where
  -- it is of the turn, doesn't have it, and has no loan
  abbrev pub IsFree : Turn V I (Unit {0}) → {c : _} → Pass V I (Unit {0}) c → Type 0
  IsFree t p = IsOf (λ _. tt) t p × IsOutside p × (loan p ≡ 0)

  -- how many numbers it has to give away, or had and took in again
  abbrev pub numbers : {c : _} → Pass V I (Unit {0}) c → ℕ
  numbers p = length (gone p) + left p

  -- as many numbers, and the mark as it was
  abbrev pub KeepsNumbers : {c : _} → Pass V I (Unit {0}) c → Pass V I (Unit {0}) c → Type 0
  KeepsNumbers p q = (numbers q ≡ numbers p) × ((view q).marked ≡ (view p).marked)
