-- Histories: lists of items, each of which carries the number of the pass that added it.
use Rattle.std.specs.Prelude.{◌≡◌, ℕ, ◌<◌, ◌⊎◌, ◌==◌, drop, filter, List, [], ◌∷◌, ◌++◌, length}
use mathlib.Core.Option.{some}
use lib.ListN.{get_elem?}

module _ {I : Type 0} where
  -- the items that carry the number
  abbrev pub mine : (I → ℕ) → ℕ → List I → List I
  mine carries who items = filter (λ x. carries x == who) items

  -- no item past those seen carries the number
  abbrev pub NoneSince : (I → ℕ) → ℕ → List I → List I → Type 0
  NoneSince carries who seen log = (i : ℕ) (x : I) → get_elem? log i ≡ some x → carries x ≡ who → i < length seen

  -- the longer of two beginnings of one list
  abbrev pub longer : List I → List I → List I
  longer xs ys = xs ++ drop (length xs) ys

  -- the items stay, or one more comes last, which carries the number
  abbrev pub AddsOwn : (I → ℕ) → ℕ → List I → List I → Type 0
  AddsOwn carries who old new = (new ≡ old) ⊎ ((x : I) × (new ≡ old ++ x ∷ []) × (carries x ≡ who))
