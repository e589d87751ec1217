-- The views of a pass at rest: one, or none where it only stands in for a pass.
use Rattle.std.specs.Prelude.{◌≡◌, false, List, [], ◌∷◌}
use Rattle.dkv_turn.specs.declared.view.Stage.TheVariants.{Idle}
use Rattle.dkv_turn.specs.declared.view.View.{View}
use Rattle.dkv_turn.specs.Views.{spent_view}

module _ {I G : Type 0} where
  -- the view that rests, or that of a spent pass where there is none
  abbrev pub shown : List (View I G) → View I G
  shown [] = spent_view
  shown (v ∷ vs) = v

  -- there is one view, which doesn't have the turn
  abbrev pub RestsThere : List (View I G) → Type 0
  RestsThere vs = (vs ≡ shown vs ∷ []) × ((shown vs).spent ≡ false) × ((shown vs).stage ≡ Idle)
