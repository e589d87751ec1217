-- What a pass counts at run time of what it knows.
use Rattle.std.specs.Prelude.{◌≡◌, ◌≤◌, length}
use Rattle.dkv_base.specs.declared.moments.TheConstants.{MAX_MOMENT}
use Rattle.dkv_turn.specs.declared.counts.Counts.{Counts}
use Rattle.dkv_turn.specs.declared.view.View.{View}

module _ {I G : Type 0} where
  -- how many items it has seen, its number, and how many numbers it has to give away
  abbrev pub IsCountOf : Counts → View I G → Type 0
  IsCountOf c v = (c.seen ≡ length v.seen) × (c.who ≡ v.who) × (c.left ≡ v.left)

  -- neither moment is above the last one
  abbrev pub IsTimed : Counts → View I G → Type 0
  IsTimed c v = (v.at ≤ MAX_MOMENT) × (c.asked ≤ MAX_MOMENT)
