-- What clauses say of a turn, of a value that is held and of a pass at rest.
use Rattle.std.specs.Prelude.{◌≡◌, ℕ, [], Some}
use Rattle.atomic_table.specs.Seated.{TableId}
use Rattle.dkv_turn.specs.declared.view.View.{View}
use Rattle.dkv_turn.specs.declared.pass.Pass.{Pass}
use Rattle.dkv_turn.specs.declared.turn.Turn.{Turn}
use Rattle.dkv_turn.specs.declared.turn.Held.{Held}
use Rattle.dkv_turn.specs.declared.rest.Rest.{Rest}
use Rattle.dkv_turn.specs.Rests.{shown, RestsThere}
use Rattle.dkv_turn.specs.Passes.{pass_turn, grounds}

module _ {V I G : Type 0} where
  -- which turn it is
  abbrev pub turn_id : Turn V I G → TableId
  turn_id t = t.table.shared.table_id

  -- the value that it was made with
  abbrev pub made_with : Turn V I G → V
  made_with t = t.table.shared.key.value

  -- the value is that of this turn
  abbrev pub IsHeldOf : Turn V I G → Held V I G → Type 0
  IsHeldOf t h = h.of.value.table_id ≡ turn_id t

module _ {V I G : Type 0} (ground_in : V → G) where
  -- what stays of the value while the turn has it
  abbrev pub ground_of : Turn V I G → G
  ground_of t = ground_in (made_with t)

  -- the pass is of this turn, and has its ground
  abbrev pub IsOf : Turn V I G → {c : _} → Pass V I G c → Type 0
  IsOf t p = (pass_turn p ≡ turn_id t) × (grounds p ≡ Some (ground_of t))

module _ {I G : Type 0} where
  -- all that a pass at rest knows
  abbrev pub view_of : Rest I G → View I G
  view_of p = shown p.badge.views

  -- the turn that it is of
  abbrev pub turn_of : Rest I G → TableId
  turn_of p = p.badge.table_id

  -- the greatest moment that its caller handed in
  abbrev pub asked_of : Rest I G → ℕ
  asked_of p = p.counts.asked

  -- it only stands in for a pass
  abbrev pub IsBlank : Rest I G → Type 0
  IsBlank p = p.badge.views ≡ []

  -- it is there, and doesn't have the turn
  abbrev pub IsThere : Rest I G → Type 0
  IsThere p = RestsThere p.badge.views
