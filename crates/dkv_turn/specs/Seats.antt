-- What the clauses of private calls say of a seat.
use Rattle.std.specs.Prelude.{◌≡◌, ◌≢◌, ℕ, ◌%◌, false, [], ◌∷◌, Option, Some, None}
use Rattle.atomic_table.specs.declared.shared.Seat.{Seat}
use Rattle.dkv_turn.specs.declared.view.Stage.TheVariants.{Idle, Waiting, Holding}
use Rattle.dkv_turn.specs.declared.view.View.{View}
use Rattle.dkv_turn.specs.Rule.{ticket_cycle}

-- the loan of a pass after its turn: the value's, where the value's was its own, and else as it was
abbrev pub FollowsLoan : ℕ → ℕ → ℕ → ℕ → Type 0
FollowsLoan old before now new = (before ≡ old → new ≡ now) × (before ≢ old → new ≡ old)

module _ {I G V : Type 0} where
  -- it is there, and neither waits nor has the turn
  abbrev pub IsIdle : Seat (Option V) (View I G) → Type 0
  IsIdle s = (s.me.0.spent ≡ false) × (s.me.0.stage ≡ Idle) × (s.me.1 ≡ [])

  -- it waits with a ticket of this number
  abbrev pub WaitsFor : Seat (Option V) (View I G) → ℕ → Type 0
  WaitsFor s number = (k : ℕ) × (number ≡ k % ticket_cycle) × (s.me.0.spent ≡ false) × (s.me.0.stage ≡ Waiting k) × (s.me.1 ≡ [])

  -- it has the turn, whose value is out, has seen the whole history, and has noted the loan
  abbrev pub HoldsTurn : Seat (Option V) (View I G) → ℕ → Type 0
  HoldsTurn s lent = (k : ℕ) × (s.me.0.spent ≡ false) × (s.me.0.stage ≡ Holding k s.me.0.seen lent (Some lent)) × (s.me.1 ≡ (0, None) ∷ [])

  -- all but the stage and the loan stay
  pub record KeepsSeat (s t : Seat (Option V) (View I G)) : Type 0 where
    pub turn : t.table_id ≡ s.table_id
    pub seen : t.me.0.seen ≡ s.me.0.seen
    pub who : t.me.0.who ≡ s.me.0.who
    pub at : t.me.0.at ≡ s.me.0.at
    pub handed : t.me.0.handed ≡ s.me.0.handed
    pub gone : t.me.0.gone ≡ s.me.0.gone
    pub left : t.me.0.left ≡ s.me.0.left
    pub marked : t.me.0.marked ≡ s.me.0.marked
    pub grounds : t.me.0.grounds ≡ s.me.0.grounds
