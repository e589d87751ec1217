-- Views: what a pass knows, as plain data, and what becomes of one.
use Rattle.std.specs.Prelude.{ℕ, ◌-◌, ◌||◌, max, true, false, cond, List, [], ◌∷◌, ◌++◌, Option, Some, None}
use Rattle.dkv_turn.specs.Histories.{longer}
use Rattle.dkv_turn.specs.declared.view.Stage.{Stage}
use Rattle.dkv_turn.specs.declared.view.Stage.TheVariants.{Idle, Waiting, Holding}
use Rattle.dkv_turn.specs.declared.view.Gone.{Gone}
use Rattle.dkv_turn.specs.declared.view.View.{View}

-- how many passes a turn has at most, the first one among them: 2 ^ 32
abbrev pub most_passes : ℕ
most_passes = 4294967296

module _ {I : Type 0} where
  -- a pass that was joined: its number, and what it had seen
  abbrev pub gone_of : ℕ → List I → Gone I
  gone_of n xs = record { who = n; seen = xs }

  -- it has the turn
  abbrev pub IsHolding : Stage I → Type 0
  IsHolding Idle = ⊥
  IsHolding (Waiting k) = ⊥
  IsHolding (Holding k xs l n) = Unit {0}

  -- the ticket number
  abbrev pub number_of : Stage I → ℕ
  number_of Idle = 0
  number_of (Waiting k) = k
  number_of (Holding k xs l n) = k

  -- the history of the value that it holds
  abbrev pub log_of : Stage I → List I
  log_of Idle = []
  log_of (Waiting k) = []
  log_of (Holding k xs l n) = xs

  -- the loan of the value that it holds
  abbrev pub loan_of : Stage I → ℕ
  loan_of Idle = 0
  loan_of (Waiting k) = 0
  loan_of (Holding k xs l n) = l

  -- the number that it noted from the word loan
  abbrev pub noted_of : Stage I → Option ℕ
  noted_of Idle = None
  noted_of (Waiting k) = None
  noted_of (Holding k xs l n) = n

module _ {I G : Type 0} where
  -- a view that knows nothing any more, since its pass was joined into another
  abbrev pub spent_view : View I G
  spent_view = record { spent = true; stage = Idle; seen = []; within = []; who = 0; at = 0; handed = 0; loan = 0; gone = []; left = 0; marked = false; grounds = None }

  -- the view of the first pass, which has all other numbers to give away
  abbrev pub first_view : G → View I G
  first_view g = record { spent = false; stage = Idle; seen = []; within = []; who = 0; at = 0; handed = 0; loan = 0; gone = []; left = 4294967295; marked = true; grounds = Some g }

  -- its number, and those of the passes that were joined into it, each with a history that has all its items
  abbrev pub shares : View I G → List (Gone I)
  shares v = cond v.spent [] (gone_of v.who v.within ∷ v.gone)

  -- at another stage
  abbrev pub with_stage : View I G → Stage I → View I G
  with_stage v t = record v { stage = t }

  -- having seen this history
  abbrev pub with_seen : View I G → List I → View I G
  with_seen v xs = record v { seen = xs }

  -- having been given this moment
  abbrev pub with_moment : View I G → ℕ → View I G
  with_moment v t = record v { at = t }

  -- having handed in this moment
  abbrev pub with_handed : View I G → ℕ → View I G
  with_handed v t = record v { handed = max v.handed t }

  -- after a split: one number fewer to give away
  abbrev pub giver_view : View I G → View I G
  giver_view v = record v { left = v.left - 1 }

  -- the pass that was split off: the next number, what the giver had seen, its moment and its ground
  abbrev pub given_view : View I G → View I G
  given_view v = record { spent = false; stage = Idle; seen = v.seen; within = []; who = 4294967296 - v.left; at = v.at; handed = 0; loan = 0; gone = []; left = 0; marked = false; grounds = v.grounds }

  -- the second is joined into the first
  abbrev pub joined_view : View I G → View I G → View I G
  joined_view v w = record v { seen = longer v.seen w.seen; at = max v.at w.at; handed = max v.handed w.handed; gone = (v.gone ++ w.gone) ++ gone_of w.who w.seen ∷ []; left = max v.left w.left; marked = v.marked || w.marked }

  -- it got the turn, over this history and this loan, and has noted nothing
  abbrev pub with_turn : View I G → List I → ℕ → View I G
  with_turn v xs l = with_stage v (Holding (number_of v.stage) xs l None)

  -- the history that it holds becomes that of the value in the slot, it has seen it, and all its items are within
  abbrev pub grown_view : View I G → List I → View I G
  grown_view v xs = record v { seen = xs; within = xs; stage = Holding (number_of v.stage) xs (loan_of v.stage) (noted_of v.stage) }

  -- it noted the loan
  abbrev pub with_note : View I G → ℕ → View I G
  with_note v n = with_stage v (Holding (number_of v.stage) (log_of v.stage) (loan_of v.stage) (Some n))

  -- its loan, and what it noted, become the number
  abbrev pub with_loan : View I G → ℕ → View I G
  with_loan v n = record v { loan = n; stage = Holding (number_of v.stage) (log_of v.stage) n (Some n) }
