-- The rule of the lock: what holds of the words, of the value at home and of all views, between any two steps.
use Rattle.std.specs.Prelude.{◌≡◌, ℕ, ◌+◌, ◌%◌, ◌<◌, ◌≤◌, ◌⊎◌, true, false, cond, List, [], ◌∷◌, length, Option, Some, None}
use mathlib.Core.Option.{some}
use mathlib.Core.List.{IsPrefix}
use lib.ListN.{get_elem?}
use Rattle.atomic_table.specs.Table.{State}
use Rattle.dkv_base.specs.declared.moments.TheConstants.{MAX_MOMENT}
use Rattle.dkv_turn.specs.Weights.{total, below}
use Rattle.dkv_turn.specs.Histories.{NoneSince}
use Rattle.dkv_turn.specs.Views.{most_passes, IsHolding, shares}
use Rattle.dkv_turn.specs.declared.view.Stage.{Stage}
use Rattle.dkv_turn.specs.declared.view.Stage.TheVariants.{Idle, Waiting, Holding}
use Rattle.dkv_turn.specs.declared.view.Gone.{Gone}
use Rattle.dkv_turn.specs.declared.view.View.{View}

-- ticket numbers are counted modulo this: 2 ^ 64
abbrev pub ticket_cycle : ℕ
ticket_cycle = 18446744073709551616

-- a history is shorter than this: 2 ^ 63
abbrev pub history_bound : ℕ
history_bound = 9223372036854775808

-- nothing was noted, or the loan
abbrev pub HasNoted : ℕ → Option ℕ → Type 0
HasNoted loan None = Unit {0}
HasNoted loan (Some n) = n ≡ loan

module _ {I : Type 0} where
  -- a history that was seen under a number: it is a beginning of the whole, and no item past it carries the number
  pub record Closed (carries : I → ℕ) (log : List I) (g : Gone I) : Type 0 where
    pub begins : IsPrefix g.seen log
    pub holds_all : NoneSince carries g.who g.seen log

  -- who holds has the number that is served, over the whole history and the loan
  abbrev pub StandsAt : ℕ → List I → ℕ → Stage I → Type 0
  StandsAt served log loan Idle = Unit {0}
  StandsAt served log loan (Waiting k) = Unit {0}
  StandsAt served log loan (Holding k xs l n) = (k ≡ served) × (xs ≡ log) × (l ≡ loan) × HasNoted loan n

  -- the weight of the number that a stage waits or holds with
  abbrev pub stage_weight : (ℕ → ℕ) → Stage I → ℕ
  stage_weight f Idle = 0
  stage_weight f (Waiting k) = f k
  stage_weight f (Holding k xs l n) = f k

module _ {I G : Type 0} where
  -- the weight of the ticket number that it waits or holds with
  abbrev pub ticket : (ℕ → ℕ) → View I G → ℕ
  ticket f v = stage_weight f v.stage

  -- the weight of its number and of those that were joined into it
  abbrev pub numbers : (ℕ → ℕ) → View I G → ℕ
  numbers f v = total (λ (g : Gone I). f g.who) (shares v)

  -- 1 where it has the mark
  abbrev pub mark : View I G → ℕ
  mark v = cond v.marked 1 0

  -- its loan
  abbrev pub lent_to : View I G → ℕ
  lent_to v = v.loan

  -- a view was handed in a moment that is no less
  abbrev pub HandedIn : ℕ → List (View I G) → Type 0
  HandedIn now views = (j : ℕ) × (v : View I G) × (get_elem? views j ≡ some v) × (now ≤ v.handed)

  -- what is true of one view, where there are count of them
  pub record Knows (carries : I → ℕ) (base : G) (served : ℕ) (log : List I) (now loan count : ℕ) (v : View I G) : Type 0 where
    pub shares_closed : (k : ℕ) (g : Gone I) → get_elem? (shares v) k ≡ some g → Closed carries log g
    pub begins : IsPrefix v.seen log
    pub within : length v.within ≤ length v.seen
    pub stands : StandsAt served log loan v.stage
    pub gives : v.marked ≡ true → v.left + count ≡ most_passes
    pub gives_none : v.marked ≡ false → v.left ≡ 0
    pub at_most : v.at ≤ now
    pub lends : (v.loan ≡ 0) ⊎ (v.loan ≡ loan)
    pub grounded : v.spent ≡ false → v.grounds ≡ Some base
    pub rests : v.spent ≡ true → (v.stage ≡ Idle) × (v.loan ≡ 0) × (v.handed ≡ 0)

module _ {I G V : Type 0} (carries : I → ℕ) (items : V → List I) (lent : V → ℕ) (grounds : V → G) (base : G) where
  -- the value is at home, with the whole history, the loan and the ground
  pub record Home (log : List I) (loan : ℕ) (home : mathlib.Core.Option.Option (Option V)) : Type 0 where
    pub value : V
    pub there : home ≡ some (Some value)
    pub keeps_log : items value ≡ log
    pub keeps_loan : lent value ≡ loan
    pub keeps_ground : grounds value ≡ base

  -- Lists of numbers are compared by what they weigh under every f.
  -- queue: the numbers from served up to below drawn are those with which views wait or hold, each once
  -- once: the numbers below the count of views are those that views have or keep, each once
  -- given: no item carries a number that was not given away
  -- one_loan: where the word is above 0, just one view has it as its loan, and the others have 0
  pub record Kept (words : List ℕ) (homes : List (mathlib.Core.Option.Option (Option V))) (views : List (View I G)) : Type 0 where
    pub drawn : ℕ
    pub served : ℕ
    pub log : List I
    pub now : ℕ
    pub loan : ℕ
    pub home : mathlib.Core.Option.Option (Option V)
    pub words_are : words ≡ (drawn % ticket_cycle) ∷ (served % ticket_cycle) ∷ length log ∷ now ∷ loan ∷ []
    pub homes_are : homes ≡ home ∷ []
    pub capped : now ≤ MAX_MOMENT
    pub handed_in : HandedIn now views
    pub short : length log < history_bound
    pub few : length views ≤ most_passes
    pub queue : (f : ℕ → ℕ) → total (ticket f) views + below f served ≡ below f drawn
    pub once : (f : ℕ → ℕ) → total (numbers f) views ≡ below f (length views)
    pub given : (i : ℕ) (x : I) → get_elem? log i ≡ some x → carries x < length views
    pub one_mark : total mark views ≤ 1
    pub one_loan : total lent_to views ≡ loan
    pub each : (j : ℕ) (v : View I G) → get_elem? views j ≡ some v → Knows carries base served log now loan (length views) v
    pub at_home : ((j : ℕ) (v : View I G) → get_elem? views j ≡ some v → ¬ IsHolding v.stage) → Home log loan home

  -- the rule, of a table
  abbrev pub KeptIn : State (Option V) (View I G) → Type 0
  KeptIn s = Kept s.words s.homes s.views
