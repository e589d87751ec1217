-- What clauses say of a pass.
use Rattle.std.specs.Prelude.{◌≡◌, ℕ, ◌+◌, ◌<◌, true, List, length, Option}
use Rattle.atomic_table.specs.Seated.{TableId}
use Rattle.dkv_turn.specs.declared.view.Gone.{Gone}
use Rattle.dkv_turn.specs.declared.view.View.{View}
use Rattle.dkv_turn.specs.declared.pass.Pass.{Pass}
use Rattle.dkv_turn.specs.Views.{loan_of}
use Rattle.dkv_turn.specs.Seats.{IsIdle, HoldsTurn}

module _ {V I G : Type 0} where
  -- all that it knows
  abbrev pub view : {c : _} → Pass V I G c → View I G
  view p = p.seat.me.0

  -- the turn that it is of
  abbrev pub pass_turn : {c : _} → Pass V I G c → TableId
  pass_turn p = p.seat.table_id

  -- the history that it has seen
  abbrev pub seen : {c : _} → Pass V I G c → List I
  seen p = p.seat.me.0.seen

  -- its number
  abbrev pub who : {c : _} → Pass V I G c → ℕ
  who p = p.seat.me.0.who

  -- the greatest moment that it was given
  abbrev pub moment : {c : _} → Pass V I G c → ℕ
  moment p = p.seat.me.0.at

  -- the greatest moment that its caller handed in
  abbrev pub asked : {c : _} → Pass V I G c → ℕ
  asked p = p.counts.asked

  -- the greatest moment that it, or one that was joined into it, handed in to be raised
  abbrev pub handed : {c : _} → Pass V I G c → ℕ
  handed p = p.seat.me.0.handed

  -- its loan, of which 0 means none
  abbrev pub loan : {c : _} → Pass V I G c → ℕ
  loan p = p.seat.me.0.loan

  -- the passes that were joined into it
  abbrev pub gone : {c : _} → Pass V I G c → List (Gone I)
  gone p = p.seat.me.0.gone

  -- how many numbers it has to give away
  abbrev pub left : {c : _} → Pass V I G c → ℕ
  left p = p.seat.me.0.left

  -- the ground of its turn's value
  abbrev pub grounds : {c : _} → Pass V I G c → Option G
  grounds p = p.seat.me.0.grounds

  -- it is there, and doesn't have the turn
  abbrev pub IsOutside : {c : _} → Pass V I G c → Type 0
  IsOutside p = IsIdle p.seat

  -- inside, the loan of the value as it was given
  abbrev pub entered_loan : {c : _} → Pass V I G c → ℕ
  entered_loan p = loan_of p.seat.me.0.stage

  -- it has the turn, and has seen the whole history
  abbrev pub IsInside : {c : _} → Pass V I G c → Type 0
  IsInside p = HoldsTurn p.seat (entered_loan p) × (0 < loan p → entered_loan p ≡ loan p)

  -- it has the mark, and as many passes were joined into it as numbers were given away
  abbrev pub IsLast : {c : _} → Pass V I G c → Type 0
  IsLast p = ((view p).marked ≡ true) × (length (gone p) + left p ≡ 4294967295)

  -- all but what it has seen, its loan and whether it is inside
  pub record Same {c : _} (p q : Pass V I G c) : Type 0 where
    pub turn : pass_turn q ≡ pass_turn p
    pub who : who q ≡ who p
    pub moment : moment q ≡ moment p
    pub asked : asked q ≡ asked p
    pub handed : handed q ≡ handed p
    pub gone : gone q ≡ gone p
    pub left : left q ≡ left p
    pub marked : (view q).marked ≡ (view p).marked
    pub grounds : grounds q ≡ grounds p
