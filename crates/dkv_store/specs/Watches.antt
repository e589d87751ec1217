-- The watches of a store's callers.
--     with_watches rows s, raised_to t s      the store with these rows of those who watch, and at this greatest moment
--     IsWatchedBy s who w      whether the caller's watch in a situation is the watcher's
--     OthersStay who ws new      whether each other caller's watch is as before
--     AnswersPoll old who at w f new later      whether a poll by this watcher has this reply, and leads to the new store and the later watcher
--     AnswersWatch old who at keys f new w      whether a new watch has this reply, and leads to the new store and the watcher
--     AnswersLast old who at w f new      whether a poll by a watcher that is gone then has this reply, and leads to the new store
--     AnswersBeside old seats who at a mark r new later      the same of any ask, with the watches of all callers, who have these seats
use Rattle.std.specs.Prelude.{ℕ, ◌≡◌, Bool, false, ◌==◌, List, Option, Some, None}
use Rattle.dkv_base.specs.declared.types.Answer.TheVariants as answer
use Rattle.dkv_base.specs.declared.types.Ask.{Ask}
use Rattle.dkv_base.specs.declared.types.Ask.TheVariants as ask
use Rattle.dkv_base.specs.declared.types.Frame.{Frame}
use Rattle.dkv_base.specs.Replies.{Reply, said}
use Rattle.dkv_base.specs.Steps.{Situation, Watching, watch_of, effective, step_at}
use Rattle.dkv_hub.specs.Rows.{Watch, WatchRow}
use Rattle.dkv_core.specs.Seats.{AreWatchesOf, IsWatchOf}
use Rattle.dkv_core.specs.declared.seats.Seat.{Seat}
use Rattle.dkv_store.specs.Stores.{Contents}
use Rattle.dkv_store.specs.Situations.{StandsFor}

-- the same but for the rows of those who watch
abbrev pub with_watches : {D : Type 0} → List WatchRow → Contents D → Contents D
with_watches rows s = record s { core = record s.core { watches = rows } }

-- the same but for the greatest moment
abbrev pub raised_to : {D : Type 0} → ℕ → Contents D → Contents D
raised_to t s = record s { core = record s.core { greatest = t } }

-- the caller's watch in the situation has the watcher's keys, and has shown what that showed last
abbrev pub IsWatchedBy : Situation → ℕ → Watch → Type 0
IsWatchedBy s who w = IsWatchOf (watch_of who s.watchers) (Some (record { who = who; watcher = w }))

-- each other caller's watch is the one that it was
abbrev pub OthersStay : ℕ → List Watching → List Watching → Type 0
OthersStay who ws new = (k : ℕ) → (who == k) ≡ false → watch_of k new ≡ watch_of k ws

-- a situation of the store in which the caller's watch is the watcher's, and the others' are as before
pub record Watched {D : Type 0} (c : Contents D) (who : ℕ) (w : Watch) (ws : List Watching) (s : Situation) : Type 0 where
  pub stands : StandsFor s c
  pub own : IsWatchedBy s who w
  pub others : OthersStay who ws s.watchers

-- In each situation of the old store in which the caller's watch is the watcher's, a poll of this caller has this reply, and leads to one of the
-- new store in which it is the later watcher's, each other caller's being as before.
abbrev pub AnswersPoll : {D : Type 0} → Contents D → ℕ → ℕ → Watch → Option Frame → Contents D → Watch → Type 0
AnswersPoll old who at w f new later =
    (s : Situation) → StandsFor s old → IsWatchedBy s who w
    → ((step_at s who (effective s at) ask.Poll false).0 ≡ said (answer.Frame f)) × Watched new who later s.watchers (step_at s who (effective s at) ask.Poll false).1

-- in each situation of the old store, whoever watches in it, so it is with a watch of the keys and the watcher that began it
abbrev pub AnswersWatch : {D : Type 0} → Contents D → ℕ → ℕ → List (List ℕ) → Option Frame → Contents D → Watch → Type 0
AnswersWatch old who at keys f new w =
    (s : Situation) → StandsFor s old
    → ((step_at s who (effective s at) (ask.Watch keys) false).0 ≡ said (answer.Frame f)) × Watched new who w s.watchers (step_at s who (effective s at) (ask.Watch keys) false).1

-- in each situation of the old store in which the caller's watch is the watcher's, a poll of this caller has this reply, and leads to one of the new store
abbrev pub AnswersLast : {D : Type 0} → Contents D → ℕ → ℕ → Watch → Option Frame → Contents D → Type 0
AnswersLast old who at w f new =
    (s : Situation) → StandsFor s old → IsWatchedBy s who w
    → ((step_at s who (effective s at) ask.Poll false).0 ≡ said (answer.Frame f)) × StandsFor (step_at s who (effective s at) ask.Poll false).1 new

-- in each situation of the old store with the watches of the seats the ask of this caller has this reply, and leads to one of the new store with the watches of the later seats
abbrev pub AnswersBeside : {D : Type 0} → Contents D → List Seat → ℕ → ℕ → Ask → Bool → Reply → Contents D → List Seat → Type 0
AnswersBeside old seats who at a mark r new later =
    (s : Situation) → StandsFor s old → AreWatchesOf s.watchers seats
    → ((step_at s who (effective s at) a mark).0 ≡ r) × StandsFor (step_at s who (effective s at) a mark).1 new × AreWatchesOf (step_at s who (effective s at) a mark).1.watchers later
