-- A run of steps from a core.
--     situation_of c      the situation in which a run begins
--     StandsFor s c      whether a situation is the core's, whatever its trail
--     IsAnswered c who t a r d      whether at the core c the ask has the answer r at the moment t, and leads to the core d
--     IsAnsweredBeside c seats who t a r d new      whether so it is beside these seats, and leads to the new ones
--     IsStep c seats p a d new      whether the step has this answer at the core c and beside these seats, and leads to d and the new ones
--     IsCutShort c steps d      whether some first steps lead to d
use Rattle.std.specs.Prelude.{ℕ, ◌≡◌, ◌-◌, ◌^◌, false, List, [], take, None}
use Rattle.dkv_base.specs.declared.types.Answer.{Answer}
use Rattle.dkv_base.specs.declared.types.Ask.{Ask}
use Rattle.dkv_base.specs.declared.types.MsgId.{MsgId}
use Rattle.dkv_base.specs.declared.types.Step.{Step}
use Rattle.dkv_base.specs.Trails.{first_stop}
use Rattle.dkv_base.specs.Messages.{is_out}
use Rattle.dkv_base.specs.Replies.{said}
use Rattle.dkv_base.specs.Steps.{Situation, reply_to, answered, step, situation_after}
use Rattle.dkv_core.specs.Cores.{Database}
use Rattle.dkv_core.specs.Seats.{AreWatchesOf}
use Rattle.dkv_core.specs.declared.seats.Seat.{Seat}

-- a limit that no weight passes
abbrev pub no_limit : ℕ
no_limit = 2 ^ 64 - 1

-- the core's state, its greatest moment and what is out there, with no watchers and an empty trail
abbrev pub situation_of : Database → Situation
situation_of c = record {
  state = c.state;
  out = c.out;
  greatest = c.greatest;
  watchers = [];
  trail = [];
  limit = no_limit;
}

-- the core's state and greatest moment, the same messages out, and a trail that stops nothing
pub record StandsFor (s : Situation) (c : Database) : Type 0 where
  pub state : s.state ≡ c.state
  pub out : (id : MsgId) → is_out id s.out ≡ is_out id c.out
  pub greatest : s.greatest ≡ c.greatest
  pub unstopped : first_stop s.trail ≡ None
  pub unlimited : s.limit ≡ no_limit

-- in each situation of the one core the ask has this answer at the moment, and leads to a situation of the other
abbrev pub IsAnswered : Database → ℕ → ℕ → Ask → Answer → Database → Type 0
IsAnswered c who t a r d = (s : Situation) → StandsFor s c → (reply_to s who t a ≡ said r) × StandsFor (answered who t a (said r) s) d

-- in each situation of the one core with the watches of the seats the ask has this answer, and leads to a situation of the other core with the watches of the new seats
abbrev pub IsAnsweredBeside : Database → List Seat → ℕ → ℕ → Ask → Answer → Database → List Seat → Type 0
IsAnsweredBeside c seats who t a r d new =
    (s : Situation) → StandsFor s c → AreWatchesOf s.watchers seats
    → (reply_to s who t a ≡ said r) × StandsFor (answered who t a (said r) s) d × AreWatchesOf (answered who t a (said r) s).watchers new

-- and so has the step
abbrev pub IsStep : Database → List Seat → Step → Answer → Database → List Seat → Type 0
IsStep c seats p a d new =
    (s : Situation) → StandsFor s c → AreWatchesOf s.watchers seats
    → ((step s p false).0 ≡ said a) × StandsFor (step s p false).1 d × AreWatchesOf (step s p false).1.watchers new

-- so it is after some first steps
abbrev pub IsCutShort : Database → List Step → Database → Type 0
IsCutShort c steps d = (n : ℕ) × StandsFor (situation_after (situation_of c) (take n steps) []) d
