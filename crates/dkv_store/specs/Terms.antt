-- How a store goes on, and what a stop at any moment leaves of it.
--     GoesOn seen images moment since attempts start now      from the one store to the other, with these commits made or left in doubt on the way
--     CommitLeaves seen images moment since old c new      what a stop in the commit of c may leave
--     Leads .. more old new      whatever goes on to the old store goes on to the new one, with these attempts more
use Rattle.std.specs.Prelude.{ℕ, ◌≡◌, IsTrue, List, ◌++◌, Some}
use Rattle.std.specs.declared.option.Option.{Option}
use Rattle.dkv_base.specs.declared.types.Commit.{Commit}
use Rattle.dkv_base.specs.After.{after, is_legal}
use Rattle.dkv_base.specs.Sound.{IsSound}
use Rattle.dkv_io.specs.Disks.{Moves, Told, AnyBytes}
use Rattle.dkv_files.specs.Crashes.{StandsOrDoubtful, read}
use Rattle.dkv_store.specs.Attempts.{Attempt, IsLeft, RunLeaves, made_of}
use Rattle.dkv_store.specs.Held.{CommitMoves, picked}
use Rattle.dkv_store.specs.Stores.{Contents, used_of, other_of}

-- Commits are made or left in doubt, in this term or in further ones. At each moment each pair of images is one of the start, or recovers to
-- the state after the first commits, or after these and one that was left in doubt there.
pub record GoesOn {D : Type 0} (seen : D → Option (List ℕ)) (images : D → List ℕ → Type 0) (moment : D → ℕ) (since : D → ℕ → List ℕ → Type 0)
    (attempts : List Attempt) (start now : Contents D) : Type 0 where
  pub sound : IsSound start.core.state
  pub legal : IsTrue (is_legal start.core.state (made_of attempts))
  pub state : now.core.state ≡ after start.core.state (made_of attempts)
  pub who : now.who ≡ start.who
  -- the commit that is in doubt now is among them
  pub named : (c : Commit) → now.doubt ≡ Some c → IsLeft attempts c
  pub told_a : Told AnyBytes (seen start.a) (seen now.a)
  pub told_b : Told AnyBytes (seen start.b) (seen now.b)
  pub moves : (fa fb : List ℕ) → seen start.a ≡ Some fa → seen start.b ≡ Some fb
      → Moves images moment since (RunLeaves (images start.a) (images start.b) read start.who start.core.state attempts) start.a start.b now.a now.b

-- where both files are told: the state before the commit, until the mend's sync that with the commit in doubt, and once the gate is written that with c
abbrev pub CommitLeaves : {D : Type 0} → (D → Option (List ℕ)) → (D → List ℕ → Type 0) → (D → ℕ) → (D → ℕ → List ℕ → Type 0) → Contents D → Commit → Contents D → Type 0
CommitLeaves seen images moment since old c new =
    (file other : List ℕ) → seen (used_of old) ≡ Some file → seen (other_of old) ≡ Some other
    → CommitMoves images moment since old.in_use.second old.who old.core.state old.doubt c (used_of old) (other_of old)
    (picked old.in_use.second new.a new.b) (picked old.in_use.second new.b new.a)

-- where both files are told: each of their images recovers to the store's state, or they are in doubt by the one commit that it names
abbrev pub FilesStand : {D : Type 0} → (D → Option (List ℕ)) → (D → List ℕ → Type 0) → Contents D → Type 0
FilesStand seen images s =
    (fa fb : List ℕ) → seen s.a ≡ Some fa → seen s.b ≡ Some fb
    → StandsOrDoubtful read (images s.a) (images s.b) s.core.state s.doubt s.who

-- whatever goes on to the old store goes on to the new one, with these attempts more
abbrev pub Leads : {D : Type 0} → (D → Option (List ℕ)) → (D → List ℕ → Type 0) → (D → ℕ) → (D → ℕ → List ℕ → Type 0) → List Attempt → Contents D → Contents D → Type 0
Leads {D} seen images moment since more old new =
    (start : Contents D) (attempts : List Attempt) → GoesOn seen images moment since attempts start old → GoesOn seen images moment since (attempts ++ more) start new
