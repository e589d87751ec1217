-- Why the law on commits in a row asks for a sound base: here a message of the base has a number that no commit has had.
use Rattle.std.proofs.Common.{◌≡◌, refl, List, [], ◌∷◌, ◌++◌, true}
use Rattle.std.specs.Prelude.{map}
use Rattle.dkv_base.specs.declared.types.Commit.{Commit}
use Rattle.dkv_base.specs.declared.types.Commit.TheVariants as commit
use Rattle.dkv_base.specs.State.{State}
use Rattle.dkv_base.specs.After.{after, is_legal}
use Rattle.worked.proofs.Words.{enqueue, enqueues, id}

-- a message of a second commit, which there was not
abbrev early : State
early = record {
  number = 0;
  moment = 0;
  entries = [];
  messages =
      (record { id = id 2 0; payload = []; due = 0; fails = 0; undelivered = []; backoff = 1 ∷ 1 ∷ [] }) ∷ [];
}

-- it fails
abbrev first_early : List Commit
first_early = commit.Failed 1 0 (id 2 0) ∷ []

-- and then the second commit makes one of that id
abbrev rest_early : List Commit
rest_early = commit.Wrote 1 0 (enqueues (enqueue 1 [] 0 [] ∷ [])) ∷ []

-- the commits are legal in a row
early_legal : is_legal early (first_early ++ rest_early) ≡ true
early_legal = refl

-- taken at once, the failure counts for the message that is made later under the same id too
early_at_once : map (λ m. m.fails) (after early (first_early ++ rest_early)).messages ≡ 1 ∷ 1 ∷ []
early_at_once = refl

-- taken in two lists, it does not
early_in_two : map (λ m. m.fails) (after (after early first_early) rest_early).messages ≡ 1 ∷ 0 ∷ []
early_in_two = refl
