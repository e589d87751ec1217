-- The commits that were tried, each made or left in doubt, and what a stop in a run leaves of them.
--     Attempt, made c, left c      a commit that was tried: it was made, or left in doubt
--     made_of attempts      the commits that were made
--     attempted result c      what a commit's answer makes of c
--     IsLeft attempts c      whether c was left in doubt and no commit was made since
--     RunLeaves .. base attempts x y      what the two files may be in a run from a base on
use Rattle.std.specs.Prelude.{ℕ, ◌≡◌, ◌⊎◌, List, [], ◌∷◌, ◌++◌, Result, Ok, Err}
use Rattle.dkv_base.specs.declared.types.Commit.{Commit}
use Rattle.dkv_base.specs.State.{State}
use Rattle.dkv_base.specs.After.{after}
use Rattle.dkv_io.specs.Disks.{PairImages}
use Rattle.dkv_files.specs.Recovered.{Recovery}
use Rattle.dkv_files.specs.Crashes.{Identity, IsState, and_then}
use Rattle.dkv_store.specs.declared.answers.Done.{Done}
use Rattle.dkv_store.specs.declared.answers.Done.TheVariants as done
use Rattle.dkv_store.specs.declared.answers.Refusal.{Refusal}
use Rattle.dkv_store.specs.declared.answers.Refusal.TheVariants as refusal

-- a commit that was tried: it was made, or a fault of the disk left it in doubt
pub data Attempt : Type 0 where
  made : Commit → Attempt
  left : Commit → Attempt

-- the commits that were made, in order
abbrev pub made_of : List Attempt → List Commit
made_of [] = []
made_of (made c ∷ xs) = c ∷ made_of xs
made_of (left c ∷ xs) = made_of xs

-- a commit is made, or a fault of the disk leaves it in doubt; no other answer tries it
abbrev pub attempted : Result Done Refusal → Commit → List Attempt
attempted (Ok (done.Committed n)) c = made c ∷ []
attempted (Ok (done.Fails places)) c = []
attempted (Ok (done.NotU64 index)) c = []
attempted (Ok (done.Limit passed)) c = []
attempted (Err refusal.DiskFault) c = left c ∷ []
attempted (Err (refusal.Stopped place)) c = []
attempted (Err (refusal.Full bytes limit)) c = []
attempted (Err refusal.NoMemory) c = []

-- the commit was left in doubt behind some attempts, and none was made since
pub record IsLeft (attempts : List Attempt) (c : Commit) : Type 0 where
  pub before : List Attempt
  pub rest : List Attempt
  pub parts : attempts ≡ before ++ left c ∷ rest
  pub last : made_of rest ≡ []

-- the state after the commits that were made among some first attempts
pub record IsPrefix (base : State) (attempts : List Attempt) (s : State) : Type 0 where
  pub before : List Attempt
  pub rest : List Attempt
  pub parts : attempts ≡ before ++ rest
  pub state : s ≡ after base (made_of before)

-- the same with the next attempt, which was left in doubt there
pub record IsPrefixInDoubt (base : State) (attempts : List Attempt) (s : State) : Type 0 where
  pub before : List Attempt
  pub commit : Commit
  pub rest : List Attempt
  pub parts : attempts ≡ before ++ left commit ∷ rest
  pub state : s ≡ and_then (after base (made_of before)) commit

-- In a run: images of the start; the state after its first commits; or that and one commit that was in doubt there.
abbrev pub RunLeaves : (List ℕ → Type 0) → (List ℕ → Type 0) → (List ℕ → List ℕ → Recovery) → Identity → State → List Attempt → List ℕ → List ℕ → Type 0
RunLeaves a_start b_start read who base attempts a b =
    PairImages a_start b_start a b
    ⊎ ((s : State) × IsPrefix base attempts s × IsState (read a b) s who)
    ⊎ ((s : State) × IsPrefixInDoubt base attempts s × IsState (read a b) s who)
