-- What a store grants a wish, and so what a frame is answered.
--     Grants .. old w who at out new      the old store grants the wish by the reply `out`, which leads to the new one
--     Answers .. old f out new      the same of a frame that is built
--     IsRefusedFor .. old at new      memory was wanted for what was asked at this moment
use Rattle.std.specs.Prelude.{◌≡◌, ℕ, Bool, List, [], ◌∷◌, IsTrue}
use Rattle.std.specs.declared.option.Option.{Option}
use Rattle.dkv_base.specs.Steps.{Situation}
use Rattle.dkv_store.specs.Stores.{Contents, IsRaised, effective_at}
use Rattle.dkv_store.specs.Situations.{StandsFor}
use Rattle.dkv_store.specs.Terms.{Leads}
use Rattle.dkv_pipe.specs.Frames.{PipeFrame}
use Rattle.dkv_pipe.specs.Wishes.{Wish, readings, wish}
use Rattle.dkv_pipe.specs.Pipe.{grant}
use Rattle.dkv_pipe.specs.Built.{is_built}
use Rattle.dkv_pipe.specs.Courses.{IsMarked}
use Rattle.dkv_pipe.specs.Attempts.{wish_attempts}
use Rattle.dkv_pipe.specs.Stores.{Reaches}

-- In each situation of the old store the wish is granted so, which leads to a situation of the new one. A mark stands where the disk failed.
pub record Grants {D : Type 0} (seen : D → Option (List ℕ)) (images : D → List ℕ → Type 0) (faults moment : D → ℕ) (since : D → ℕ → List ℕ → Type 0)
    (old : Contents D) (w : Wish) (who at : ℕ) (out : List ℕ) (new : Contents D) : Type 0 where
  pub mark : Bool
  pub steps : (s : Situation) → StandsFor s old → ((grant w who at mark s).0 ≡ out) × StandsFor (grant w who at mark s).1 new
  pub marked : IsMarked mark out
  pub reaches : Reaches faults 1 (mark ∷ []) old new
  pub leads : (s : Situation) → StandsFor s old → Leads seen images moment since (wish_attempts s w who at mark) old new

-- the frame is built, and what it wants is granted so
abbrev pub Answers : {D : Type 0} → (D → Option (List ℕ)) → (D → List ℕ → Type 0) → (D → ℕ) → (D → ℕ) → (D → ℕ → List ℕ → Type 0)
    → Contents D → PipeFrame → List ℕ → Contents D → Type 0
Answers seen images faults moment since old f out new =
    IsTrue (is_built f.kind)
    × Grants seen images faults moment since old (wish readings f.kind f.body) f.caller f.moment out new

-- nothing but the greatest moment may have changed
pub record IsRefusedFor {D : Type 0} (seen : D → Option (List ℕ)) (images : D → List ℕ → Type 0) (moment : D → ℕ) (since : D → ℕ → List ℕ → Type 0)
    (old : Contents D) (at : ℕ) (new : Contents D) : Type 0 where
  pub raised : IsRaised (effective_at old at) old new
  pub leads : Leads seen images moment since [] old new
