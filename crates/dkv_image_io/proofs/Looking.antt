-- Calls that only read a disk, one after another.
use Rattle.std.proofs.Common.{◌∙◌, ℕ, ◌≤◌, List, Option}
use Rattle.dkv_io.proofs.Moments.{weaker, joined}
use Rattle.dkv_image_io.specs.Reading.{OnlyReads}

module _ {D : Type 0} (seen : D → Option (List ℕ)) (images : D → List ℕ → Type 0) (moment : D → ℕ) (since : D → ℕ → List ℕ → Type 0) (counts : (disk : D) (t : ℕ) (c : List ℕ) → t ≤ moment disk → images disk c → since disk t c) where
  pub reads_on : (old mid new : D) → OnlyReads seen images moment since old mid → OnlyReads seen images moment since mid new → OnlyReads seen images moment since old new
  reads_on old mid new first then = record {
    same = then.same ∙ first.same;
    crash = λ c now. first.crash c (then.crash c now);
    leaves = joined moment since old mid new (images old) first.leaves
        (weaker moment since mid new (images mid) (images old) (λ f now. first.leaves.each f (counts mid (moment old) f first.leaves.later now)) then.leaves);
  }
