-- What the disks say of one frame more, and of what a stop leaves.
use Rattle.std.proofs.Common.{◌≡◌, ℕ, ◌+◌, ◌≤◌, Bool, List, [], ◌∷◌, ◌++◌, Option, sym, ap, subst, arith, append_assoc}
use Rattle.std.specs.Prelude.{count_by}
use Rattle.std.proofs.lemmas.List.{append-nil}
use Rattle.dkv_store.specs.Attempts.{Attempt}
use Rattle.dkv_store.specs.Stores.{Contents, IsWithinRise}
use Rattle.dkv_store.specs.Terms.{GoesOn, Leads}
use Rattle.dkv_store.proofs.Trailing.{count_push}
use Rattle.dkv_pipe.specs.Stores.{Reaches}

-- what fits within one rise and then within another fits within both
rise_then : (n m a b c d e f : ℕ) → b ≤ c → e ≤ f → IsWithinRise n a b d e → IsWithinRise m b c e f → IsWithinRise (n + m) a c d f
rise_then n m a b c d e f later_a later_b first second low_a low_b =
    omega (arith, first (omega (arith, later_a, low_a)) (omega (arith, later_b, low_b)), second low_a low_b)

module _ {D : Type 0} (faults : D → ℕ) where
  pub reaches_none : (s : Contents D) → Reaches faults 0 [] s s
  reaches_none s = record { marked = λ low_a low_b. omega arith; later_a = omega arith; later_b = omega arith; number = omega arith }

  pub reaches_one : (n : ℕ) (ms : List Bool) (m : Bool) (old mid new : Contents D) → Reaches faults n ms old mid → Reaches faults 1 (m ∷ []) mid new
      → Reaches faults (n + 1) (ms ++ m ∷ []) old new
  reaches_one n ms m old mid new first second = record {
    marked = subst (λ (k : ℕ). IsWithinRise k (faults old.a) (faults new.a) (faults old.b) (faults new.b)) (sym (count_push (λ mark. mark) ms m))
        (rise_then (count_by (λ mark. mark) ms) (count_by (λ mark. mark) (m ∷ [])) (faults old.a) (faults mid.a) (faults new.a) (faults old.b) (faults mid.b) (faults new.b) second.later_a second.later_b first.marked second.marked);
    later_a = omega (arith, first.later_a, second.later_a);
    later_b = omega (arith, first.later_b, second.later_b);
    number = omega (arith, first.number, second.number);
  }

  -- a store of the same number and disks
  pub reaches_same : (n : ℕ) (ms : List Bool) (old mid new : Contents D) → Reaches faults n ms old mid → new.a ≡ mid.a → new.b ≡ mid.b → new.core.state.number ≡ mid.core.state.number
      → Reaches faults n ms old new
  reaches_same n ms old mid new first a b number = record {
    marked = λ low_a low_b. let same_a = ap faults a in let same_b = ap faults b in omega (arith, same_a, same_b, first.marked (omega (arith, low_a, same_a)) (omega (arith, low_b, same_b)));
    later_a = let same_a = ap faults a in omega (arith, first.later_a, same_a);
    later_b = let same_b = ap faults b in omega (arith, first.later_b, same_b);
    number = omega (arith, first.number, number);
  }

module _ {D : Type 0} (seen : D → Option (List ℕ)) (images : D → List ℕ → Type 0) (moment : D → ℕ) (since : D → ℕ → List ℕ → Type 0) where
  pub leads_none : (s : Contents D) → Leads seen images moment since [] s s
  leads_none s start attempts goes = subst (λ (l : List Attempt). GoesOn seen images moment since l start s) (sym (append-nil attempts)) goes

  pub leads_then : (old mid new : Contents D) (xs ys : List Attempt) → Leads seen images moment since xs old mid → Leads seen images moment since ys mid new
      → Leads seen images moment since (xs ++ ys) old new
  leads_then old mid new xs ys first second start attempts goes =
      subst (λ (l : List Attempt). GoesOn seen images moment since l start new) (append_assoc attempts xs ys)
      (second start (attempts ++ xs) (first start attempts goes))
