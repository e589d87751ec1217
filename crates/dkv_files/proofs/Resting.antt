-- Two disks that move one after the other, and write nothing.
use Rattle.std.proofs.Common.{◌∙◌, ℕ, ◌≤◌, List, Option}
use Rattle.dkv_io.specs.Disks.{Moves, PairImages, LeavesOnly, NoMore, stays, a_moves, b_moves}
use Rattle.dkv_io.proofs.Moments.{weaker}
use Rattle.dkv_io.proofs.Moves as runs
use Rattle.dkv_io.proofs.Moments as calls
use Rattle.dkv_image_io.specs.Reading.{OnlyReads}
use Rattle.dkv_files.specs.Crashes.{WritesNothing}

module _ {D : Type 0} (images : D → List ℕ → Type 0) (moment : D → ℕ) (since : D → ℕ → List ℕ → Type 0) where
  pub both : (a b c d : D) → LeavesOnly moment since a c (images a) → NoMore (images a) (images c) → LeavesOnly moment since b d (images b) → NoMore (images b) (images d) → WritesNothing images moment since a b c d
  both a b c d first a_none then b_none =
      a_moves a b c c d (weaker moment since a c (images a) _ (λ x has y other. (has, other)) first)
      (b_moves c b d c d (weaker moment since b d (images b) _ (λ y has x other. (a_none x other, has)) then)
      (stays c d (λ x y x_has y_has. (a_none x x_has, b_none y y_has))))

  pub one : (a b c : D) → LeavesOnly moment since a c (images a) → NoMore (images a) (images c) → WritesNothing images moment since a b c b
  one a b c first a_none =
      a_moves a b c c b (weaker moment since a c (images a) _ (λ x has y other. (has, other)) first)
      (stays c b (λ x y x_has y_has. (a_none x x_has, y_has)))

  -- a run that writes nothing, and then another
  pub on : (a b c d e f : D) → WritesNothing images moment since a b c d → NoMore (images a) (images c) → NoMore (images b) (images d) → WritesNothing images moment since c d e f → WritesNothing images moment since a b e f
  on a b c d e f first a_none b_none then =
      runs.joined images moment since (PairImages (images a) (images b)) a b c d e f first
      (runs.weaker images moment since (PairImages (images c) (images d)) (PairImages (images a) (images b)) (λ x y has. (a_none x has.0, b_none y has.1)) c d e f then)

  -- the one disk moves while the other stands still
  pub moves_of : ((d : D) (t : ℕ) (x : List ℕ) → t ≤ moment d → images d x → since d t x) → (a a_end b : D) (P : List ℕ → List ℕ → Type 0)
      → LeavesOnly moment since a a_end (λ x. (y : List ℕ) → images b y → P x y) → Moves images moment since P a b a_end b
  moves_of counts a a_end b P leaves = a_moves a b a_end a_end b leaves (stays a_end b (λ x y now has. leaves.each x (counts a_end (moment a) x leaves.later now) y has))

  pub moves_of_second : ((d : D) (t : ℕ) (x : List ℕ) → t ≤ moment d → images d x → since d t x) → (a b b_end : D) (P : List ℕ → List ℕ → Type 0)
      → LeavesOnly moment since b b_end (λ y. (x : List ℕ) → images a x → P x y) → Moves images moment since P a b a b_end
  moves_of_second counts a b b_end P leaves = b_moves a b b_end a b_end leaves (stays a b_end (λ x y has now. leaves.each y (counts b_end (moment b) y leaves.later now) x has))

  -- a call that only reads, and then another
  pub reads_on : (seen : D → Option (List ℕ)) (a b c : D) → OnlyReads seen images moment since a b → OnlyReads seen images moment since b c → OnlyReads seen images moment since a c
  reads_on seen a b c first then = record {
    same = then.same ∙ first.same;
    crash = λ x now. first.crash x (then.crash x now);
    leaves = calls.joined moment since a b c (images a) first.leaves (weaker moment since b c (images b) (images a) first.crash then.leaves);
  }

  -- a run that writes nothing, and then a call that only reads the first disk
  pub reads_first : (seen : D → Option (List ℕ)) (a b c d e : D) → WritesNothing images moment since a b c d → NoMore (images a) (images c) → NoMore (images b) (images d)
      → OnlyReads seen images moment since c e → WritesNothing images moment since a b e d
  reads_first seen a b c d e first a_none b_none reads = on a b c d e d first a_none b_none (one c d e reads.leaves reads.crash)

  -- and one that only reads the second disk
  pub reads_both : (seen : D → Option (List ℕ)) (a b c d e f : D) → WritesNothing images moment since a b c d → NoMore (images a) (images c) → NoMore (images b) (images d)
      → OnlyReads seen images moment since c e → OnlyReads seen images moment since d f → WritesNothing images moment since a b e f
  reads_both seen a b c d e f first a_none b_none reads_a reads_b = on a b c d e f first a_none b_none (both c d e f reads_a.leaves reads_a.crash reads_b.leaves reads_b.crash)
