-- The kind that has a code has that code, and no other has.
use Rattle.std.proofs.Common.{◌≡◌, ℕ, Bool, true, false, List, [], ◌∷◌, cond, Option, Some, refl, subst}
use Rattle.std.specs.Prelude.{find, ◌==◌}
use Rattle.std.proofs.lemmas.Bool.{eqb-true}
use Rattle.dkv_pipe.specs.declared.frame_kind.FrameKind.{FrameKind}
use Rattle.dkv_pipe.specs.declared.frame_kind.FrameKind.TheVariants as kind
use Rattle.dkv_pipe.specs.Codes.{kind_code, kind_of, kinds}

-- what is found passes the test
found_here : {X : Type 0} (p : X → Bool) (y x : X) (more : Option X) (b : Bool) → p y ≡ b → (more ≡ Some x → p x ≡ true) → cond b (Some y) more ≡ Some x → p x ≡ true
found_here {X} p y x more true passes later is = let same : y ≡ x = cc in subst (λ (z : X). p z ≡ true) same passes
found_here p y x more false fails later is = later is

found_passes : {X : Type 0} (p : X → Bool) (xs : List X) (x : X) → find p xs ≡ Some x → p x ≡ true
found_passes p [] x is = absurd (cc is)
found_passes p (y ∷ ys) x is = found_here p y x (find p ys) (p y) refl (found_passes p ys x) is

-- the kind that has the code has it
pub code_of_found : (code : ℕ) (k : FrameKind) → kind_of code ≡ Some k → kind_code k ≡ code
code_of_found code k is = eqb-true (kind_code k) code (found_passes (λ j. kind_code j == code) kinds k is)

-- and each kind is found by its code
pub kind_of_code : (k : FrameKind) → kind_of (kind_code k) ≡ Some k
kind_of_code kind.Read = refl
kind_of_code kind.Write = refl
kind_of_code kind.Watch = refl
kind_of_code kind.Poll = refl
kind_of_code kind.Take = refl
kind_of_code kind.Acknowledge = refl
kind_of_code kind.Fail = refl
kind_of_code kind.Checkpoint = refl
kind_of_code kind.Term = refl
