use Rattle.std.proofs.Common.{subst, List, ℕ}
use Rattle.dkv_wire.specs.Steps.{BeginsNumber, NoNumber}
use Rattle.dkv_wire.proofs.Steps.{begins_number, no_number}
use Rattle.dkv_wire.proofs.varints.Varints.next.Goals as goal

pub returns-in_err-number : goal.returns-in_err-number
returns-in_err-number c =
    rw c.from_residual.ensures (subst (λ (bytes : List ℕ). NoNumber bytes bytes) c.self.view_is (no_number c.self.inside.rest.now c.in_err-number.ensures))

pub returns : goal.returns
returns c =
    subst (λ (bytes : List ℕ). BeginsNumber bytes c.in_ok-number.rest.now c.in_ok-number.number) c.self.view_is (begins_number c.self.inside.rest.now c.in_ok-number.number c.in_ok-number.rest.now c.in_ok-number.ensures)
