use Rattle.std.proofs.Common.{◌≡◌, ◌++◌, List, ℕ, length, ap, sym, subst, ◌∙◌, arith, length-append}
use Rattle.std.proofs.lemmas.List.{take-append-drop}
use Rattle.dkv_base.proofs.ByteLists.{below_take}
use Rattle.hex.specs.Hex.{IsBytes}
use Rattle.dkv_key.specs.Parts.{double_bytes}
use Rattle.dkv_key.proofs.Doubles.{read_low, read_high}
use Rattle.dkv_key.proofs.reading.double_of.Goals as goal
use Rattle.dkv_key.proofs.reading.double_of.Goals.{then-stored, else-stored}

pub returns-clause-found : goal.returns-clause-found
returns-clause-found c =
    let bytes = c.args.bytes.now in
    let front = c.in_ok-front.front.now in
    let rest = c.in_ok-front.rest.now in
    let split = c.in_ok-front.ensures.cases in
    let k = c.from_be_bytes-stored.result in
    let each : IsBytes front = subst IsBytes (sym split.0) (below_take 8 bytes (λ i. omega (arith, c.type_inv.bytes i))) in
    let whole : bytes ≡ front ++ rest = sym (take-append-drop 8 bytes) ∙ (λ i. sym split.0 i ++ sym split.1 i) in
    let size : length front ≡ 8 = omega (arith, ap length whole, length-append front rest, split.2) in
    let is : front ≡ double_bytes c.if-stored.pattern = elim c.if-stored.branch [
      | then-stored w ↦ sym (ap double_bytes w.pattern-is ∙ read_low front k size each c.from_be_bytes-stored.ensures w.if-stored.true)
      | else-stored w ↦ sym (ap double_bytes w.pattern-is ∙ read_high front k size each c.from_be_bytes-stored.ensures c.from_be_bytes-stored.type_inv w.if-stored.false)
    ] in
    whole ∙ ap (λ (l : List ℕ). l ++ rest) is
