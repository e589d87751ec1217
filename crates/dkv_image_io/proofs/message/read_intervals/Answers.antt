use Rattle.std.proofs.Common.{◌≡◌, ◌∙◌, sym, ap, suc, ◌-◌, List, ℕ, arith}
use Rattle.std.specs.Int.{w32}
use Rattle.dkv_image.specs.Image.{number_at, many_at}
use Rattle.dkv_image_io.proofs.Many.{many_behind, many_on}
use Rattle.dkv_image_io.proofs.message.read_intervals.Goals as goal

pub loop-left-preserved : goal.loop-left-preserved
loop-left-preserved c =
    let left = c.loop-left.left in
    let rest = c.number_4-in-loop-left.new.self in
    let more : left ≡ suc (left - 1) = omega (arith, c.loop-left-test.true) in
    c.loop-left.invariant
    ∙ many_on (number_at w32) c.loop-left.intervals c.in-Some-number_4.interval left (left - 1) c.loop-left.front rest more c.in-Some-number_4.ensures.found
    ∙ ap (λ (l : List ℕ). many_behind l (many_at (number_at w32) (left - 1) rest)) (sym c.in_ok-add-in-Some-number_4.ensures.ok)
