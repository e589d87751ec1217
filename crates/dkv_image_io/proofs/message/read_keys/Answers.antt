use Rattle.std.proofs.Common.{◌≡◌, ◌∙◌, sym, ap, suc, ◌-◌, List, [], ◌∷◌, ◌++◌, ℕ, arith}
use Rattle.dkv_image.specs.Image.{sized_at, many_at}
use Rattle.dkv_image_io.proofs.Many.{many_behind, many_on}
use Rattle.dkv_image_io.proofs.message.read_keys.Goals as goal

pub loop-left-preserved : goal.loop-left-preserved
loop-left-preserved c =
    let left = c.loop-left.left in
    let rest = c.sized.new.self in
    let more : left ≡ suc (left - 1) = omega (arith, c.loop-left-test.true) in
    let added = c.in_ok-add-in-Some-sized.ensures.ok ∙ ap (λ (key : List ℕ). c.loop-left.keys ++ key ∷ []) c.in_ok-copy_of-in-Some-sized.ensures in
    c.loop-left.invariant
    ∙ many_on sized_at c.loop-left.keys c.in-Some-sized.key.now left (left - 1) c.loop-left.front rest more c.in-Some-sized.ensures.found
    ∙ ap (λ (l : List (List ℕ)). many_behind l (many_at sized_at (left - 1) rest)) (sym added)
