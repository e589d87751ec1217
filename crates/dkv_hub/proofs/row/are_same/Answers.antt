use Rattle.std.proofs.Common.{refl, rules, tests}
use Rattle.std.specs.Prelude.{bytes_eq}
use Rattle.std.specs.Cmp.Lexicographic.{pointwise}
use Rattle.std.proofs.lemmas.Iterator.{YieldsList-from_slice, YieldsList-from_zip, same_from_all}
use Rattle.std.proofs.lemmas.Bool.Decides.{same_from_decides}
use Rattle.std.proofs.lemmas.Slice.Eq.{bytes_eq-Decides, slice_eq-Decides}
use Rattle.dkv_hub.proofs.row.are_same.Goals as goal

-- both tests decide whether the lists are one
pub returns-then-some-others : goal.returns-then-some-others
returns-then-some-others c =
    same_from_decides c.all.result (pointwise bytes_eq c.args.some.now c.args.others.now)
    (same_from_all c.all.new.self _ _ _ _ c.all.ensures.ran (YieldsList-from_zip (YieldsList-from_slice c.args.some.now cc) (YieldsList-from_slice c.args.others.now cc)) c.if-some-others.true (λ x q k. search (rules, tests)) (λ x q k. search (rules, tests)))
    (slice_eq-Decides bytes_eq-Decides c.args.some.now c.args.others.now _ refl)
