use Rattle.std.proofs.Common.{◌≡◌, IsTrue}
use Rattle.std.specs.Option.{option_copied, option_or}
use Rattle.dkv_base.specs.Ordered.{above, is_rising}
use Rattle.dkv_index.specs.Trees.{items_of}
use Rattle.dkv_index.proofs.searches.look_above.Given as goal

-- what is left is in order, and has the answer unless it is the best so far
abbrev pub invariant-loop-rest : goal.invariant-loop-rest
invariant-loop-rest g l =
    let cmp = g.T.Ranked.rank in
    let x = g.P.Probe.stands_for l.probe in
    IsTrue (is_rising cmp (items_of l.rest)) × (option_or (above cmp x (items_of l.rest)) (option_copied l.best) ≡ above cmp x (items_of l.tree))
