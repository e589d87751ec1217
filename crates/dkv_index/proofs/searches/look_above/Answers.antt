use Rattle.std.proofs.Common.{rules, ◌≡◌, ◌∷◌, ◌++◌, ◌∙◌, sym, ap, true, Some}
use Rattle.std.specs.Option.{option_or, option_copied}
use Rattle.std.specs.declared.cmp.Ordering.TheVariants.{Less}
use Rattle.dkv_base.specs.Ordered.{above, is_rising}
use Rattle.dkv_index.specs.Trees.{items_of}
use Rattle.dkv_index.proofs.Sides.{between, above-less, above-not_less, or_some}
use Rattle.dkv_index.proofs.searches.look_above.Goals as goal

pub loop-rest-preserved-in-Less : goal.loop-rest-preserved-in-Less
loop-rest-preserved-in-Less g c =
    let cmp = g.T.Ranked.rank in
    let o = g.met.T.Ranked.total in
    let x = g.P.Probe.stands_for c.args.probe.now in
    let node = c.in-Fork.node.value in
    let rising : is_rising cmp (items_of node.left ++ node.item ∷ items_of node.right) ≡ true = rw c.in-Fork.is at c.loop-rest.invariant.0 in
    let same : option_or (above cmp x (items_of node.left ++ node.item ∷ items_of node.right)) (option_copied c.loop-rest.best) ≡ above cmp x (items_of c.args.tree.now) = rw c.in-Fork.is at c.loop-rest.invariant.1 in
    let e : cmp x node.item ≡ Less = search rules in
    let one = above-less o x (items_of node.left) node.item (items_of node.right) rising e in
    let best : option_or (above cmp x (items_of node.left)) (Some node.item) ≡ above cmp x (items_of c.args.tree.now) =
    sym (or_some _ node.item (option_copied c.loop-rest.best)) ∙ ap (λ v. option_or v (option_copied c.loop-rest.best)) one ∙ same in
    rw (c.deref-in-Less.ensures, c.deref-in-Less-2.ensures) ((between cmp _ _ _ rising).left, best)

pub loop-rest-preserved : goal.loop-rest-preserved
loop-rest-preserved g c =
    let cmp = g.T.Ranked.rank in
    let o = g.met.T.Ranked.total in
    let x = g.P.Probe.stands_for c.args.probe.now in
    let node = c.in-Fork.node.value in
    let rising : is_rising cmp (items_of node.left ++ node.item ∷ items_of node.right) ≡ true = rw c.in-Fork.is at c.loop-rest.invariant.0 in
    let same : option_or (above cmp x (items_of node.left ++ node.item ∷ items_of node.right)) (option_copied c.loop-rest.best) ≡ above cmp x (items_of c.args.tree.now) = rw c.in-Fork.is at c.loop-rest.invariant.1 in
    let not_less : cmp x node.item ≡ Less → ⊥ = λ e. c.in_default-rank.not-Less (rw (c.rank.ensures, c.deref.ensures) e) in
    let one = above-not_less o x (items_of node.left) node.item (items_of node.right) rising not_less in
    rw c.deref-in_default-rank.ensures ((between cmp _ _ _ rising).right, ap (λ v. option_or v (option_copied c.loop-rest.best)) one ∙ same)
