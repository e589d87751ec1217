use Rattle.std.proofs.Common.{rules, ◌≡◌, ◌∷◌, ◌++◌, ◌∙◌, true}
use Rattle.std.specs.declared.cmp.Ordering.TheVariants.{Less, Equal, Greater}
use Rattle.dkv_base.specs.Ordered.{found, is_rising}
use Rattle.dkv_index.specs.Trees.{items_of}
use Rattle.dkv_index.proofs.Sides.{between, found-less, found-equal, found-greater}
use Rattle.dkv_index.proofs.searches.look_up.Goals as goal

pub loop-rest-preserved-in-Less : goal.loop-rest-preserved-in-Less
loop-rest-preserved-in-Less g c =
    let cmp = g.T.Ranked.rank in
    let o = g.met.T.Ranked.total in
    let x = g.P.Probe.stands_for c.args.probe.now in
    let node = c.in-Fork.node.value in
    let rising : is_rising cmp (items_of node.left ++ node.item ∷ items_of node.right) ≡ true = rw c.in-Fork.is at c.loop-rest.invariant.0 in
    let same : found cmp x (items_of node.left ++ node.item ∷ items_of node.right) ≡ found cmp x (items_of c.args.tree.now) = rw c.in-Fork.is at c.loop-rest.invariant.1 in
    let e : cmp x node.item ≡ Less = search rules in
    rw c.deref-in-Less.ensures ((between cmp _ _ _ rising).left, found-less o x _ _ _ rising e ∙ same)

pub loop-rest-preserved : goal.loop-rest-preserved
loop-rest-preserved g c =
    let cmp = g.T.Ranked.rank in
    let o = g.met.T.Ranked.total in
    let x = g.P.Probe.stands_for c.args.probe.now in
    let node = c.in-Fork.node.value in
    let rising : is_rising cmp (items_of node.left ++ node.item ∷ items_of node.right) ≡ true = rw c.in-Fork.is at c.loop-rest.invariant.0 in
    let same : found cmp x (items_of node.left ++ node.item ∷ items_of node.right) ≡ found cmp x (items_of c.args.tree.now) = rw c.in-Fork.is at c.loop-rest.invariant.1 in
    let e : cmp x node.item ≡ Greater = search rules in
    rw c.deref-in-Greater.ensures ((between cmp _ _ _ rising).right, found-greater o x _ _ _ rising e ∙ same)

pub returns-in-Equal : goal.returns-in-Equal
returns-in-Equal g c =
    let cmp = g.T.Ranked.rank in
    let o = g.met.T.Ranked.total in
    let x = g.P.Probe.stands_for c.args.probe.now in
    let node = c.in-Fork.node.value in
    let rising : is_rising cmp (items_of node.left ++ node.item ∷ items_of node.right) ≡ true = rw c.in-Fork.is at c.loop-rest.invariant.0 in
    let same : found cmp x (items_of node.left ++ node.item ∷ items_of node.right) ≡ found cmp x (items_of c.args.tree.now) = rw c.in-Fork.is at c.loop-rest.invariant.1 in
    let e : cmp x node.item ≡ Equal = search rules in
    rw c.deref-in-Equal.ensures (found-equal o x _ _ _ rising e ∙ same)
