use Rattle.std.proofs.Common.{rules, arith, length, length-append, ◌≡◌, ◌∷◌, ◌++◌, IsTrue, true, subst}
use Rattle.std.specs.declared.cmp.Ordering.TheVariants.{Less, Equal, Greater}
use Rattle.dkv_base.specs.Ordered.{is_rising}
use Rattle.dkv_index.specs.Trees.{items_of}
use Rattle.dkv_index.proofs.Sides.{between, left_out-less, left_out-equal, left_out-greater, found-less, found-equal, found-greater}
use Rattle.dkv_index.proofs.changes.+shrink.Goals as goal

-- a side has fewer items than the tree, and they rise
pub shrink-shrunk-requires : goal.shrink-shrunk-requires
shrink-shrunk-requires g t c κs within =
    let cmp = g.T.Ranked.rank in
    let node = c.in-Fork.node.value in
    let rising = subst (λ tree. is_rising cmp (items_of tree) ≡ true) c.in-Fork.is c.requires in
    let all : length (items_of node.left ++ node.item ∷ items_of node.right) ≡ t = subst (λ tree. length (items_of tree) ≡ t) c.in-Fork.is c.decreases in
    let is = c.open-left.ensures.left in
    let part : IsTrue (is_rising cmp (items_of c.open-left.result.left)) = rw is (between cmp (items_of node.left) node.item (items_of node.right) rising).left in
    (rw is (omega (arith, all, length-append (items_of node.left) (node.item ∷ items_of node.right))), (search rules, (search rules, part)))

pub shrink-shrunk-requires-in-Greater : goal.shrink-shrunk-requires-in-Greater
shrink-shrunk-requires-in-Greater g t c κs within =
    let cmp = g.T.Ranked.rank in
    let node = c.in-Fork.node.value in
    let rising = subst (λ tree. is_rising cmp (items_of tree) ≡ true) c.in-Fork.is c.requires in
    let all : length (items_of node.left ++ node.item ∷ items_of node.right) ≡ t = subst (λ tree. length (items_of tree) ≡ t) c.in-Fork.is c.decreases in
    let is = c.open-left.ensures.right in
    let part : IsTrue (is_rising cmp (items_of c.open-left.result.right)) = rw is (between cmp (items_of node.left) node.item (items_of node.right) rising).right in
    (rw is (omega (arith, all, length-append (items_of node.left) (node.item ∷ items_of node.right))), (search rules, (search rules, part)))

pub returns-in-Less-clause-items : goal.returns-in-Less-clause-items
returns-in-Less-clause-items g t c =
    let cmp = g.T.Ranked.rank in
    let x = g.P.Probe.stands_for c.args.probe.now in
    let node = c.in-Fork.node.value in
    let rising : is_rising cmp (items_of node.left ++ node.item ∷ items_of node.right) ≡ true = subst (λ tree. is_rising cmp (items_of tree) ≡ true) c.in-Fork.is c.requires in
    let e : cmp x node.item ≡ Less = search rules in
    let whole = left_out-less g.met.T.Ranked.total x (items_of node.left) node.item (items_of node.right) rising e in
    search rules

pub returns-in-Less-clause-out : goal.returns-in-Less-clause-out
returns-in-Less-clause-out g t c =
    let cmp = g.T.Ranked.rank in
    let x = g.P.Probe.stands_for c.args.probe.now in
    let node = c.in-Fork.node.value in
    let rising : is_rising cmp (items_of node.left ++ node.item ∷ items_of node.right) ≡ true = subst (λ tree. is_rising cmp (items_of tree) ≡ true) c.in-Fork.is c.requires in
    let e : cmp x node.item ≡ Less = search rules in
    let whole = found-less g.met.T.Ranked.total x (items_of node.left) node.item (items_of node.right) rising e in
    search rules

pub returns-in-Equal-clause-items : goal.returns-in-Equal-clause-items
returns-in-Equal-clause-items g t c =
    let cmp = g.T.Ranked.rank in
    let x = g.P.Probe.stands_for c.args.probe.now in
    let node = c.in-Fork.node.value in
    let rising : is_rising cmp (items_of node.left ++ node.item ∷ items_of node.right) ≡ true = subst (λ tree. is_rising cmp (items_of tree) ≡ true) c.in-Fork.is c.requires in
    let e : cmp x node.item ≡ Equal = search rules in
    let whole = left_out-equal g.met.T.Ranked.total x (items_of node.left) node.item (items_of node.right) rising e in
    search rules

pub returns-in-Equal-clause-out : goal.returns-in-Equal-clause-out
returns-in-Equal-clause-out g t c =
    let cmp = g.T.Ranked.rank in
    let x = g.P.Probe.stands_for c.args.probe.now in
    let node = c.in-Fork.node.value in
    let rising : is_rising cmp (items_of node.left ++ node.item ∷ items_of node.right) ≡ true = subst (λ tree. is_rising cmp (items_of tree) ≡ true) c.in-Fork.is c.requires in
    let e : cmp x node.item ≡ Equal = search rules in
    let whole = found-equal g.met.T.Ranked.total x (items_of node.left) node.item (items_of node.right) rising e in
    search rules

pub returns-in-Greater-clause-items : goal.returns-in-Greater-clause-items
returns-in-Greater-clause-items g t c =
    let cmp = g.T.Ranked.rank in
    let x = g.P.Probe.stands_for c.args.probe.now in
    let node = c.in-Fork.node.value in
    let rising : is_rising cmp (items_of node.left ++ node.item ∷ items_of node.right) ≡ true = subst (λ tree. is_rising cmp (items_of tree) ≡ true) c.in-Fork.is c.requires in
    let e : cmp x node.item ≡ Greater = search rules in
    let whole = left_out-greater g.met.T.Ranked.total x (items_of node.left) node.item (items_of node.right) rising e in
    search rules

pub returns-in-Greater-clause-out : goal.returns-in-Greater-clause-out
returns-in-Greater-clause-out g t c =
    let cmp = g.T.Ranked.rank in
    let x = g.P.Probe.stands_for c.args.probe.now in
    let node = c.in-Fork.node.value in
    let rising : is_rising cmp (items_of node.left ++ node.item ∷ items_of node.right) ≡ true = subst (λ tree. is_rising cmp (items_of tree) ≡ true) c.in-Fork.is c.requires in
    let e : cmp x node.item ≡ Greater = search rules in
    let whole = found-greater g.met.T.Ranked.total x (items_of node.left) node.item (items_of node.right) rising e in
    search rules
