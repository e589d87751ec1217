use Rattle.std.proofs.Common.{rules, arith, length, length-append, ◌≡◌, ◌∷◌, ◌++◌, IsTrue, true, subst}
use Rattle.std.specs.declared.cmp.Ordering.TheVariants.{Less, Equal, Greater}
use Rattle.dkv_base.specs.Ordered.{is_rising}
use Rattle.dkv_index.specs.Trees.{items_of}
use Rattle.dkv_index.proofs.Sides.{between, put_in-less, put_in-equal, put_in-greater, found-less, found-equal, found-greater}
use Rattle.dkv_index.proofs.changes.+grow.Goals as goal

-- a side has fewer items than the tree, and they rise
pub grow-grown-requires : goal.grow-grown-requires
grow-grown-requires g t c κs within =
    let cmp = g.T.Ranked.rank in
    let node = c.in-Fork.node.value in
    let rising = subst (λ tree. is_rising cmp (items_of tree) ≡ true) c.in-Fork.is c.requires in
    let all : length (items_of node.left ++ node.item ∷ items_of node.right) ≡ t = subst (λ tree. length (items_of tree) ≡ t) c.in-Fork.is c.decreases in
    let is = c.open-left.ensures.left in
    let part : IsTrue (is_rising cmp (items_of c.open-left.result.left)) = rw is (between cmp (items_of node.left) node.item (items_of node.right) rising).left in
    (rw is (omega (arith, all, length-append (items_of node.left) (node.item ∷ items_of node.right))), (search rules, part))

pub grow-grown-requires-in-Greater : goal.grow-grown-requires-in-Greater
grow-grown-requires-in-Greater g t c κs within =
    let cmp = g.T.Ranked.rank in
    let node = c.in-Fork.node.value in
    let rising = subst (λ tree. is_rising cmp (items_of tree) ≡ true) c.in-Fork.is c.requires in
    let all : length (items_of node.left ++ node.item ∷ items_of node.right) ≡ t = subst (λ tree. length (items_of tree) ≡ t) c.in-Fork.is c.decreases in
    let is = c.open-left-in-Greater.ensures.right in
    let part : IsTrue (is_rising cmp (items_of c.open-left-in-Greater.result.right)) = rw is (between cmp (items_of node.left) node.item (items_of node.right) rising).right in
    (rw is (omega (arith, all, length-append (items_of node.left) (node.item ∷ items_of node.right))), (search rules, part))

pub returns-in-Less-clause-items : goal.returns-in-Less-clause-items
returns-in-Less-clause-items g t c =
    let cmp = g.T.Ranked.rank in
    let x = c.args.new.value.item in
    let node = c.in-Fork.node.value in
    let rising : is_rising cmp (items_of node.left ++ node.item ∷ items_of node.right) ≡ true = subst (λ tree. is_rising cmp (items_of tree) ≡ true) c.in-Fork.is c.requires in
    let e : cmp x node.item ≡ Less = search rules in
    let whole = put_in-less g.met.T.Ranked.total x (items_of node.left) node.item (items_of node.right) rising e in
    search rules

pub returns-in-Less-clause-over : goal.returns-in-Less-clause-over
returns-in-Less-clause-over g t c =
    let cmp = g.T.Ranked.rank in
    let x = c.args.new.value.item in
    let node = c.in-Fork.node.value in
    let rising : is_rising cmp (items_of node.left ++ node.item ∷ items_of node.right) ≡ true = subst (λ tree. is_rising cmp (items_of tree) ≡ true) c.in-Fork.is c.requires in
    let e : cmp x node.item ≡ Less = search rules in
    let whole = found-less g.met.T.Ranked.total x (items_of node.left) node.item (items_of node.right) rising e in
    search rules

pub returns-in-Equal-clause-items : goal.returns-in-Equal-clause-items
returns-in-Equal-clause-items g t c =
    let cmp = g.T.Ranked.rank in
    let x = c.args.new.value.item in
    let node = c.in-Fork.node.value in
    let rising : is_rising cmp (items_of node.left ++ node.item ∷ items_of node.right) ≡ true = subst (λ tree. is_rising cmp (items_of tree) ≡ true) c.in-Fork.is c.requires in
    let e : cmp x node.item ≡ Equal = search rules in
    let whole = put_in-equal g.met.T.Ranked.total x (items_of node.left) node.item (items_of node.right) rising e in
    search rules

pub returns-in-Equal-clause-over : goal.returns-in-Equal-clause-over
returns-in-Equal-clause-over g t c =
    let cmp = g.T.Ranked.rank in
    let x = c.args.new.value.item in
    let node = c.in-Fork.node.value in
    let rising : is_rising cmp (items_of node.left ++ node.item ∷ items_of node.right) ≡ true = subst (λ tree. is_rising cmp (items_of tree) ≡ true) c.in-Fork.is c.requires in
    let e : cmp x node.item ≡ Equal = search rules in
    let whole = found-equal g.met.T.Ranked.total x (items_of node.left) node.item (items_of node.right) rising e in
    search rules

pub returns-in-Greater-clause-items : goal.returns-in-Greater-clause-items
returns-in-Greater-clause-items g t c =
    let cmp = g.T.Ranked.rank in
    let x = c.args.new.value.item in
    let node = c.in-Fork.node.value in
    let rising : is_rising cmp (items_of node.left ++ node.item ∷ items_of node.right) ≡ true = subst (λ tree. is_rising cmp (items_of tree) ≡ true) c.in-Fork.is c.requires in
    let e : cmp x node.item ≡ Greater = search rules in
    let whole = put_in-greater g.met.T.Ranked.total x (items_of node.left) node.item (items_of node.right) rising e in
    search rules

pub returns-in-Greater-clause-over : goal.returns-in-Greater-clause-over
returns-in-Greater-clause-over g t c =
    let cmp = g.T.Ranked.rank in
    let x = c.args.new.value.item in
    let node = c.in-Fork.node.value in
    let rising : is_rising cmp (items_of node.left ++ node.item ∷ items_of node.right) ≡ true = subst (λ tree. is_rising cmp (items_of tree) ≡ true) c.in-Fork.is c.requires in
    let e : cmp x node.item ≡ Greater = search rules in
    let whole = found-greater g.met.T.Ranked.total x (items_of node.left) node.item (items_of node.right) rising e in
    search rules
