use Rattle.std.proofs.Common.{rules, arith, ◌≡◌, ◌+◌, ◌<◌, ◌^◌, length, Some, None, ap}
use Rattle.dkv_base.specs.Ordered.{found, put_in}
use Rattle.dkv_index.specs.Trees.{items_of}
use Rattle.dkv_index.proofs.Counts.{length-put_in}
use Rattle.dkv_base.proofs.Risings.{rising-put_in}
use Rattle.dkv_index.proofs.index.Index.put.Goals as goal

pub overflow_add-self : goal.overflow_add-self
overflow_add-self g c =
    let kept = c.self.invariant in
    let node = c.node_of-node.ensures in
    let fits : c.self.inside.count + 1 < 2 ^ 64 = omega (arith, kept.roomy, node.ready, node.places, node.bound) in
    search rules

-- an item went into the place of another, whose node is kept
pub invariant_of-self : goal.invariant_of-self
invariant_of-self g c =
    let cmp = g.T.Ranked.rank in
    let o = g.met.T.Ranked.total in
    let ys = items_of c.self.inside.tree in
    let kept = c.self.invariant in
    let node = c.node_of-node.ensures in
    let items : items_of c.grow-grown.result.tree ≡ put_in cmp c.args.item ys = search rules in
    let over : found cmp c.args.item ys ≡ Some c.in-Some.node.value.item = search rules in
    let sum = length-put_in o c.args.item ys kept.rising in
    let count = rw over at sum in
    record {
      rising = rw items (rising-put_in o c.args.item ys kept.rising);
      counted = omega (arith, kept.counted, count, ap length items);
      roomy = omega (arith, kept.roomy, node.ready, node.places, c.item_of.ensures.ready, c.item_of.ensures.places);
    }

-- the item is new, and its node comes from the pool
pub invariant_of-self-in-None : goal.invariant_of-self-in-None
invariant_of-self-in-None g c =
    let cmp = g.T.Ranked.rank in
    let o = g.met.T.Ranked.total in
    let ys = items_of c.self.inside.tree in
    let kept = c.self.invariant in
    let node = c.node_of-node.ensures in
    let items : items_of c.grow-grown.result.tree ≡ put_in cmp c.args.item ys = search rules in
    let over : found cmp c.args.item ys ≡ None = search rules in
    let sum = length-put_in o c.args.item ys kept.rising in
    let count = rw over at sum in
    record {
      rising = rw items (rising-put_in o c.args.item ys kept.rising);
      counted = omega (arith, kept.counted, count, ap length items);
      roomy = omega (arith, kept.roomy, node.ready, node.places);
    }
