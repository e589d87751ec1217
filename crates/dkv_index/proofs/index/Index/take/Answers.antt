use Rattle.std.proofs.Common.{rules, arith, ◌≡◌, length, Some, None, ap, ◌∙◌}
use Rattle.dkv_base.specs.Ordered.{found, left_out}
use Rattle.dkv_index.specs.Trees.{items_of}
use Rattle.dkv_index.proofs.Counts.{length-left_out, left_out-absent}
use Rattle.dkv_base.proofs.Risings.{rising-left_out}
use Rattle.dkv_index.proofs.index.Index.take.Goals as goal

-- the item's node goes back to the pool
pub invariant_of-self : goal.invariant_of-self
invariant_of-self g c =
    let cmp = g.T.Ranked.rank in
    let o = g.met.T.Ranked.total in
    let x = g.P.Probe.stands_for c.args.probe.now in
    let ys = items_of c.self.inside.tree in
    let kept = c.self.invariant in
    let items : items_of c.shrink-shrunk.result.tree ≡ left_out cmp x ys = search rules in
    let out : found cmp x ys ≡ Some c.in-Some.node.value.item = search rules in
    let sum = length-left_out o x ys kept.rising in
    let count = rw out at sum in
    record {
      rising = rw items (rising-left_out cmp x ys kept.rising);
      counted = omega (arith, kept.counted, count, ap length items);
      roomy = omega (arith, kept.roomy, kept.counted, count, c.item_of.ensures.ready, c.item_of.ensures.places);
    }

pub invariant_of-self-in-None : goal.invariant_of-self-in-None
invariant_of-self-in-None g c =
    let cmp = g.T.Ranked.rank in
    let o = g.met.T.Ranked.total in
    let x = g.P.Probe.stands_for c.args.probe.now in
    let ys = items_of c.self.inside.tree in
    let kept = c.self.invariant in
    let items : items_of c.shrink-shrunk.result.tree ≡ left_out cmp x ys = search rules in
    let out : found cmp x ys ≡ None = search rules in
    let same = items ∙ left_out-absent o x ys out in
    record { rising = rw same kept.rising; counted = omega (arith, kept.counted, ap length same); roomy = kept.roomy }
