use Rattle.std.proofs.Common.{sym, arith}
use Rattle.dkv_hub.proofs.KeyFrames.{more_changed}
use Rattle.dkv_hub.proofs.frames.is_some_new.Goals as goal

pub returns-then-is_new : goal.returns-then-is_new
returns-then-is_new g c =
    let step = more_changed _ c.args.keys.now c.args.last.now c.loop-key.key-index c.loop-key.place c.key-item.result _ c.is_new.result c.loop-key.invariant.rest c.loop-key.invariant.place (omega arith) c.key-item.is (rw c.as_slice.ensures at c.seen_at-found.ensures) c.is_new.ensures in
    sym (rw c.if-is_new.true at step)

pub loop-key-preserved : goal.loop-key-preserved
loop-key-preserved g c =
    let step = more_changed _ c.args.keys.now c.args.last.now c.loop-key.key-index c.loop-key.place c.key-item.result _ c.is_new.result c.loop-key.invariant.rest c.loop-key.invariant.place (omega arith) c.key-item.is (rw c.as_slice.ensures at c.seen_at-found.ensures) c.is_new.ensures in
    record {
      rest = rw c.if-is_new.false at step;
      place = omega arith;
    }
