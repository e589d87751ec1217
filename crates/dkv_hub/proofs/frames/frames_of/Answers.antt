use Rattle.std.proofs.Common.{arith}
use Rattle.dkv_hub.proofs.KeyFrames.{more_frames}
use Rattle.dkv_hub.proofs.frames.frames_of.Goals as goal

pub loop-key-preserved : goal.loop-key-preserved
loop-key-preserved g c = record {
  run = more_frames _ c.args.keys.now c.args.last.now c.loop-key.key-index c.loop-key.place c.loop-key.frames c.add.new.self c.in_ok-key_frame.field-0 c.key-item.result _ c.is_new-changed.result c.loop-key.invariant.run c.loop-key.invariant.place (omega arith) c.key-item.is (rw c.as_slice.ensures at c.seen_at-found.ensures) c.is_new-changed.ensures c.in_ok-key_frame.ensures c.in_ok-add.ensures.ok;
  place = omega arith;
}
