use Rattle.std.proofs.Common.{ℕ, ◌≤◌, length, take, sym, subst}
use Rattle.std.specs.Io.KnownBytes.{Appends}
use Rattle.std.proofs.KnownBytes.{Appends-kept}
use Rattle.dkv_net.proofs.Pieces.{appended_more, ends_within}
use Rattle.dkv_net.proofs.sink.put.Goals.{in-Ok-write, in-Err-write+else-ne}
use Rattle.dkv_net.proofs.sink.put.Goals as goal

pub loop-preserved : goal.loop-preserved
loop-preserved g c =
    let bytes = c.args.bytes.now in
    let at = c.loop.at in
    let a = g.W.Write.contents c.args.writer.now in
    let b = g.W.Write.contents c.loop.writer in
    let d = g.W.Write.contents c.write.new.self in
    let (early, before) = c.loop.invariant in
    elim c.match-write.branch [
      | in-Ok-write w ↦
          let n = w.in-Ok-write.n in
          subst (λ (k : ℕ). (k ≤ length bytes) × Appends a d (take k bytes)) (sym w.at-is)
          (ends_within bytes at n early w.in-Ok-write.ensures.bound, appended_more a b d bytes at n before w.in-Ok-write.ensures.bytes)
      | in-Err-write+else-ne w ↦
          subst (λ (k : ℕ). (k ≤ length bytes) × Appends a d (take k bytes)) (sym w.at-is)
          (early, Appends-kept a b d (take at bytes) before w.in-Err-write.ensures.bytes)
    ]
