use Rattle.std.proofs.Common.{ℕ, ◌-◌, ◌≡◌, ◌≤◌, length, drop, sym, subst, arith}
use Rattle.std.proofs.lemmas.List.{length-take}
use borrow.Rule.Slice.PartMut.{put_mid, same_len_mid}
use Rattle.dkv_net.specs.Places.{IsFront}
use Rattle.dkv_net.proofs.Fronts.{read_more, read_kept}
use Rattle.dkv_net.proofs.placed.read_placed.Goals.{in-Ok, in-Err+else-ne}
use Rattle.dkv_net.proofs.placed.read_placed.Goals as goal

pub loop-preserved : goal.loop-preserved
loop-preserved g c =
    let content = g.F.Placed.content c.args.file.now in
    let n = c.loop.n in
    let k = length c.loop.into - n in
    let ys = c.read_some.new.into in
    let whole = put_mid n k c.loop.into ys in
    let (within, before) = c.loop.invariant in
    let size : length whole ≡ length c.loop.into = same_len_mid n k c.loop.into ys c.read_some.auto.into in
    let room : length ys ≤ k = omega (arith, c.read_some.auto.into, length-take k (drop n c.loop.into)) in
    elim c.match-read_some.branch [
      | in-Ok w ↦
          subst (λ (m : ℕ). (m ≤ length whole) × IsFront content c.args.at whole m) (sym w.n-is)
          (omega (arith, w.in-Ok.ensures.room), read_more content c.args.at n k w.in-Ok.more c.loop.into ys within w.in-Ok.ensures.room before w.in-Ok.ensures.front)
      | in-Err+else-ne w ↦
          subst (λ (m : ℕ). (m ≤ length whole) × IsFront content c.args.at whole m) (sym w.n-is)
          (omega arith, read_kept content c.args.at n k c.loop.into ys within before)
    ]
