use Rattle.std.proofs.Common.{ap, ◌∙◌}
use Rattle.dkv_base.specs.State.{put, without}
use Rattle.dkv_atomic.specs.Overlays.{Changes, is_apart}
use Rattle.dkv_atomic.proofs.Apart.{apart-put}
use Rattle.dkv_atomic.proofs.overlay.Overlay.put.Goals as goal

pub invariant_of-self-2 : goal.invariant_of-self-2
invariant_of-self-2 c =
    let before : Changes = record { puts = c.self.inside.puts.entries.items; gone = c.self.inside.gone.entries.items } in
    let puts = c.put.ensures.content ∙ ap (put c.args.entry) c.reserve.ensures.content in
    let gone = c.remove.ensures.content ∙ ap (λ k. without k before.gone) c.as_slice.ensures in
    (λ i. is_apart (puts i) (gone i)) ∙ apart-put c.args.entry before c.self.invariant
