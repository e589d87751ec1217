use Rattle.std.proofs.Common.{ap, ◌∙◌}
use Rattle.std.specs.Prelude.{pos}
use Rattle.dkv_base.specs.declared.types.Entry.{Entry}
use Rattle.dkv_base.specs.State.{put, without}
use Rattle.dkv_atomic.specs.Overlays.{Changes, is_apart}
use Rattle.dkv_atomic.proofs.Apart.{apart-gone}
use Rattle.dkv_atomic.proofs.overlay.Overlay.remove.Goals as goal

pub invariant_of-self-2 : goal.invariant_of-self-2
invariant_of-self-2 c =
    let before : Changes = record { puts = c.self.inside.puts.entries.items; gone = c.self.inside.gone.entries.items } in
    let e : Entry = record { key = c.args.key; bytes = c.of.result; encoding = pos 0; commit = 0; expire = 0 } in
    let puts = c.remove.ensures.content ∙ ap (λ k. without k before.puts) c.as_slice.ensures in
    let gone = c.put.ensures.content ∙ ap (put e) c.reserve.ensures.content in
    (λ i. is_apart (puts i) (gone i)) ∙ apart-gone e before c.self.invariant
