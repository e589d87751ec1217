use Rattle.std.proofs.Common.{◌≡◌, true, sym, ap, ◌∙◌}
use Rattle.dkv_base.specs.State.{entry_at, visible, is_in_key_order}
use Rattle.dkv_atomic.specs.Overlays.{Changes}
use Rattle.dkv_atomic.proofs.Overlaid.{found_put}
use Rattle.dkv_atomic.proofs.overlay.Overlay.found.Goals as goal

pub returns-in-Some : goal.returns-in-Some
returns-in-Some g c =
    let order : is_in_key_order c.args.self.now.puts ≡ true = ap (λ (v : Changes). is_in_key_order v.puts) (sym c.self.view_is) ∙ c.self.inside.puts.ordered in
    found_put c.args.key.now c.args.self.now (visible c.args.at (g.T.Table.content c.args.table.now)) order c.in-Some.entry.now
    (c.in-Some.ensures ∙ ap (λ (v : Changes). entry_at c.args.key.now v.puts) c.self.view_is)
