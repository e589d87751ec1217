use Rattle.std.proofs.Common.{sym, ◌∙◌}
use Rattle.dkv_atomic.proofs.Visible.{absent, still_there, ended}
use Rattle.dkv_hub.proofs.frames.seen_at.Goals as goal

pub returns-in-None : goal.returns-in-None
returns-in-None g c = absent c.args.at c.args.key.now (g.T.Table.content c.args.table.now) (g.met.T.Table.ordered c.args.table.now) c.in-None.ensures

pub returns-then-is_visible : goal.returns-then-is_visible
returns-then-is_visible g c =
    still_there c.args.at c.args.key.now (g.T.Table.content c.args.table.now) (g.met.T.Table.ordered c.args.table.now) c.in-Some.entry.now c.in-Some.ensures (sym c.is_visible.ensures ∙ c.if-is_visible.true)

pub returns-else-is_visible : goal.returns-else-is_visible
returns-else-is_visible g c =
    ended c.args.at c.args.key.now (g.T.Table.content c.args.table.now) (g.met.T.Table.ordered c.args.table.now) c.in-Some.entry.now c.in-Some.ensures (sym c.is_visible.ensures ∙ c.if-is_visible.false)
