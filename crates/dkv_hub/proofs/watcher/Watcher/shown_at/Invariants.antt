use Rattle.std.proofs.Common.{◌≡◌, take}
use Rattle.dkv_base.specs.State.{visible}
use Rattle.dkv_hub.specs.Frames.{shows}
use Rattle.dkv_hub.proofs.watcher.Watcher.shown_at.Given as goal

abbrev pub invariant-loop-key : goal.invariant-loop-key
invariant-loop-key g l = l.shown ≡ shows (visible l.at (g.T.Table.content l.table)) (take l.key-index l.key-items)
