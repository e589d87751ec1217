use Rattle.std.proofs.Common.{◌≡◌, map, take}
use Rattle.dkv_base.specs.Replies.{read_range}
use Rattle.dkv_base.specs.State.{visible}
use Rattle.dkv_core.specs.Found.{entries_of}
use Rattle.dkv_core.proofs.reading.find_all.Given as goal

abbrev pub invariant-loop-range : goal.invariant-loop-range
invariant-loop-range g l = map entries_of l.found ≡ map (read_range (visible l.at (g.T.Table.content l.table))) (take l.range-index l.ranges)
