use Rattle.std.proofs.Common.{length}
use Rattle.dkv_index.specs.Trees.{items_of}
use Rattle.dkv_index.proofs.changes.+shrink.Given as goal

abbrev pub decreases-shrink : goal.decreases-shrink
decreases-shrink g l = length (items_of l.tree)
