use Rattle.std.proofs.Common.{length}
use Rattle.dkv_index.specs.Trees.{items_of}
use Rattle.dkv_index.proofs.changes.+grow.Given as goal

abbrev pub decreases-grow : goal.decreases-grow
decreases-grow g l = length (items_of l.tree)
