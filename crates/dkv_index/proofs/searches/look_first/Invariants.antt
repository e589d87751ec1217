use Rattle.std.proofs.Common.{◌≡◌, slice_get}
use Rattle.std.specs.Option.{option_copied, option_or}
use Rattle.dkv_index.specs.Trees.{items_of}
use Rattle.dkv_index.proofs.searches.look_first.Given as goal

-- the first item is in what is left, or is the best so far
abbrev pub invariant-loop-rest : goal.invariant-loop-rest
invariant-loop-rest g l = option_or (slice_get (items_of l.rest) 0) (option_copied l.best) ≡ slice_get (items_of l.tree) 0
