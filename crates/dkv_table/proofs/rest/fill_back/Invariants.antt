use Rattle.std.proofs.Common.{◌≡◌, length}
use Rattle.dkv_table.specs.Rests.{rest_of}
use Rattle.dkv_table.proofs.rest.fill_back.Given as goal

-- the same entries are still to come
abbrev pub invariant-loop-block : goal.invariant-loop-block
invariant-loop-block l = rest_of l.rest ≡ rest_of l.initial.rest

abbrev pub decreases-loop-block : goal.decreases-loop-block
decreases-loop-block l = length l.rest.middle.now
