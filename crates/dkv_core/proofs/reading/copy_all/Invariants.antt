use Rattle.std.proofs.Common.{◌≡◌, map, take}
use Rattle.dkv_core.specs.Found.{entries_of}
use Rattle.dkv_core.proofs.reading.copy_all.Given as goal

abbrev pub invariant-loop-one : goal.invariant-loop-one
invariant-loop-one l = l.all ≡ map entries_of (take l.one-index l.found)
