use Rattle.std.proofs.Common.{◌≡◌, take}
use Rattle.dkv_core.specs.Found.{entries_of}
use Rattle.dkv_core.proofs.reading.copies_of.Given as goal

abbrev pub invariant-loop-entry : goal.invariant-loop-entry
invariant-loop-entry l = l.entries ≡ entries_of (take l.entry-index l.found)
