use Rattle.std.proofs.Common.{◌≡◌, ◌++◌, length}
use Rattle.dkv_key.specs.Parts.{escaped}
use Rattle.dkv_key.proofs.reading.text_of.Given as goal

abbrev pub invariant-loop-byte : goal.invariant-loop-byte
invariant-loop-byte l = l.bytes ≡ escaped l.text.items ++ l.rest

abbrev pub decreases-loop-byte : goal.decreases-loop-byte
decreases-loop-byte l = length l.rest
