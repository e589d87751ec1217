use Rattle.std.proofs.Common.{◌≡◌, ◌++◌, take}
use Rattle.dkv_key.specs.Parts.{escaped}
use Rattle.dkv_key.proofs.writing.put_text.Given as goal

abbrev pub invariant-loop-byte : goal.invariant-loop-byte
invariant-loop-byte l = l.out.items ≡ l.initial.out.items ++ escaped (take l.byte-index l.text)
