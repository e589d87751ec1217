use Rattle.std.proofs.Common.{◌≡◌, take}
use Rattle.std.specs.List.{All}
use Rattle.dkv_key.specs.Parts.{FitsPart, key}
use Rattle.dkv_key.proofs.writing.encode.Given as goal

abbrev pub invariant-loop-part : goal.invariant-loop-part
invariant-loop-part l = record { spelled : l.out.items ≡ key (take l.part-index l.parts); fit : All FitsPart (take l.part-index l.parts) }
