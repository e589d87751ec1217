use Rattle.std.proofs.Common.{◌≡◌, ◌≤◌, count_by, take}
use Rattle.dkv_core.specs.Cores.{ends}
use Rattle.dkv_core.proofs.put.count_endings.Given as goal

abbrev pub invariant-loop-put : goal.invariant-loop-put
invariant-loop-put l = (l.count ≡ count_by ends (take l.put-index l.puts)) × (l.count ≤ l.put-index)
