use Rattle.std.proofs.Common.{◌≡◌, map, take}
use Rattle.dkv_base.specs.After.{payload_entry}
use Rattle.dkv_core.proofs.enqueued.payload_entries.Given as goal

abbrev pub invariant-loop-key : goal.invariant-loop-key
invariant-loop-key l = l.entries ≡ map (payload_entry l.message l.n) (take l.key-index l.keys)
