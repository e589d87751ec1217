use Rattle.std.proofs.Common.{◌≡◌, take}
use Rattle.dkv_base.specs.Messages.{made_from}
use Rattle.dkv_core.proofs.enqueued.messages_made.Given as goal

abbrev pub invariant-loop-enqueue : goal.invariant-loop-enqueue
invariant-loop-enqueue l = (l.messages ≡ made_from l.n 0 (take l.enqueue-index l.enqueues)) × (l.index ≡ l.enqueue-index)
