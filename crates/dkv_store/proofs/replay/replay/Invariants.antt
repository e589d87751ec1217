use Rattle.dkv_store.proofs.Replaying.{Replaying}
use Rattle.dkv_store.proofs.replay.replay.Given as goal

abbrev pub invariant-loop-body : goal.invariant-loop-body
invariant-loop-body l = Replaying l.bodies l.body-index l.at l.core
