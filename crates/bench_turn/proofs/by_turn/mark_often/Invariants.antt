-- The pass stays free through the rounds.
use Rattle.dkv_turn.specs.Passes.{Same}
use Rattle.bench_turn.specs.Free.{IsFree}
use Rattle.bench_turn.proofs.by_turn.mark_often.Given as goal

abbrev pub invariant-loop : goal.invariant-loop
invariant-loop g l = IsFree l.turn l.pass × Same l.initial.pass l.pass
