-- Each thread has one other fewer to start.
use Rattle.std.proofs.Common.{◌-◌, ◌*◌}
use Rattle.bench_turn.proofs.by_mutex.+fn-mark_in_threads-join+arg2+mark_in_threads.Given as goal

abbrev pub decreases-join+arg2 : goal.decreases-join+arg2
decreases-join+arg2 g l = 2 * l.others - 1

abbrev pub decreases-mark_in_threads : goal.decreases-mark_in_threads
decreases-mark_in_threads g l = 2 * l.others
