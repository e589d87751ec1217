use Rattle.std.proofs.Common.{◌≡◌, ◌≤◌, None, length}
use Rattle.dkv_base.specs.Trails.{first_stop}
use Rattle.dkv_pipe.specs.Running.{Running, IsEarlyNumber, to_do}
use Rattle.dkv_pipe.proofs.pipe.run_pipe.Given as goal

abbrev pub invariant-loop-end : goal.invariant-loop-end
invariant-loop-end g l =
    Running g.D.Disk.seen g.D.Disk.may_leave g.D.Disk.faults g.D.Disk.moment g.D.Disk.left_since l.fn.summary l.fn.store
    (record { left = g.S.Source.left l.fn.source; ended = g.S.Source.ended l.fn.source; held = g.K.Sink.held l.fn.sink })
    (record { left = g.S.Source.left l.source; ended = g.S.Source.ended l.source; held = g.K.Sink.held l.sink })
    l.pipe.store l.pipe.input l.pipe.at l.pipe.frames
    × IsEarlyNumber l.pipe.store.core.state.number l.pipe.at
    × (l.pipe.frames ≤ l.pipe.at)
    × (g.S.Source.faults l.fn.source ≤ g.S.Source.faults l.source)
    × (g.K.Sink.faults l.fn.sink ≤ g.K.Sink.faults l.sink)
    × (first_stop l.pipe.store.trail ≡ None)

abbrev pub decreases-loop-end : goal.decreases-loop-end
decreases-loop-end g l = to_do l.pipe.at (length l.pipe.input)
