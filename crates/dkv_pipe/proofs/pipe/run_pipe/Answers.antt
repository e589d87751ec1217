use Rattle.std.proofs.Common.{◌⊎◌, ℕ, List, sym, subst, arith}
use Rattle.std.specs.Prelude.{count_by}
use Rattle.dkv_io.specs.Causes.{Rose}
use Rattle.dkv_pipe.specs.Courses.{situation_of}
use Rattle.dkv_pipe.specs.Ends.{Streams}
use Rattle.dkv_pipe.specs.Running.{Running}
use Rattle.dkv_pipe.proofs.Complete.{completes, no_marks, rose_from}
use Rattle.dkv_pipe.proofs.Runs.{at_start}
use Rattle.dkv_pipe.proofs.pipe.run_pipe.Goals as goal

pub loop-end-init : goal.loop-end-init
loop-end-init g c =
    let before : Streams = record {
      left = g.S.Source.left c.args.source.now;
      ended = g.S.Source.ended c.args.source.now;
      held = g.K.Sink.held c.args.sink.now;
    } in (
      subst (λ (l : List ℕ). Running g.D.Disk.seen g.D.Disk.may_leave g.D.Disk.faults g.D.Disk.moment g.D.Disk.left_since c.args.summary c.args.store before before c.args.store l 0 0) (sym c.new.ensures) (at_start g.D.Disk.seen g.D.Disk.may_leave g.D.Disk.faults g.D.Disk.moment g.D.Disk.left_since c.args.summary c.args.store before),
      omega (arith, c.requires.few),
      omega arith,
      omega arith,
      omega arith,
      c.requires.unstopped,
    )

pub returns-clause-complete : goal.returns-clause-complete
returns-clause-complete g c = λ frames is no_read no_write no_disk.
    let first = c.args in
    let last = c.step.new in
    let before : Streams = record { left = g.S.Source.left first.source.now; ended = g.S.Source.ended first.source.now; held = g.K.Sink.held first.sink.now } in
    let after : Streams = record { left = g.S.Source.left last.source; ended = g.S.Source.ended last.source; held = g.K.Sink.held last.sink } in
    let runs = c.in-Ends.ensures.run first.store before c.loop-end.invariant.0 in
    completes c.args.summary c.in-Ends.end (situation_of first.store) before after runs.course
    (Rose (g.S.Source.faults c.loop-end.source) (g.S.Source.faults last.source)) (Rose (g.K.Sink.faults c.loop-end.sink) (g.K.Sink.faults last.sink))
    (Rose (g.D.Disk.faults first.store.a) (g.D.Disk.faults last.self.store.a) ⊎ Rose (g.D.Disk.faults first.store.b) (g.D.Disk.faults last.self.store.b))
    runs.ran c.in-Ends.ensures.cause
    (no_marks (count_by (λ mark. mark) runs.course.marks) (g.D.Disk.faults first.store.a) (g.D.Disk.faults last.self.store.a) (g.D.Disk.faults first.store.b) (g.D.Disk.faults last.self.store.b) runs.reaches.marked)
    frames is
    (λ rose. no_read (rose_from (g.S.Source.faults first.source.now) (g.S.Source.faults c.loop-end.source) (g.S.Source.faults last.source) c.loop-end.invariant.3 rose))
    (λ rose. no_write (rose_from (g.K.Sink.faults first.sink.now) (g.K.Sink.faults c.loop-end.sink) (g.K.Sink.faults last.sink) c.loop-end.invariant.4 rose))
    no_disk
