use Rattle.std.proofs.Common.{◌≡◌, ℕ, sym, subst, arith}
use Rattle.std.specs.Io.KnownBytes.{Appends}
use Rattle.dkv_generate.specs.Workload.{groups_bytes}
use Rattle.dkv_generate.proofs.Following.{none_taken, one_group_taken}
use Rattle.dkv_generate.proofs.Whole.{front_of_workload, groups_fit, none_written, one_group_written}
use Rattle.dkv_generate.proofs.writing.generate.Goals as goal

pub returns-in_default-clause-memory : goal.returns-in_default-clause-memory
returns-in_default-clause-memory g c = λ is.
    record { groups = 0; some = omega arith; written = none_written c.args.number (g.K.Sink.held c.args.sink.now) }

pub returns-in_default-clause-frames : goal.returns-in_default-clause-frames
returns-in_default-clause-frames g c = groups_fit 4000 c.args.number (omega arith)

pub loop-group-init : goal.loop-group-init
loop-group-init g c = record {
  held = none_written c.args.number (g.K.Sink.held c.args.sink.now);
  last = sym (none_taken c.args.number);
  later = omega arith;
}

pub returns-in-Err-clause-front : goal.returns-in-Err-clause-front
returns-in-Err-clause-front g c =
    front_of_workload c.loop-group.group c.args.number c.loop-group.numbers.last
    (g.K.Sink.held c.args.sink.now) (g.K.Sink.held c.loop-group.sink) (g.K.Sink.held c.write_group.new.sink)
    c.loop-group-test.true c.loop-group.invariant.last c.loop-group.invariant.held c.in-Err.ensures.front

pub returns-in-Err-clause-frames : goal.returns-in-Err-clause-frames
returns-in-Err-clause-frames g c = groups_fit 4000 c.args.number (omega arith)

pub loop-group-preserved : goal.loop-group-preserved
loop-group-preserved g c =
    let k = c.loop-group.group in
    record {
      held =
          one_group_written k c.args.number c.loop-group.numbers.last
          (g.K.Sink.held c.args.sink.now) (g.K.Sink.held c.loop-group.sink) (g.K.Sink.held c.write_group.new.sink)
          c.loop-group.invariant.last c.loop-group.invariant.held c.in_default-write_group.ensures.all;
      last = one_group_taken k c.args.number c.loop-group.numbers.last c.write_group.new.numbers.last c.loop-group.invariant.last c.in_default-write_group.ensures.last;
      later = omega arith;
    }

pub returns-clause-all : goal.returns-clause-all
returns-clause-all g c =
    let all : c.loop-group.group ≡ 4000 = omega arith in
    subst (λ (n : ℕ). Appends (g.K.Sink.held c.args.sink.now) (g.K.Sink.held c.loop-group.sink) (groups_bytes n c.args.number)) all c.loop-group.invariant.held

pub returns-clause-frames : goal.returns-clause-frames
returns-clause-frames g c = groups_fit 4000 c.args.number (omega arith)
