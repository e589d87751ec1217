use Rattle.dkv_app.proofs.Idle.{undrawn_creates}
use Rattle.dkv_app.proofs.creating.run_create.Goals as goal

pub returns-in-Err-clause-creates : goal.returns-in-Err-clause-creates
returns-in-Err-clause-creates g c =
    undrawn_creates g.D.Disk.seen g.D.Disk.may_leave g.D.Disk.moment g.D.Disk.left_since
    g.K.Sink.held c.args.sink.now (g.R.Random.stream c.args.random.now) (g.R.Random.stream c.draw.new.random) c.args.pair.now.a c.args.pair.now.b
