use Rattle.dkv_files.proofs.Resting.{both, one}
use Rattle.dkv_files.proofs.rest.both_to_rest.Goals as goal

pub returns-in-Ok-clause-moves : goal.returns-in-Ok-clause-moves
returns-in-Ok-clause-moves g c =
    both g.D.Disk.may_leave g.D.Disk.moment g.D.Disk.left_since c.args.pair.now.a c.args.pair.now.b c.bring_to_rest.new.disk c.bring_to_rest-in-Ok.new.disk
    c.bring_to_rest.ensures.leaves c.bring_to_rest.ensures.crash c.bring_to_rest-in-Ok.ensures.leaves c.bring_to_rest-in-Ok.ensures.crash

pub returns-in-Err-clause-moves : goal.returns-in-Err-clause-moves
returns-in-Err-clause-moves g c =
    one g.D.Disk.may_leave g.D.Disk.moment g.D.Disk.left_since c.args.pair.now.a c.args.pair.now.b c.bring_to_rest.new.disk c.bring_to_rest.ensures.leaves c.bring_to_rest.ensures.crash
