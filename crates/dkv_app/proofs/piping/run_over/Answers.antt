use Rattle.std.proofs.Common.{inl, inr, refl}
use Rattle.dkv_app.proofs.OverFiles.{over_pipes}
use Rattle.dkv_app.proofs.piping.run_over.Goals as goal

pub returns-in-Ok : goal.returns-in-Ok
returns-in-Ok g c =
    let opening = c.in-Ok.ensures in
    let ran = c.run_pipe-end.ensures in
    inr (over_pipes g.D.Disk.seen g.D.Disk.may_leave g.D.Disk.faults g.D.Disk.moment g.D.Disk.left_since
    c.of.result c.args.trail c.args.summary c.run_pipe-end.result.0 _ _ _ _ c.args.pair.a c.args.pair.b c.in-Ok.store c.run_pipe-end.result.1 c.close.result.a c.close.result.b
    c.close.ensures.a c.close.ensures.b c.of.ensures opening.opened opening.begins opening.limited opening.number c.is_kept.ensures.kept.sound opening.told opening.later opening.moves_ok
    ran.run ran.cause ran.complete c.is_kept-in-Ok.ensures.stands)

pub returns-in-Err : goal.returns-in-Err
returns-in-Err g c = inl (record {
  unopened = λ fa fb told_a told_b. c.in-Err.ensures.refused fa fb told_a told_b;
  cause = c.in-Err.ensures.cause;
  moves = c.in-Err.ensures.moves_err;
  unread = (refl, refl);
})
