use Rattle.std.proofs.Common.{◌≡◌, ⊎_elim, arith}
use Rattle.dkv_app.proofs.Piped.{new_pipes, nothing_ran, starts}
use Rattle.dkv_app.proofs.piping.run_new.Goals as goal

pub returns-in-Ok : goal.returns-in-Ok
returns-in-Ok g c =
    let run = c.run_pipe-end.ensures.run in
    let within = run.reaches.marked (omega arith) (omega arith) in
    new_pipes _ _ _ _ _ _ _ _ _ _ run.course (starts _ _ _ c.in-Ok.store c.in-Ok.ensures) c.of.ensures run.ran (omega (arith, within)) c.run_pipe-end.ensures.cause
    c.run_pipe-end.ensures.complete (λ rose. ⊎_elim (λ a. omega (arith, a)) (λ b. omega (arith, b)) rose)

pub returns-in-Err : goal.returns-in-Err
returns-in-Err g c = nothing_ran _ _ _ _ _ _ c.of-in-Err.ensures
