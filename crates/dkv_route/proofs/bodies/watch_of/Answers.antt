use Rattle.dkv_route.specs.Access.{watch}
use Rattle.dkv_route.proofs.Refused.{watch_refused}
use Rattle.dkv_route.proofs.bodies.watch_of.Goals as goal

pub returns-in_err-request-clause-wanted : goal.returns-in_err-request-clause-wanted
returns-in_err-request-clause-wanted c = watch_refused c.args.body.now c.in_err-request.field-0.0 watch c.from_residual.result c.in_err-request.ensures.request c.from_residual.ensures.1
