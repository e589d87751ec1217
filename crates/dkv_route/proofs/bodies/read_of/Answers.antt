use Rattle.dkv_route.specs.Access.{read}
use Rattle.dkv_route.proofs.Refused.{read_refused}
use Rattle.dkv_route.proofs.bodies.read_of.Goals as goal

pub returns-in_err-request-clause-wanted : goal.returns-in_err-request-clause-wanted
returns-in_err-request-clause-wanted c = read_refused c.args.body.now c.in_err-request.field-0.0 read c.from_residual.result c.in_err-request.ensures.request c.from_residual.ensures.1
