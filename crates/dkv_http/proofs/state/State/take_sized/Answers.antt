use Rattle.std.proofs.Common.{ap, arith}
use Rattle.dkv_http.specs.declared.phases.Phase.TheVariants as phase
use Rattle.dkv_http.proofs.Stepping.{as_phase, sized_done}
use Rattle.dkv_http.proofs.state.State.take_sized.Goals as goal

pub returns-then-n-need-clause-holds : goal.returns-then-n-need-clause-holds
returns-then-n-need-clause-holds c held x =
    sized_done c.args.self.now c.args.need c.min-n.result c.args.bytes.now c.extend.new.self.bytes held (as_phase (phase.Sized c.args.need) c.args.self.now held c.requires.phase x)
    c.if-n-need.true (omega (arith, c.min-n.ensures)) (ap (λ f. f.bytes) c.extend.ensures)
