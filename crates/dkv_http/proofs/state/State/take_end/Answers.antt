use Rattle.std.proofs.Common.{ap, ◌∙◌, true, false}
use Rattle.dkv_http.specs.declared.phases.Phase.TheVariants as phase
use Rattle.dkv_http.proofs.Stepping.{as_phase, fits_as, end_done, end_no_lf, end_no_cr}
use Rattle.dkv_http.proofs.state.State.take_end.Goals as goal

pub returns-then-byte-eq10-clause-holds : goal.returns-then-byte-eq10-clause-holds
returns-then-byte-eq10-clause-holds c held x =
    let e = c.requires.phase ∙ ap phase.End c.if-cr.true in
    end_done c.args.self.now c.args.byte held (as_phase (phase.End true) c.args.self.now held e x) (fits_as (phase.End true) c.args.self.now e c.requires.fits).1 c.if-byte-eq10.true

pub returns-else-byte-eq10-clause-holds : goal.returns-else-byte-eq10-clause-holds
returns-else-byte-eq10-clause-holds c held x =
    let e = c.requires.phase ∙ ap phase.End c.if-cr.true in
    end_no_lf c.args.self.now c.args.byte held (as_phase (phase.End true) c.args.self.now held e x) c.if-byte-eq10.false

pub returns-else-byte-eq13-clause-holds : goal.returns-else-byte-eq13-clause-holds
returns-else-byte-eq13-clause-holds c held x =
    let e = c.requires.phase ∙ ap phase.End c.if-cr.false in
    end_no_cr c.args.self.now c.args.byte held (as_phase (phase.End false) c.args.self.now held e x) c.if-byte-eq13.false
