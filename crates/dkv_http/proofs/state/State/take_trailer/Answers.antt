use Rattle.std.proofs.Common.{ap, sym, ◌∙◌, subst, ◌++◌, ◌∷◌, []}
use Rattle.dkv_http.specs.declared.phases.Phase.TheVariants as phase
use Rattle.dkv_http.specs.Holds.{Holds}
use Rattle.dkv_http.proofs.Stepping.{as_phase, trailer_on, trailer_field, trailer_other, trailer_long, trailer_done}
use Rattle.dkv_http.proofs.state.State.take_trailer.Goals as goal

pub returns-in-On-clause-holds : goal.returns-in-On-clause-holds
returns-in-On-clause-holds c held x =
    subst (λ t. Holds t (held ++ c.args.byte ∷ [])) (sym c.wait_trailers.ensures)
    (trailer_on c.args.self.now c.args.at c.args.byte c.push.new.self.bytes held (as_phase (phase.Trailers c.args.at) c.args.self.now held c.requires.phase x) (ap (λ f. f.bytes) c.push.ensures)
    c.in-On.next (sym c.next_line.ensures.next ∙ c.in-On.is))

pub returns-in-Field-clause-holds : goal.returns-in-Field-clause-holds
returns-in-Field-clause-holds c held x =
    subst (λ t. Holds t (held ++ c.args.byte ∷ [])) (sym c.wait_trailers-in-Field.ensures)
    (trailer_field c.args.self.now c.args.at c.args.byte c.push.new.self.bytes held (as_phase (phase.Trailers c.args.at) c.args.self.now held c.requires.phase x) (ap (λ f. f.bytes) c.push.ensures)
    (sym c.next_line.ensures.next ∙ c.in-Field.is))

pub returns-in-Other-clause-holds : goal.returns-in-Other-clause-holds
returns-in-Other-clause-holds c held x =
    trailer_other c.args.self.now c.args.at c.args.byte c.push.new.self.bytes held (as_phase (phase.Trailers c.args.at) c.args.self.now held c.requires.phase x) (ap (λ f. f.bytes) c.push.ensures)
    (sym c.next_line.ensures.next ∙ c.in-Other.is)

pub returns-in-EndCr-clause-holds : goal.returns-in-EndCr-clause-holds
returns-in-EndCr-clause-holds c held x =
    trailer_done c.args.self.now c.args.at c.args.byte c.push.new.self.bytes held (as_phase (phase.Trailers c.args.at) c.args.self.now held c.requires.phase x) (ap (λ f. f.bytes) c.push.ensures)
    (sym c.next_line.ensures.next ∙ c.in-End.is) (λ _. c.in-EndCr.is)

pub returns-in_default-clause-holds : goal.returns-in_default-clause-holds
returns-in_default-clause-holds c held x =
    trailer_long c.args.self.now c.args.at c.args.byte c.push.new.self.bytes held (as_phase (phase.Trailers c.args.at) c.args.self.now held c.requires.phase x) (ap (λ f. f.bytes) c.push.ensures)
    (sym c.next_line.ensures.next ∙ c.in-End.is) (sym c.len.ensures ∙ c.if-len-eq-MAX_TRAILER_SECTION_BYTES.true) c.in_default.not-EndCr

pub returns-else-len-eq-MAX_TRAILER_SECTION_BYTES-clause-holds : goal.returns-else-len-eq-MAX_TRAILER_SECTION_BYTES-clause-holds
returns-else-len-eq-MAX_TRAILER_SECTION_BYTES-clause-holds c held x =
    trailer_done c.args.self.now c.args.at c.args.byte c.push.new.self.bytes held (as_phase (phase.Trailers c.args.at) c.args.self.now held c.requires.phase x) (ap (λ f. f.bytes) c.push.ensures)
    (sym c.next_line.ensures.next ∙ c.in-End.is) (λ e. absurd (c.if-len-eq-MAX_TRAILER_SECTION_BYTES.false (c.len.ensures ∙ e)))
