use Rattle.std.proofs.Common.{sym, ◌∙◌, ap, subst, ◌++◌, ◌∷◌, [], ◌+◌}
use Rattle.dkv_http.specs.declared.phases.HeadAt.TheVariants as head_at
use Rattle.dkv_http.specs.declared.phases.Phase.TheVariants as phase
use Rattle.dkv_heads.specs.declared.lines.LineAt.TheVariants as line_at
use Rattle.dkv_http.specs.Holds.{Holds}
use Rattle.dkv_http.proofs.Stepping.{as_phase, fits_as, head_on, head_asked, start_next, line_on, line_field}
use Rattle.dkv_http.proofs.state.State.take_head.Goals as goal

pub returns-in-Some-clause-holds : goal.returns-in-Some-clause-holds
returns-in-Some-clause-holds c held x =
    let s = c.args.self.now in
    let a = head_at.Start c.in-Start.at in
    let q = c.requires.phase ∙ ap phase.Head c.in-Start.is in
    let y = as_phase (phase.Head a) s held q x in
    subst (λ t. Holds t (held ++ c.args.byte ∷ [])) (sym c.wait.ensures)
    (head_on s a (head_at.Start c.in-Some.next) c.args.byte c.push.new.self.bytes held y (ap (λ f. f.bytes) c.push.ensures) (fits_as (phase.Head a) s q c.requires.fits).0
    (start_next s c.in-Start.at c.in-Some.next c.args.byte held y (sym c.next_start.ensures.next ∙ c.in-Some.is)))

pub returns-in-None-clause-holds : goal.returns-in-None-clause-holds
returns-in-None-clause-holds c held x =
    let s = c.args.self.now in
    head_asked s c.ask_head.new.self c.args.at c.args.byte c.push.new.self.bytes held (as_phase (phase.Head c.args.at) s held c.requires.phase x) (ap (λ f. f.bytes) c.push.ensures) c.ask_head.ensures.holds

pub returns-in-On-clause-holds : goal.returns-in-On-clause-holds
returns-in-On-clause-holds c held x =
    let s = c.args.self.now in
    let a = head_at.Line c.in-Line.at c.in-Line.fields in
    let q = c.requires.phase ∙ ap phase.Head c.in-Line.is in
    let y = as_phase (phase.Head a) s held q x in
    subst (λ t. Holds t (held ++ c.args.byte ∷ [])) (sym c.wait-in-On.ensures)
    (head_on s a (head_at.Line c.in-On.next c.in-Line.fields) c.args.byte c.push.new.self.bytes held y (ap (λ f. f.bytes) c.push.ensures) (fits_as (phase.Head a) s q c.requires.fits).0
    (line_on s c.in-Line.at c.in-On.next c.in-Line.fields c.args.byte held y (sym c.next_line.ensures.next ∙ c.in-On.is)))

pub returns-then-fields-lt-MAX_HEADER_LINES-clause-holds : goal.returns-then-fields-lt-MAX_HEADER_LINES-clause-holds
returns-then-fields-lt-MAX_HEADER_LINES-clause-holds c held x =
    let s = c.args.self.now in
    let a = head_at.Line c.in-Line.at c.in-Line.fields in
    let q = c.requires.phase ∙ ap phase.Head c.in-Line.is in
    let y = as_phase (phase.Head a) s held q x in
    subst (λ t. Holds t (held ++ c.args.byte ∷ [])) (sym c.wait-then-fields-lt-MAX_HEADER_LINES.ensures)
    (head_on s a (head_at.Line line_at.Start (c.in-Line.fields + 1)) c.args.byte c.push.new.self.bytes held y (ap (λ f. f.bytes) c.push.ensures) (fits_as (phase.Head a) s q c.requires.fits).0
    (line_field s c.in-Line.at c.in-Line.fields c.args.byte held y (sym c.next_line.ensures.next ∙ c.in-Field.is) c.if-fields-lt-MAX_HEADER_LINES.true))

pub returns-else-fields-lt-MAX_HEADER_LINES-clause-holds : goal.returns-else-fields-lt-MAX_HEADER_LINES-clause-holds
returns-else-fields-lt-MAX_HEADER_LINES-clause-holds c held x =
    let s = c.args.self.now in
    head_asked s c.ask_head-else-fields-lt-MAX_HEADER_LINES.new.self c.args.at c.args.byte c.push.new.self.bytes held (as_phase (phase.Head c.args.at) s held c.requires.phase x) (ap (λ f. f.bytes) c.push.ensures) c.ask_head-else-fields-lt-MAX_HEADER_LINES.ensures.holds

pub returns-in-End-clause-holds : goal.returns-in-End-clause-holds
returns-in-End-clause-holds c held x =
    let s = c.args.self.now in
    head_asked s c.ask_head-in-End.new.self c.args.at c.args.byte c.push.new.self.bytes held (as_phase (phase.Head c.args.at) s held c.requires.phase x) (ap (λ f. f.bytes) c.push.ensures) c.ask_head-in-End.ensures.holds

pub returns-in-Other-clause-holds : goal.returns-in-Other-clause-holds
returns-in-Other-clause-holds c held x =
    let s = c.args.self.now in
    head_asked s c.ask_head-in-Other.new.self c.args.at c.args.byte c.push.new.self.bytes held (as_phase (phase.Head c.args.at) s held c.requires.phase x) (ap (λ f. f.bytes) c.push.ensures) c.ask_head-in-Other.ensures.holds

pub returns-in-Tail-clause-holds : goal.returns-in-Tail-clause-holds
returns-in-Tail-clause-holds c held x =
    let s = c.args.self.now in
    head_asked s c.ask_head-in-Tail.new.self c.args.at c.args.byte c.push.new.self.bytes held (as_phase (phase.Head c.args.at) s held c.requires.phase x) (ap (λ f. f.bytes) c.push.ensures) c.ask_head-in-Tail.ensures.holds
