use Rattle.std.proofs.Common.{◌≡◌, ◌∙◌, List, ℕ, subst}
use Rattle.std.specs.Prelude.{OnOk, OnErr, decimal}
use Rattle.std.specs.Io.KnownBytes.{Appends}
use Rattle.dkv_io.specs.Streams.{AppendsFront}
use Rattle.dkv_app.proofs.PieceLists.{damaged_line}
use Rattle.dkv_app.proofs.report.write_damaged.Goals as goal

pub returns-clause-all : goal.returns-clause-all
returns-clause-all g c =
    let file : c.as_bytes.result.now ≡ decimal c.args.file = c.as_bytes.ensures.value ∙ c.format.ensures.text in
    let at : c.as_bytes-2.result.now ≡ decimal c.args.at = c.as_bytes-2.ensures.value ∙ c.format-2.ensures.text in
    subst (λ (l : List ℕ). OnOk c.write_pieces.result (Appends (g.E.Sink.held c.args.errors.now) (g.E.Sink.held c.write_pieces.new.sink) l))
    (damaged_line (decimal c.args.file) (decimal c.args.at)) (rw (file, at) at c.write_pieces.ensures.all)

pub returns-clause-front : goal.returns-clause-front
returns-clause-front g c =
    let file : c.as_bytes.result.now ≡ decimal c.args.file = c.as_bytes.ensures.value ∙ c.format.ensures.text in
    let at : c.as_bytes-2.result.now ≡ decimal c.args.at = c.as_bytes-2.ensures.value ∙ c.format-2.ensures.text in
    subst (λ (l : List ℕ). OnErr c.write_pieces.result (AppendsFront (g.E.Sink.held c.args.errors.now) (g.E.Sink.held c.write_pieces.new.sink) l))
    (damaged_line (decimal c.args.file) (decimal c.args.at)) (rw (file, at) at c.write_pieces.ensures.front)
