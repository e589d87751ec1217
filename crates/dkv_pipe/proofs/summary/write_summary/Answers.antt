use Rattle.std.proofs.Common.{◌≡◌, ◌∙◌, List, ℕ, subst}
use Rattle.std.specs.Prelude.{OnOk, OnErr, decimal}
use Rattle.std.specs.Io.KnownBytes.{Appends}
use Rattle.dkv_io.specs.Streams.{AppendsFront}
use Rattle.dkv_pipe.proofs.SummaryLines.{lines_of_summary}
use Rattle.dkv_pipe.proofs.summary.write_summary.Goals as goal

pub returns-clause-all : goal.returns-clause-all
returns-clause-all g c =
    let counts = c.args.counts.now in
    let frames : c.as_bytes.result.now ≡ decimal c.args.frames = c.as_bytes.ensures.value ∙ c.format.ensures.text in
    let commits : c.as_bytes-2.result.now ≡ decimal counts.commits = c.as_bytes-2.ensures.value ∙ c.format-2.ensures.text in
    let entries : c.as_bytes-3.result.now ≡ decimal counts.entries = c.as_bytes-3.ensures.value ∙ c.format-3.ensures.text in
    let messages : c.as_bytes-4.result.now ≡ decimal counts.messages = c.as_bytes-4.ensures.value ∙ c.format-4.ensures.text in
    subst (λ (l : List ℕ). OnOk c.write_pieces.result (Appends (g.K.Sink.held c.args.sink.now) (g.K.Sink.held c.write_pieces.new.sink) l))
    (lines_of_summary c.args.frames counts.commits counts.entries counts.messages)
    (rw (frames, commits, entries, messages) at c.write_pieces.ensures.all)

pub returns-clause-front : goal.returns-clause-front
returns-clause-front g c =
    let counts = c.args.counts.now in
    let frames : c.as_bytes.result.now ≡ decimal c.args.frames = c.as_bytes.ensures.value ∙ c.format.ensures.text in
    let commits : c.as_bytes-2.result.now ≡ decimal counts.commits = c.as_bytes-2.ensures.value ∙ c.format-2.ensures.text in
    let entries : c.as_bytes-3.result.now ≡ decimal counts.entries = c.as_bytes-3.ensures.value ∙ c.format-3.ensures.text in
    let messages : c.as_bytes-4.result.now ≡ decimal counts.messages = c.as_bytes-4.ensures.value ∙ c.format-4.ensures.text in
    subst (λ (l : List ℕ). OnErr c.write_pieces.result (AppendsFront (g.K.Sink.held c.args.sink.now) (g.K.Sink.held c.write_pieces.new.sink) l))
    (lines_of_summary c.args.frames counts.commits counts.entries counts.messages)
    (rw (frames, commits, entries, messages) at c.write_pieces.ensures.front)
