use Rattle.std.proofs.Common.{◌≡◌, ◌∙◌, List, ℕ, ap, subst}
use Rattle.std.specs.Prelude.{OnErr, decimal}
use Rattle.dkv_io.specs.Streams.{AppendsFront}
use Rattle.dkv_app.specs.Ids.{id_text}
use Rattle.dkv_app.proofs.PieceLists.{lines_of_database}
use Rattle.dkv_app.proofs.tells.tell_database.Goals as goal

pub returns-clause-front : goal.returns-clause-front
returns-clause-front g c =
    let id : c.as_bytes.result.now ≡ id_text c.args.id =
    c.as_bytes.ensures.value ∙ c.encode_lower.ensures.text ∙ ap id_text (c.hyphenated.ensures ∙ c.from_bytes.ensures) in
    let commits : c.as_bytes-2.result.now ≡ decimal c.args.commits = c.as_bytes-2.ensures.value ∙ c.format.ensures.text in
    let entries : c.as_bytes-3.result.now ≡ decimal c.args.entries = c.as_bytes-3.ensures.value ∙ c.format-2.ensures.text in
    let messages : c.as_bytes-4.result.now ≡ decimal c.args.messages = c.as_bytes-4.ensures.value ∙ c.format-3.ensures.text in
    subst (λ (l : List ℕ). OnErr c.write_pieces.result (AppendsFront (g.K.Sink.held c.args.sink.now) (g.K.Sink.held c.write_pieces.new.sink) l))
    (lines_of_database (id_text c.args.id) (decimal c.args.commits) (decimal c.args.entries) (decimal c.args.messages))
    (rw (id, commits, entries, messages) at c.write_pieces.ensures.front)
