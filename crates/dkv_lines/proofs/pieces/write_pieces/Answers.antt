use Rattle.dkv_lines.proofs.PieceLists.{front_of_pieces}
use Rattle.dkv_lines.proofs.pieces.write_pieces.Goals as goal

pub returns-in-Err-clause-front : goal.returns-in-Err-clause-front
returns-in-Err-clause-front g c =
    front_of_pieces (λ p. p.now) c.args.pieces.now c.loop-piece.piece-index _ c.loop-piece-test.true
    (g.K.Sink.held c.args.sink.now) (g.K.Sink.held c.loop-piece.sink) (g.K.Sink.held c.write.new.self) c.loop-piece.invariant.0 c.in-Err.ensures.front
