use Rattle.std.proofs.Common.{List, ℕ, take, subst}
use Rattle.std.specs.Prelude.{OnErr}
use Rattle.dkv_io.specs.Streams.{AppendsFront}
use Rattle.dkv_pipe.proofs.Halves.{part_of_first, part_of_second}
use Rattle.dkv_pipe.proofs.reply.Reply.write_to.Goals as goal

pub returns-in-Err-clause-part : goal.returns-in-Err-clause-part
returns-in-Err-clause-part g c =
    let r = c.self.inside in
    part_of_first (g.K.Sink.held c.args.sink.now) (g.K.Sink.held c.write.new.self) (take r.len r.front) r.tail c.args.self.now c.self.view_is c.in-Err.ensures.front

pub returns-clause-part : goal.returns-clause-part
returns-clause-part g c =
    let r = c.self.inside in
    let tail = subst (λ (l : List ℕ). OnErr c.write-2.result (AppendsFront (g.K.Sink.held c.write.new.self) (g.K.Sink.held c.write-2.new.self) l)) c.as_slice.ensures c.write-2.ensures.front in
    part_of_second (g.K.Sink.held c.args.sink.now) (g.K.Sink.held c.write.new.self) (g.K.Sink.held c.write-2.new.self) (take r.len r.front) r.tail c.args.self.now c.write-2.result c.self.view_is c.in-Ok.ensures.all tail
