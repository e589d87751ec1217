use Rattle.std.proofs.Common.{arith}
use Rattle.dkv_http.proofs.Holding.{size_large}
use Rattle.dkv_http.proofs.state.State.whole_size.Goals as goal

pub returns-then-size-room-clause-holds : goal.returns-then-size-room-clause-holds
returns-then-size-room-clause-holds c h held l x same =
    let s = c.args.self.now in
    size_large s.profile s.head.bytes s.headers.items s.spans s.close h x.headed s.body.bytes held s.line.bytes l x.before x.is x.text x.short
    (omega (arith, c.if-size-eq0.false, same)) (omega (arith, c.if-size-room.true, c.body_limit.ensures, c.len.ensures, same))
