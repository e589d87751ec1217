use Rattle.std.proofs.Common.{subst, ℕ, List}
use Rattle.dkv_heads.specs.Requests.{Received}
use Rattle.dkv_http.specs.Sessions.{Session, Answered}
use Rattle.dkv_http.proofs.Going.{goes}
use Rattle.dkv_http.proofs.conn.Conn.feed.Goals as goal

pub returns-clause-session : goal.returns-clause-session
returns-clause-session c =
    let e = c.feed.ensures in
    subst (λ z. (fed : List ℕ) (qs : List Received) → Session z fed qs → Answered z.profile c.feed.new.self fed qs c.args.bytes.now c.feed.result) c.self.view_is
    (goes c.self.inside.state c.feed.new.self c.args.bytes.now c.feed.result e.profile e.waits e.feeds e.next e.last e.failed e.over)
