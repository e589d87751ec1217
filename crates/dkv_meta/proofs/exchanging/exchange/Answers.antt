use Rattle.std.proofs.Common.{◌≡◌, ◌∙◌, sym, arith}
use Rattle.dkv_meta.specs.Reply.{expiry}
use Rattle.dkv_meta.proofs.exchanging.exchange.Goals as goal

pub returns-clause-reply : goal.returns-clause-reply
returns-clause-reply c =
    let ends : c.min-expiry.result ≡ expiry c.args.at = omega arith in
    (c.in-Some.version, sym c.in_ok-version.ensures ∙ c.in-Some.is, rw ends at c.in_ok-reply.ensures)
