use Rattle.std.proofs.Common.{subst}
use Rattle.dkv_http.specs.Holds.{Takes}
use Rattle.dkv_http.proofs.Feeding.{takes_feeds}
use Rattle.dkv_http.proofs.state.State.feed.Goals as goal

pub returns-in-Waits-clause-feeds : goal.returns-in-Waits-clause-feeds
returns-in-Waits-clause-feeds c w held x = takes_feeds c.args.self.now c.feed_on.new.self c.args.bytes.now c.feed_on.result c.feed_on.ensures.profile c.feed_on.ensures.fits c.feed_on.ensures.takes held x

pub returns-in-Waits-clause-ready : goal.returns-in-Waits-clause-ready
returns-in-Waits-clause-ready c taken e =
    let x = subst (Takes c.args.self.now c.feed_on.new.self c.args.bytes.now) e c.feed_on.ensures.takes in (x.0, x.1)

pub returns-in-Waits-clause-refused : goal.returns-in-Waits-clause-refused
returns-in-Waits-clause-refused c status taken e =
    let x = subst (Takes c.args.self.now c.feed_on.new.self c.args.bytes.now) e c.feed_on.ensures.takes in (x.0, x.1)
