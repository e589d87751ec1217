use Rattle.std.proofs.Common.{◌∙◌}
use Rattle.dkv_http.proofs.Pieces.{inside, onward, over_fits}
use Rattle.dkv_http.proofs.state.State.feed_on.Goals as goal

pub returns-in-Whole-clause-takes : goal.returns-in-Whole-clause-takes
returns-in-Whole-clause-takes c =
    let i = c.loop-taken.invariant in
    let w = c.take-taken.ensures in
    (inside c.args.bytes.now c.loop-taken.taken c.take-taken.result i.within w.within, c.in-Whole.ensures, onward c.args.self.now c.loop-taken.self c.take-taken.new.self c.args.bytes.now c.loop-taken.taken c.take-taken.result i.within w.within i.holds w.holds)

pub returns-in-Failed-clause-takes : goal.returns-in-Failed-clause-takes
returns-in-Failed-clause-takes c =
    let i = c.loop-taken.invariant in
    let w = c.take-taken.ensures in
    (inside c.args.bytes.now c.loop-taken.taken c.take-taken.result i.within w.within, c.in-Failed.ensures, onward c.args.self.now c.loop-taken.self c.take-taken.new.self c.args.bytes.now c.loop-taken.taken c.take-taken.result i.within w.within i.holds w.holds)

pub returns-in-Over-clause-takes : goal.returns-in-Over-clause-takes
returns-in-Over-clause-takes c = absurd (over_fits c.take-taken.new.self c.in-Over.ensures c.take-taken.ensures.fits)

pub loop-taken-preserved : goal.loop-taken-preserved
loop-taken-preserved c =
    let i = c.loop-taken.invariant in
    let w = c.take-taken.ensures in
    record {
      within = inside c.args.bytes.now c.loop-taken.taken c.take-taken.result i.within w.within;
      waits = c.in-Waits.ensures;
      profile = w.profile ∙ i.profile;
      rooms = w.rooms;
      fits = w.fits;
      holds = onward c.args.self.now c.loop-taken.self c.take-taken.new.self c.args.bytes.now c.loop-taken.taken c.take-taken.result i.within w.within i.holds w.holds;
    }
