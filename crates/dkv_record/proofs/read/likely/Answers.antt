use Rattle.std.proofs.Common.{arith, ◌≡◌, ◌==◌, false}
use Rattle.std.specs.Prelude.{slice_index}
use Rattle.dkv_msgs.specs.Readings.{reads_atomic_write}
use Rattle.dkv_record.proofs.Commits.{short_head, short_rest, other_kind}
use Rattle.dkv_record.proofs.read.likely.Goals as goal

pub returns-then-body-lt13-clause-found : goal.returns-then-body-lt13-clause-found
returns-then-body-lt13-clause-found c = short_head reads_atomic_write c.args.body.now (omega (arith, c.if-body-lt13.true))

pub returns-then-rest-lt12-clause-found : goal.returns-then-rest-lt12-clause-found
returns-then-rest-lt12-clause-found c =
    let other : (slice_index c.args.body.now 0 == 1) ≡ false = grind (arith, c.if-head-eq-WROTE.false, c.split_at.ensures) in
    short_rest reads_atomic_write c.args.body.now (omega (arith, c.if-rest-lt12.true, c.split_at.ensures)) other

pub returns-else-head-eq-FAILED-clause-found : goal.returns-else-head-eq-FAILED-clause-found
returns-else-head-eq-FAILED-clause-found c =
    let wrote : (slice_index c.args.body.now 0 == 1) ≡ false = grind (arith, c.if-head-eq-WROTE.false, c.split_at.ensures) in
    let acked : (slice_index c.args.body.now 0 == 2) ≡ false = grind (arith, c.if-head-eq-ACKED.false, c.split_at.ensures) in
    let failed : (slice_index c.args.body.now 0 == 3) ≡ false = grind (arith, c.if-head-eq-FAILED.false, c.split_at.ensures) in
    other_kind reads_atomic_write c.args.body.now wrote acked failed
