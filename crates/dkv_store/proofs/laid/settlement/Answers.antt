use Rattle.std.proofs.Common.{◌<◌, ◌^◌, arith}
use Rattle.dkv_base.specs.Spelling.{record_length}
use Rattle.dkv_store.proofs.Placing.{settlement_length}
use Rattle.dkv_store.proofs.laid.settlement.Goals as goal

pub returns-clause-back : goal.returns-clause-back
returns-clause-back c =
    let k = c.args.commit.now in
    let long = settlement_length k c.requires in
    let short : record_length k < 2 ^ 63 = omega (arith, long) in
    c.one_body.ensures.back k c.settlement_fits.ensures short
