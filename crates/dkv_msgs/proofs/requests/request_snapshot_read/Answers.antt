use Rattle.std.proofs.Common.{sym, ◌∙◌}
use Rattle.dkv_wire.specs.FieldLists.{fields}
use Rattle.dkv_msgs.specs.Messages.{snapshot_read}
use Rattle.dkv_msgs.specs.Places.{bad_snapshot_read}
use Rattle.dkv_msgs.proofs.Counted.{read_whole, read_passes}
use Rattle.dkv_msgs.proofs.requests.request_snapshot_read.Goals as goal

pub returns-in-Some-limit_of_ranges-clause-request : goal.returns-in-Some-limit_of_ranges-clause-request
returns-in-Some-limit_of_ranges-clause-request c =
    let fs = fields 0 c.args.body.now in
    let bad = bad_snapshot_read 0 c.args.body.now in
    (snapshot_read fs, read_whole bad (snapshot_read fs) (sym c.first_bad.ensures ∙ c.in_default.is), λ _. read_passes fs c.count.result c.in-Some-limit_of_ranges.passed c.count.ensures (sym c.limit_of_ranges.ensures ∙ c.in-Some-limit_of_ranges.is))
