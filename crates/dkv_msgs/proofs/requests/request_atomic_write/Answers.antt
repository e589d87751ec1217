use Rattle.std.proofs.Common.{sym, ◌∙◌}
use Rattle.dkv_wire.specs.FieldLists.{fields}
use Rattle.dkv_msgs.specs.Messages.{atomic_write}
use Rattle.dkv_msgs.specs.Places.{bad_atomic_write}
use Rattle.dkv_msgs.proofs.Counted.{read_whole, write_passes}
use Rattle.dkv_msgs.proofs.requests.request_atomic_write.Goals as goal

pub returns-in-Some-limit_of_counts-clause-request : goal.returns-in-Some-limit_of_counts-clause-request
returns-in-Some-limit_of_counts-clause-request c =
    let fs = fields 0 c.args.body.now in
    let bad = bad_atomic_write 0 c.args.body.now in
    (atomic_write fs, read_whole bad (atomic_write fs) (sym c.first_bad.ensures ∙ c.in_default.is), write_passes fs c.of-counts.result c.in-Some-limit_of_counts.passed c.of-counts.ensures (sym c.limit_of_counts.ensures ∙ c.in-Some-limit_of_counts.is))
