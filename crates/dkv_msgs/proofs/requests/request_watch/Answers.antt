use Rattle.std.proofs.Common.{sym, ◌∙◌}
use Rattle.dkv_wire.specs.FieldLists.{fields}
use Rattle.dkv_msgs.specs.Messages.{watch}
use Rattle.dkv_msgs.specs.Places.{bad_watch}
use Rattle.dkv_msgs.proofs.Counted.{read_whole, watch_passes}
use Rattle.dkv_msgs.proofs.requests.request_watch.Goals as goal

pub returns-in-Some-limit_of_keys-clause-request : goal.returns-in-Some-limit_of_keys-clause-request
returns-in-Some-limit_of_keys-clause-request c =
    let fs = fields 0 c.args.body.now in
    let bad = bad_watch 0 c.args.body.now in
    (watch fs, read_whole bad (watch fs) (sym c.first_bad.ensures ∙ c.in_default.is), λ _. watch_passes fs c.count.result c.in-Some-limit_of_keys.passed c.count.ensures (sym c.limit_of_keys.ensures ∙ c.in-Some-limit_of_keys.is))
