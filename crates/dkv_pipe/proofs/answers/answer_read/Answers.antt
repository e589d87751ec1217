use Rattle.std.proofs.Common.{Err, subst}
use Rattle.dkv_base.specs.Limits.{read_limit}
use Rattle.dkv_msgs.specs.declared.requests.RequestError.{RequestError}
use Rattle.dkv_msgs.specs.declared.types.SnapshotRead.{SnapshotRead}
use Rattle.dkv_msgs.specs.Readings.{reads_snapshot_read}
use Rattle.dkv_msgs.specs.Requests.{IsRequest}
use Rattle.dkv_pipe.proofs.Asked.{read_refused}
use Rattle.dkv_pipe.proofs.answers.answer_read.Goals as goal

pub returns-in-Err-Limit-clause-reply : goal.returns-in-Err-Limit-clause-reply
returns-in-Err-Limit-clause-reply g c =
    let is = subst (λ (e : RequestError). IsRequest (λ _ (m : SnapshotRead). read_limit m.ranges) (reads_snapshot_read c.args.body.now) (Err e)) c.in-Err-Limit.field-0-is c.in-Err-Limit.ensures.request in
    read_refused g.D.Disk.seen g.D.Disk.may_leave g.D.Disk.faults g.D.Disk.moment g.D.Disk.left_since c.args.store.now c.args.body.now c.args.moment c.in-Err-Limit.passed c.limited.result is c.limited.ensures
