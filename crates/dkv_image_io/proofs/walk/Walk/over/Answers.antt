use Rattle.dkv_base.proofs.Lists.{filter_all}
use Rattle.dkv_queue.specs.Rows.{messages_of}
use Rattle.dkv_image_io.proofs.walk.Walk.over.Goals as goal

pub returns : goal.returns
returns c = filter_all (messages_of c.args.queue.now.rows)
