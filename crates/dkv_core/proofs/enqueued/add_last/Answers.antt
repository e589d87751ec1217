use Rattle.std.proofs.Common.{ap, ◌∙◌}
use Rattle.dkv_queue.specs.Rows.{messages_of, out_of}
use Rattle.dkv_core.proofs.Added.{absent, messages-added, out-added}
use Rattle.dkv_core.proofs.enqueued.add_last.Goals as goal

pub add-requires-clause-absent : goal.add-requires-clause-absent
add-requires-clause-absent c = absent c.args.message c.args.queue.now.rows c.requires.above

pub returns-clause-messages : goal.returns-clause-messages
returns-clause-messages c = ap messages_of c.add.ensures.rows ∙ messages-added c.args.message c.args.queue.now.rows c.requires.above

pub returns-clause-out : goal.returns-clause-out
returns-clause-out c = ap out_of c.add.ensures.rows ∙ out-added c.args.message c.args.queue.now.rows c.requires.above
