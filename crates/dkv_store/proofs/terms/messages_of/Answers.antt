use Rattle.std.proofs.Common.{◌∙◌, ap, List, ◌++◌}
use Rattle.std.specs.Prelude.{None}
use Rattle.dkv_base.specs.declared.types.Message.{Message}
use Rattle.dkv_base.proofs.Lists.{filter_all}
use Rattle.dkv_queue.specs.Rows.{messages_of}
use Rattle.dkv_image_io.specs.Walks.{later}
use Rattle.dkv_store.proofs.terms.messages_of.Goals as goal

pub loop-message-init : goal.loop-message-init
loop-message-init c =
    let all = messages_of c.args.queue.now.rows in
    ap (λ (l : List Message). l ++ later None all) c.new-messages.ensures ∙ filter_all all
