use Rattle.std.proofs.Common.{◌≡◌, true, List, sym, ap, subst, ◌∙◌}
use Rattle.std.specs.List.{list_all}
use Rattle.dkv_base.specs.declared.types.Message.{Message}
use Rattle.dkv_queue.specs.Rows.{messages_of}
use Rattle.dkv_core.specs.Rows.{is_above}
use Rattle.dkv_core.proofs.Added.{above_none}
use Rattle.dkv_core.proofs.enqueued.queue_of.Goals as goal

pub add_all-requires-clause-above : goal.add_all-requires-clause-above
add_all-requires-clause-above c =
    subst (λ (ms : List Message). list_all (is_above ms) c.args.messages ≡ true) (sym (ap messages_of (c.in_ok-reserve.ensures.rows ∙ c.new-queue.ensures.rows))) (above_none c.args.messages)
