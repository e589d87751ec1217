use Rattle.std.proofs.Common.{◌≡◌, ◌+◌, ◌≤◌, ◌++◌, length}
use Rattle.std.specs.Vec.Iter.{into_iter_items}
use Rattle.dkv_queue.specs.Rows.{messages_of, out_of}
use Rattle.dkv_core.proofs.enqueued.add_all.Given as goal

-- the messages so far were added, and there is room for the others
abbrev pub invariant-loop-message : goal.invariant-loop-message
invariant-loop-message l =
    goal.iterator-loop-message.can_next l.message-iterator
    × goal.iterator-loop-message.is_finite l.message-iterator
    × (messages_of l.queue.rows ≡ messages_of l.initial.queue.rows ++ l.yielded)
    × (out_of l.queue.rows ≡ out_of l.initial.queue.rows)
    × (l.initial.queue.spare ≤ l.queue.spare + length l.yielded)
    × (length (into_iter_items l.message-iterator) ≤ l.queue.spare)
    × (l.yielded ++ into_iter_items l.message-iterator ≡ l.fn.messages)
