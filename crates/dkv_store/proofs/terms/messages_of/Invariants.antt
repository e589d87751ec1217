use Rattle.std.proofs.Common.{◌≡◌, ◌++◌, length}
use Rattle.dkv_image_io.specs.Walks.{later}
use Rattle.dkv_queue.specs.Rows.{messages_of}
use Rattle.dkv_store.proofs.terms.messages_of.Given as goal

-- what was copied, and what comes behind the last, is all
abbrev pub invariant-loop-message : goal.invariant-loop-message
invariant-loop-message l = l.messages ++ later l.last (messages_of l.fn.queue.rows) ≡ messages_of l.fn.queue.rows

abbrev pub decreases-loop-message : goal.decreases-loop-message
decreases-loop-message l = length (later l.last (messages_of l.fn.queue.rows))
