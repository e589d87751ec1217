use Rattle.std.proofs.Common.{◌∷◌, [], ◌++◌, ℕ, sym, ap, ◌∙◌, arith}
use Rattle.dkv_base.specs.Messages.{made}
use Rattle.dkv_core.proofs.Added.{made_next}
use Rattle.dkv_core.proofs.enqueued.messages_made.Goals as goal

pub loop-enqueue-preserved : goal.loop-enqueue-preserved
loop-enqueue-preserved c = (
  c.in_ok-add.ensures.ok
      ∙ (λ i. c.loop-enqueue.invariant.0 i ++ (c.in_ok-message_of.ensures ∙ ap (λ (k : ℕ). made c.args.n k c.enqueue-item.result) c.loop-enqueue.invariant.1) i ∷ [])
      ∙ sym (made_next c.args.n c.loop-enqueue.enqueue-index c.args.enqueues.now c.enqueue-item.result c.loop-enqueue-test.true c.enqueue-item.is),
  omega (arith, c.loop-enqueue.invariant.1),
)
