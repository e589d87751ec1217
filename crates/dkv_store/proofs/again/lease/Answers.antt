use Rattle.std.proofs.Common.{◌≡◌, ◌∙◌, sym, ap, arith, true, false, not, List}
use Rattle.std.specs.Prelude.{is_some, ◌&&◌}
use Rattle.std.specs.List.{list_any}
use Rattle.dkv_base.specs.declared.types.Message.{Message}
use Rattle.dkv_base.specs.State.{same_id}
use Rattle.dkv_base.specs.After.{is_pending_id}
use Rattle.dkv_base.specs.Messages.{is_out}
use Rattle.dkv_queue.specs.Rows.{message_at}
use Rattle.dkv_store.proofs.Leases.{found_any}
use Rattle.dkv_store.proofs.again.lease.Goals as goal

pub returns-then-is_none-clause-none : goal.returns-then-is_none-clause-none
returns-then-is_none-clause-none c =
    let rows = c.queue.result.now.rows in
    let none : is_some (message_at c.args.id rows) ≡ false = grind (arith, c.get.ensures.message, c.is_none.ensures, c.if-is_none.true) in
    sym none ∙ found_any c.args.id rows ∙ ap (λ (ms : List Message). list_any (λ m. same_id c.args.id m.id) ms) c.queue.ensures.messages

pub lease-requires : goal.lease-requires
lease-requires c =
    let rows = c.queue.result.now.rows in
    let some : is_some (message_at c.args.id rows) ≡ true = grind (arith, c.get.ensures.message, c.is_none.ensures, c.if-is_none.false) in
    let there : is_pending_id c.args.core.now.state c.args.id ≡ true = ap (λ (ms : List Message). list_any (λ m. same_id c.args.id m.id) ms) (sym c.queue.ensures.messages) ∙ sym (found_any c.args.id rows) ∙ some in
    (λ i. there i && not (is_out c.args.id (c.requires.out i)))

pub returns-clause-none : goal.returns-clause-none
returns-clause-none c =
    let rows = c.queue.result.now.rows in
    let some : is_some (message_at c.args.id rows) ≡ true = grind (arith, c.get.ensures.message, c.is_none.ensures, c.if-is_none.false) in
    sym some ∙ found_any c.args.id rows ∙ ap (λ (ms : List Message). list_any (λ m. same_id c.args.id m.id) ms) c.queue.ensures.messages
