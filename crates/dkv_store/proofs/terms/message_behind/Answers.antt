use Rattle.std.proofs.Common.{sym, ◌∙◌, ap, Option, Some, None, IfNone}
use Rattle.std.specs.Option.{option_copied}
use Rattle.dkv_queue.specs.Rows.{messages_of}
use Rattle.dkv_image_io.specs.Walks.{is_later}
use Rattle.dkv_image_io.proofs.Walking.{rows_find, next_is, none_left}
use Rattle.dkv_store.proofs.terms.message_behind.Goals as goal

if_none : {X : Type 0} (o : Option X) (P : Type 0) → P → IfNone o P
if_none None P p = p
if_none (Some x) P p = tt

pub returns-clause-first : goal.returns-clause-first
returns-clause-first c =
    let rows = c.args.queue.now.rows in
    next_is c.args.last (messages_of rows) c.in_ok-message.message.now c.requires (sym (rows_find (is_later c.args.last) rows) ∙ sym c.above.ensures ∙ ap option_copied c.in_ok-message.was)

pub returns-in_err-message-clause-ended : goal.returns-in_err-message-clause-ended
returns-in_err-message-clause-ended c =
    let rows = c.args.queue.now.rows in
    if_none c.from_residual.result _ (none_left (is_later c.args.last) (messages_of rows) (sym (rows_find (is_later c.args.last) rows) ∙ sym c.above.ensures ∙ ap option_copied c.in_err-message.was))
