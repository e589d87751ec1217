use Rattle.std.proofs.Common.{◌∙◌, ℕ, List, ◌++◌, ap, sym}
use Rattle.dkv_base.specs.declared.types.Ask.{Ask}
use Rattle.dkv_base.specs.declared.types.Ask.TheVariants as ask
use Rattle.dkv_generate.specs.Frames.{frame_bytes}
use Rattle.dkv_generate.specs.Keys.{item_key}
use Rattle.dkv_generate.specs.Numbers.{number_after}
use Rattle.dkv_generate.specs.Steps.{step, entry, item_step, sum_step, message_step, settle_step}
use Rattle.dkv_generate.proofs.Following.{number_after_more}
use Rattle.dkv_generate.proofs.Whole.{six_added}
use Rattle.dkv_generate.proofs.groups.put_group.Goals as goal

pub returns-clause-bytes : goal.returns-clause-bytes
returns-clause-bytes c =
    let g = c.args.group in
    let x = c.args.numbers.now.last in
    let message = ap (λ (y : ℕ). frame_bytes (message_step g y)) c.in_ok-put_item.ensures.last in
    let settled = ap (λ (a : Ask). frame_bytes (step g a)) c.handled.ensures in
    six_added c.args.out.now.items c.put_item.new.out.items c.put_sum.new.out.items c.put_entry.new.out.items c.put_message.new.out.items c.put_step.new.out.items c.put_step-2.new.out.items
    (frame_bytes (item_step g x)) (frame_bytes (sum_step g)) (frame_bytes (step g (entry (item_key g)))) (frame_bytes (message_step g (number_after 8 x))) (frame_bytes (step g ask.Take)) (frame_bytes (settle_step g))
    c.in_ok-put_item.ensures.bytes
    c.in_ok-put_sum.ensures
    c.in_ok-put_entry.ensures
    (c.in_ok-put_message.ensures.bytes ∙ ap (λ (l : List ℕ). c.put_entry.new.out.items ++ l) message)
    c.in_ok-put_step.ensures
    (c.in_ok-put_step-2.ensures ∙ ap (λ (l : List ℕ). c.put_step.new.out.items ++ l) settled)

pub returns-clause-last : goal.returns-clause-last
returns-clause-last c =
    c.in_ok-put_message.ensures.last
    ∙ ap (number_after 1) c.in_ok-put_item.ensures.last
    ∙ sym (number_after_more 1 8 c.args.numbers.now.last)
