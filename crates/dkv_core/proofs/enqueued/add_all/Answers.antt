use Rattle.std.proofs.Common.{◌≡◌, true, List, ◌∷◌, ◌++◌, length, sym, ap, subst, ◌∙◌, arith}
use Rattle.std.specs.List.{list_all}
use Rattle.std.specs.Vec.Iter.{into_iter_items}
use Rattle.dkv_base.specs.declared.types.Message.{Message}
use Rattle.dkv_base.specs.State.{is_in_id_order}
use Rattle.dkv_queue.specs.Rows.{messages_of, has_schedule}
use Rattle.dkv_core.specs.Rows.{is_above}
use Rattle.dkv_core.proofs.Added.{above_next, all_next}
use Rattle.dkv_core.proofs.enqueued.add_all.Goals as goal

pub add_last-requires-clause-room : goal.add_last-requires-clause-room
add_last-requires-clause-room c = omega (arith, ap (λ (l : List Message). length l) c.in-Some.ensures.steps.0, c.loop-message.invariant.5)

pub add_last-requires-clause-above : goal.add_last-requires-clause-above
add_last-requires-clause-above c =
    let m = c.in-Some.message in
    let ys = c.loop-message.yielded in
    let zs : List Message = into_iter_items c.next.new.self in
    let ms : List Message = messages_of c.args.queue.now.rows in
    let whole : ys ++ m ∷ zs ≡ c.args.messages = ap (λ (l : List Message). ys ++ l) (sym c.in-Some.ensures.steps.0) ∙ c.loop-message.invariant.6 in
    subst (λ (l : List Message). is_above l m ≡ true) (sym c.loop-message.invariant.2)
    (above_next ms ys m zs (ap (list_all (is_above ms)) whole ∙ c.requires.above) (ap is_in_id_order whole ∙ c.requires.order))

pub add_last-requires-clause-schedule : goal.add_last-requires-clause-schedule
add_last-requires-clause-schedule c =
    let m = c.in-Some.message in
    let ys = c.loop-message.yielded in
    let zs : List Message = into_iter_items c.next.new.self in
    let whole : ys ++ m ∷ zs ≡ c.args.messages = ap (λ (l : List Message). ys ++ l) (sym c.in-Some.ensures.steps.0) ∙ c.loop-message.invariant.6 in
    all_next has_schedule ys m zs (ap (list_all has_schedule) whole ∙ c.requires.schedules)
