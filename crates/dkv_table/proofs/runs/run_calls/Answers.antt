use Rattle.std.proofs.Common.{◌≡◌, List, [], ◌∷◌, ◌++◌, sym, ap, ◌∙◌, append_assoc}
use Rattle.std.specs.Vec.Iter.{into_iter_items}
use Rattle.std.specs.Prelude.{Result, Ok, Err, OnErr}
use Rattle.dkv_table.specs.declared.calls.TableCall.{TableCall}
use Rattle.dkv_table.specs.Runs.{answer_of, after_call}
use Rattle.dkv_table.proofs.Answering.{content_after-more, answers-more, made}
use Rattle.dkv_table.proofs.runs.run_calls.Goals as goal

on_err : {A E P : Type 0} (r : Result A E) → P → OnErr r P
on_err (Ok x) p = tt
on_err (Err e) p = p

-- one more came, and the rest is still to come
one_more : (done rest all later : List TableCall) (call : TableCall) → rest ≡ call ∷ later → done ++ rest ≡ all → (done ++ call ∷ []) ++ later ≡ all
one_more done rest all later call next is = append_assoc done (call ∷ []) later ∙ ap (λ calls. done ++ calls) (sym next) ∙ is

pub loop-call-preserved : goal.loop-call-preserved
loop-call-preserved g c =
    let kept = c.loop-call.invariant in
    let one = c.in_ok-answer.ensures in
    let es = g.T.Table.content c.args.table.now in (
      tt,
      tt,
      c.in_ok-add.ensures.ok ∙ (λ i. kept.2 i ++ (one.answer ∙ ap (answer_of c.in-Some.call) kept.3) i ∷ []) ∙ sym (answers-more c.loop-call.yielded c.in-Some.call es),
      one.content ∙ ap (after_call c.in-Some.call) kept.3 ∙ sym (content_after-more c.loop-call.yielded c.in-Some.call es),
      one_more c.loop-call.yielded _ _ (into_iter_items c.next.new.self) c.in-Some.call c.in-Some.ensures.steps.0 kept.4,
    )

pub returns-in_err-add-clause-err : goal.returns-in_err-add-clause-err
returns-in_err-add-clause-err g c =
    let kept = c.loop-call.invariant in
    let one = c.in_ok-answer.ensures in
    let es = g.T.Table.content c.args.table.now in
    on_err _ (made c.args.calls.items (c.loop-call.yielded ++ c.in-Some.call ∷ []) (into_iter_items c.next.new.self) es _
    (one_more c.loop-call.yielded _ _ (into_iter_items c.next.new.self) c.in-Some.call c.in-Some.ensures.steps.0 kept.4)
    (one.content ∙ ap (after_call c.in-Some.call) kept.3 ∙ sym (content_after-more c.loop-call.yielded c.in-Some.call es)))
