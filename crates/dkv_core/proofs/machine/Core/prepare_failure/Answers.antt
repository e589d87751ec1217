use Rattle.std.proofs.Common.{◌≡◌, ◌+◌, true, false, List, Some, refl, sym, ap, subst, ◌∙◌}
use Rattle.dkv_base.specs.declared.types.Call.TheVariants.{Fail}
use Rattle.dkv_base.specs.declared.types.Entry.{Entry}
use Rattle.dkv_base.specs.Messages.{exhausted, is_out}
use Rattle.dkv_queue.specs.Rows.{messages_of, out_of}
use Rattle.dkv_queue.specs.declared.row.Row.{Row}
use Rattle.dkv_hub.specs.Frames.{are_committed}
use Rattle.dkv_core.specs.Cores.{Database, Change, IsEffective}
use Rattle.dkv_core.specs.Decisions.{Goes}
use Rattle.dkv_core.specs.Settling.{payloads}
use Rattle.dkv_core.proofs.Kept.{fits}
use Rattle.dkv_queue.proofs.Laws.{out-rows}
use Rattle.dkv_core.proofs.Rows.{taken_there}
use Rattle.dkv_core.proofs.Settles.{fail_goes}
use Rattle.dkv_core.proofs.machine.Core.prepare_failure.Goals as goal

pub returns-clause-goes : goal.returns-clause-goes
returns-clause-goes c who =
    let x = c.self.inside in
    let at = c.args.at in
    let id = c.args.id in
    let n = x.number + 1 in
    let rows : List Row = x.queue.rows in
    let stored = c.reserve.new.self in
    let w : Database = record {
      state = record { number = x.number; moment = x.last; entries = stored.entries; messages = messages_of rows };
      out = out_of rows;
      greatest = x.greatest;
      watches = x.hub;
      room = record { entries = stored.spare; endings = stored.endings; messages = x.queue.spare };
    } in
    let before = subst (λ (v : Database). IsEffective v at) (sym c.self.view_is) c.requires.effective in
    let effective : IsEffective w at = record { late = before.late; within = before.within } in
    let out = subst (λ (v : Database). is_out id v.out ≡ true) (sym c.self.view_is) c.requires.out in
    let there = taken_there id rows (sym (out-rows id rows) ∙ out) in
    let kept = subst (λ (es : List Entry). are_committed es ≡ true) (sym c.in_ok-reserve.ensures.entries) c.self.invariant.3 in
    let puts : List Entry = c.in_ok-puts.puts in
    let is : puts ≡ payloads n (exhausted id (messages_of rows)) = c.in_ok-puts.ensures ∙ c.in_ok-payloads.ensures ∙ ap (λ (v : Database). payloads n (exhausted id v.state.messages)) (sym c.self.view_is) in
    subst (λ (p : Change). Goes w who at (Fail id) p)
    (λ i. record { number = n; moment = at; puts = puts; removed = sym c.new.ensures i; added = sym c.new-2.ensures i; settled = Some (record { id = id; done = false }) })
    (fail_goes w who at n id (fits x.number (messages_of rows) c.self.invariant.2) refl c.self.invariant.0 effective out there kept puts is c.in_ok-reserve.ensures.spare)
