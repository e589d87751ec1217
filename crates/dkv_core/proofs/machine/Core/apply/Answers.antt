use Rattle.std.proofs.Common.{◌≡◌, ℕ, ◌+◌, true, List, ◌++◌, sym, ap, subst, ◌∙◌, arith}
use Rattle.std.specs.List.{list_all}
use Rattle.std.specs.Option.{option_map_or}
use Rattle.dkv_base.specs.declared.types.Entry.{Entry}
use Rattle.dkv_base.specs.declared.types.Message.{Message}
use Rattle.dkv_base.specs.Messages.{is_out}
use Rattle.dkv_queue.specs.Rows.{messages_of, out_of}
use Rattle.dkv_queue.specs.declared.row.Row.{Row}
use Rattle.dkv_hub.specs.Frames.{are_committed}
use Rattle.dkv_core.specs.Cores.{Database, Change, IsReady, is_kept, is_made_by, applied, put_all, without_all}
use Rattle.dkv_core.specs.Rows.{is_above}
use Rattle.dkv_core.specs.Settling.{after_settlement, out_after}
use Rattle.dkv_core.specs.declared.prepared.Settled.{Settled}
use Rattle.dkv_core.proofs.Added.{above_earlier, made_schedules}
use Rattle.dkv_core.proofs.Kept.{early-settled, kept-applied}
use Rattle.dkv_core.proofs.Rows.{may_settle, messages-after, out-after}
use Rattle.dkv_core.proofs.machine.Core.apply.Goals as goal

pub settle-requires-clause-out : goal.settle-requires-clause-out
settle-requires-clause-out c =
    let x = c.self.inside in
    let ready = subst (λ (p : Change). IsReady c.args.self.now p) (sym c.prepared.view_is) c.requires in
    let settled = c.prepared.inside.settled in
    sym (may_settle settled x.queue.rows) ∙ ap (λ (v : Database). option_map_or (λ (t : Settled). is_out t.id v.out) settled true) c.self.view_is ∙ ready.settles

pub add_all-requires-clause-above : goal.add_all-requires-clause-above
add_all-requires-clause-above c =
    let x = c.self.inside in
    let p = c.prepared.inside in
    let ready = subst (λ (q : Change). IsReady c.args.self.now q) (sym c.prepared.view_is) c.requires in
    let number : p.number ≡ x.number + 1 = ready.number ∙ ap (λ (v : Database). v.state.number + 1) (sym c.self.view_is) in
    let made = subst (λ (n : ℕ). list_all (is_made_by n) p.added ≡ true) number ready.made in
    subst (λ (ms : List Message). list_all (is_above ms) p.added ≡ true) (sym (ap messages_of c.settle.ensures.rows ∙ messages-after p.settled p.moment x.queue.rows))
    (above_earlier x.number (after_settlement p.settled p.moment (messages_of x.queue.rows)) p.added (early-settled x.number p.moment p.settled (messages_of x.queue.rows) c.self.invariant.2) made)

pub add_all-requires-clause-schedules : goal.add_all-requires-clause-schedules
add_all-requires-clause-schedules c =
    let ready = subst (λ (q : Change). IsReady c.args.self.now q) (sym c.prepared.view_is) c.requires in
    made_schedules c.prepared.inside.number c.prepared.inside.added ready.made

pub invariant_of-self : goal.invariant_of-self
invariant_of-self c =
    let x = c.self.inside in
    let p = c.prepared.inside in
    let ready = subst (λ (q : Change). IsReady c.args.self.now q) (sym c.prepared.view_is) c.requires in
    let number : p.number ≡ x.number + 1 = ready.number ∙ ap (λ (v : Database). v.state.number + 1) (sym c.self.view_is) in
    let made = subst (λ (n : ℕ). list_all (is_made_by n) p.added ≡ true) number ready.made in
    let messages = c.add_all.ensures.messages ∙ ap (λ (ms : List Message). ms ++ p.added) (ap messages_of c.settle.ensures.rows ∙ messages-after p.settled p.moment x.queue.rows) in
    let change : Change = record { number = p.number; moment = p.moment; puts = p.puts; removed = p.removed; added = p.added; settled = p.settled } in
    let entries = c.put_all.ensures.entries ∙ ap (λ (es : List Entry). put_all p.puts es) (c.remove_all.ensures.entries ∙ ap (λ (es : List Entry). without_all p.removed es) c.drop_ended.ensures.entries) in (
      omega arith,
      ready.moment.within,
      ap (list_all (is_kept p.number)) messages
          ∙ ap (λ (n : ℕ). list_all (is_kept n) (after_settlement p.settled p.moment (messages_of x.queue.rows) ++ p.added)) number
          ∙ kept-applied x.number p.moment p.settled (messages_of x.queue.rows) p.added c.self.invariant.2 made,
      ap are_committed entries ∙ ap (λ (v : Database). are_committed (applied change v.state).entries) c.self.view_is ∙ ready.committed,
    )

pub returns-clause-state : goal.returns-clause-state
returns-clause-state c =
    let x = c.self.inside in
    let p = c.prepared.inside in
    let entries = c.put_all.ensures.entries ∙ ap (λ (es : List Entry). put_all p.puts es) (c.remove_all.ensures.entries ∙ ap (λ (es : List Entry). without_all p.removed es) c.drop_ended.ensures.entries) in
    let messages = c.add_all.ensures.messages ∙ ap (λ (ms : List Message). ms ++ p.added) (ap messages_of c.settle.ensures.rows ∙ messages-after p.settled p.moment x.queue.rows) in
    (λ i. record { number = p.number; moment = p.moment; entries = entries i; messages = messages i })
    ∙ (λ i. applied (c.prepared.view_is i) (c.self.view_is i).state)

pub returns-clause-out : goal.returns-clause-out
returns-clause-out c =
    let x = c.self.inside in
    let p = c.prepared.inside in
    c.add_all.ensures.out ∙ ap (λ (rs : List Row). out_of rs) c.settle.ensures.rows ∙ out-after p.settled p.moment x.queue.rows
    ∙ (λ i. out_after (c.prepared.view_is i).settled (c.self.view_is i).out)
