use Rattle.std.proofs.Common.{◌≡◌, ◌≤◌, ◌+◌, true, List, None, length, refl, sym, ap, subst, ◌∙◌, arith}
use Rattle.std.specs.Prelude.{count_by}
use Rattle.dkv_base.specs.declared.types.Call.TheVariants.{Write}
use Rattle.dkv_base.specs.declared.types.Enqueue.{Enqueue}
use Rattle.dkv_base.specs.declared.types.Entry.{Entry}
use Rattle.dkv_base.specs.declared.types.Message.{Message}
use Rattle.dkv_base.specs.Messages.{made_from}
use Rattle.dkv_base.proofs.AfterNothing.{FailsFit}
use Rattle.dkv_atomic.specs.Decisions.{IsEffects}
use Rattle.dkv_queue.specs.Rows.{messages_of, out_of}
use Rattle.dkv_queue.specs.declared.row.Row.{Row}
use Rattle.dkv_hub.specs.Frames.{are_committed}
use Rattle.dkv_core.specs.Cores.{Database, Change, IsEffective, ends}
use Rattle.dkv_core.specs.Decisions.{Goes}
use Rattle.dkv_core.proofs.Going.{write_goes}
use Rattle.dkv_core.proofs.Kept.{fits}
use Rattle.dkv_core.proofs.machine.Core.prepare_effects.Goals as goal

pub returns-clause-goes : goal.returns-clause-goes
returns-clause-goes c who =
    let x = c.self.inside in
    let at = c.args.at in
    let n = x.number + 1 in
    let write = c.args.write.now in
    let e = c.args.effects in
    let stored = c.reserve.new.self in
    let queue = c.reserve-2.new.self in
    let w : Database = record {
      state = record { number = x.number; moment = x.last; entries = stored.entries; messages = messages_of queue.rows };
      out = out_of queue.rows;
      greatest = x.greatest;
      watches = x.hub;
      room = record { entries = stored.spare; endings = stored.endings; messages = queue.spare };
    } in
    let fit = subst (λ (rows : List Row). FailsFit (messages_of rows)) (sym c.in_ok-reserve-2.ensures.rows) (fits x.number (messages_of x.queue.rows) c.self.invariant.2) in
    let first = subst (λ (v : Database). IsEffects v.state.entries write at (v.state.number + 1) e) (sym c.self.view_is) c.requires.does in
    let does = subst (λ (es : List Entry). IsEffects es write at n e) (sym c.in_ok-reserve.ensures.entries) first in
    let kept = subst (λ (es : List Entry). are_committed es ≡ true) (sym c.in_ok-reserve.ensures.entries) c.self.invariant.3 in
    let before = subst (λ (v : Database). IsEffective v at) (sym c.self.view_is) c.requires.effective in
    let effective : IsEffective w at = record { late = before.late; within = before.within } in
    let added = c.in_ok-added.ensures ∙ ap (λ (qs : List Enqueue). made_from n 0 qs) c.as_slice.ensures in
    let puts : List Entry = c.in_ok-puts.puts in
    let same : puts ≡ e.puts = c.in_ok-puts.ensures in
    let entries : length e.puts ≤ w.room.entries = omega (arith, ap (λ (es : List Entry). length es) same, c.in_ok-reserve.ensures.spare) in
    let endings : count_by ends e.puts ≤ w.room.endings = omega (arith, ap (λ (es : List Entry). count_by ends es) same, c.in_ok-reserve.ensures.endings) in
    let messages : length (made_from n 0 write.enqueues) ≤ w.room.messages = omega (arith, ap (λ (ms : List Message). length ms) added, c.in_ok-reserve-2.ensures.room, c.len.ensures) in
    subst (λ (p : Change). Goes w who at (Write write) p)
    (λ i. record { number = n; moment = at; puts = sym same i; removed = e.removed; added = sym added i; settled = None })
    (write_goes w who at n write e fit refl does c.self.invariant.0 kept effective c.requires.free entries endings messages)
