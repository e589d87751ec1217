use Rattle.std.proofs.Common.{◌≡◌, ◌+◌, true, [], List, Some, refl, sym, subst, ◌∙◌}
use Rattle.dkv_base.specs.declared.types.Call.TheVariants.{Ack}
use Rattle.dkv_base.specs.Messages.{is_out}
use Rattle.dkv_queue.specs.Rows.{messages_of, out_of}
use Rattle.dkv_queue.specs.declared.row.Row.{Row}
use Rattle.dkv_core.specs.Cores.{Database, Change, IsEffective}
use Rattle.dkv_core.specs.Decisions.{Goes}
use Rattle.dkv_core.proofs.Kept.{fits}
use Rattle.dkv_queue.proofs.Laws.{out-rows}
use Rattle.dkv_core.proofs.Rows.{taken_there}
use Rattle.dkv_core.proofs.Settles.{ack_goes}
use Rattle.dkv_core.proofs.machine.Core.prepare_ack.Goals as goal

pub returns : goal.returns
returns c who =
    let x = c.self.inside in
    let rows : List Row = x.queue.rows in
    let w : Database = record {
      state = record { number = x.number; moment = x.last; entries = x.entries.entries; messages = messages_of rows };
      out = out_of rows;
      greatest = x.greatest;
      watches = x.hub;
      room = record { entries = x.entries.spare; endings = x.entries.endings; messages = x.queue.spare };
    } in
    let effective = subst (λ (v : Database). IsEffective v c.args.at) (sym c.self.view_is) c.requires.effective in
    let out = subst (λ (v : Database). is_out c.args.id v.out ≡ true) (sym c.self.view_is) c.requires.out in
    let there = taken_there c.args.id rows (sym (out-rows c.args.id rows) ∙ out) in
    let goes = ack_goes w who c.args.at (x.number + 1) c.args.id (fits x.number (messages_of rows) c.self.invariant.2) refl c.self.invariant.0 effective out there c.self.invariant.3 in
    let asked : Change = record { number = x.number + 1; moment = c.args.at; puts = []; removed = []; added = []; settled = Some (record { id = c.args.id; done = true }) } in
    let given : Change = record { number = x.number + 1; moment = c.args.at; puts = c.new.result; removed = c.new-2.result; added = c.new-3.result; settled = Some (record { id = c.args.id; done = true }) } in
    let same : asked ≡ given = λ i. record { number = x.number + 1; moment = c.args.at; puts = sym c.new.ensures i; removed = sym c.new-2.ensures i; added = sym c.new-3.ensures i; settled = Some (record { id = c.args.id; done = true }) } in
    subst (λ (v : Database). Goes v who c.args.at (Ack c.args.id) given) c.self.view_is (subst (λ (p : Change). Goes w who c.args.at (Ack c.args.id) p) same goes)
