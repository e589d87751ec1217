use Rattle.std.proofs.Common.{sym, ap, ◌∙◌, Ok}
use Rattle.std.specs.declared.option.Option.{Option}
use Rattle.dkv_hub.specs.Rows.{Watch}
use Rattle.dkv_core.specs.Cores.{Database}
use Rattle.dkv_core.specs.Seats.{rows_after, rows_beside}
use Rattle.dkv_core.proofs.machine.Core.seat.Goals as goal

pub returns-in-Ok-None-clause-watches : goal.returns-in-Ok-None-clause-watches
returns-in-Ok-None-clause-watches c = λ before is.
    let rows = c.args.self.now.watches in
    sym (ap (λ (o : Option Watch). rows_beside c.sit.new.seats.items (rows_after (Ok o) rows)) c.in-Ok-None.field-0-is) ∙ c.in-Ok-None.ensures.rows before rows is

pub returns-in-Ok-Some-clause-watches : goal.returns-in-Ok-Some-clause-watches
returns-in-Ok-Some-clause-watches c = λ before is.
    let rows = c.args.self.now.watches in
    ap (λ (v : Database). rows_beside c.sit.new.seats.items v.watches) c.unwatch.ensures
    ∙ sym (ap (λ (o : Option Watch). rows_beside c.sit.new.seats.items (rows_after (Ok o) rows)) c.in-Ok-Some.field-0-is)
    ∙ c.in-Ok-Some.ensures.rows before rows is
