use Rattle.std.proofs.Common.{List, ap, ◌∙◌}
use Rattle.dkv_core.specs.Cores.{Database}
use Rattle.dkv_core.specs.Seats.{rows_beside}
use Rattle.dkv_core.specs.declared.seats.Seat.{Seat}
use Rattle.dkv_core.proofs.SeatRows.{beside_ended, with_row}
use Rattle.dkv_core.proofs.machine.Core.begin.Goals as goal

pub returns-in-Err-clause-watches : goal.returns-in-Err-clause-watches
returns-in-Err-clause-watches c =
    let seats : List Seat = c.args.seats.now.items in
    let seat : Seat = record { who = c.args.who; watcher = c.show.new.watcher } in
    ap (λ (v : Database). rows_beside seats v.watches) c.unwatch.ensures
    ∙ beside_ended c.args.self.now.watches c.watch.new.self.watches seats seat
    (with_row c.args.self.now c.watch.new.self c.args.who c.args.keys c.in_ok-watcher.watcher c.show.new.watcher c.in_ok-watcher.ensures.watcher c.in_ok-watcher.ensures.number c.in_ok-watcher.ensures.row
    c.in-Err.ensures.keys c.in-Err.ensures.number)
