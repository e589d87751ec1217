use Rattle.std.proofs.Common.{◌≡◌, ◌-◌, List, [], ◌++◌, take, sym, ap, ◌∙◌}
use Rattle.dkv_hub.specs.Rows.{rows_without}
use Rattle.dkv_core.specs.Cores.{Database}
use Rattle.dkv_core.specs.Seats.{rows_beside}
use Rattle.dkv_core.specs.declared.seats.Seat.{Seat}
use Rattle.dkv_core.proofs.SeatRows.{beside_left, beside_none}
use Rattle.dkv_core.proofs.machine.Core.leave_all.Goals as goal

pub loop-seat-preserved : goal.loop-seat-preserved
loop-seat-preserved c =
    let left : List Seat = c.pop.new.self.items in
    let s : Seat = c.in-Some.seat in
    let here : Database = c.loop-seat.self in
    let rows = rows_without s.watcher.number s.watcher.keys here.watches in
    let ended = ap (λ (v : Database). v.watches) c.unwatch.ensures in
    record {
      same = c.unwatch.ensures ∙ (λ i. record (c.loop-seat.invariant.same i) { watches = rows }) ∙ (λ i. record c.args.self.now { watches = sym ended i });
      rows = ap (λ rs. rows_beside left rs) ended ∙ beside_left here.watches left s ∙ ap (λ ss. rows_beside ss here.watches) (sym c.in-Some.ensures.items) ∙ c.loop-seat.invariant.rows;
    }

pub returns : goal.returns
returns c =
    let here : Database = c.loop-seat.self in
    let seats : List Seat = c.loop-seat.seats.items in
    let none : seats ≡ [] = c.in_default.ensures.items ∙ ap (λ ss. ss ++ []) (c.in_default.ensures.rest ∙ ap (λ n. take (n - 1) seats) c.in_default.ensures.cases.0) in
    let rows = sym (beside_none here.watches) ∙ ap (λ ss. rows_beside ss here.watches) (sym none) ∙ c.loop-seat.invariant.rows in
    c.loop-seat.invariant.same ∙ (λ i. record c.args.self.now { watches = rows i })
