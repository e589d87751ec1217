use Rattle.std.proofs.Common.{List, set, sym, ap, ◌∙◌}
use Rattle.std.specs.Prelude.{position}
use Rattle.dkv_core.specs.Cores.{Database}
use Rattle.dkv_core.specs.Seats.{is_seat_of, rows_beside}
use Rattle.dkv_core.specs.declared.seats.Seat.{Seat}
use Rattle.dkv_core.proofs.Seated.{IsPlace, none_placed, place_found, seat_there, seat_who, seated_set}
use Rattle.dkv_core.proofs.SeatRows.{beside_shown}
use Rattle.dkv_core.proofs.Replying.{SameAt}
use Rattle.dkv_core.proofs.Watching.{poll_none, poll_shown}
use Rattle.dkv_core.proofs.machine.Core.answer_poll.Goals as goal

pub returns-in_default-clause-answer : goal.returns-in_default-clause-answer
returns-in_default-clause-answer c =
    let seats = c.args.seats.now.items in
    poll_none c.args.self.now seats c.args.who c.args.at
    (none_placed c.args.who seats (sym c.in_default.is ∙ c.place_of.ensures ∙ ap (λ ss. position (is_seat_of c.args.who) ss) c.as_slice.ensures.value))

pub returns-clause-answer : goal.returns-clause-answer
returns-clause-answer c =
    let seats : List Seat = c.args.seats.now.items in
    let who = c.args.who in
    let i = c.in-Some.place in
    let there : IsPlace who seats i = place_found who seats i (c.in-Some.ensures ∙ ap (λ ss. position (is_seat_of who) ss) c.as_slice.ensures.value) in
    let old : Seat = c.index_mut-seat.result.now in
    let at = c.index_mut-seat.ensures.value in
    let new : Seat = record old { watcher = c.show.new.watcher } in
    let same : SameAt c.args.self.now c.args.at c.raise.new.self = record {
      state = ap (λ (v : Database). v.state) c.raise.ensures;
      out = ap (λ (v : Database). v.out) c.raise.ensures;
      greatest = ap (λ (v : Database). v.greatest) c.raise.ensures;
    } in
    poll_shown c.args.self.now c.raise.new.self seats (set seats i new) old new who c.args.at c.in_ok-told.told (seat_there who seats i old there at)
    (seated_set who seats i new old there at (seat_who who seats i old there at)) c.in_ok-told.ensures.keys c.in_ok-told.ensures.shown c.in_ok-told.ensures.frame same

pub returns-clause-watches : goal.returns-clause-watches
returns-clause-watches c =
    let seats : List Seat = c.args.seats.now.items in
    let i = c.in-Some.place in
    let old : Seat = c.index_mut-seat.result.now in
    let new : Seat = record old { watcher = c.show.new.watcher } in
    ap (λ (v : Database). rows_beside (set seats i new) v.watches) c.raise.ensures
    ∙ beside_shown c.args.self.now.watches seats i new old c.index_mut-seat.ensures.value c.in_ok-told.ensures.number c.in_ok-told.ensures.keys
