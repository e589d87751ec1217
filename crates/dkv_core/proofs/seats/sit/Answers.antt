use Rattle.std.proofs.Common.{List, set, refl, sym, ap, ◌∙◌, Some}
use Rattle.std.specs.Prelude.{option_map, position}
use Rattle.std.specs.declared.option.Option.{Option}
use Rattle.dkv_hub.specs.Rows.{rows_without}
use Rattle.dkv_core.specs.Seats.{is_seat_of, rows_beside}
use Rattle.dkv_core.specs.declared.seats.Seat.{Seat}
use Rattle.dkv_core.proofs.Seated.{IsPlace, none_placed, place_found, seat_there, seated_set, seated_push}
use Rattle.dkv_core.proofs.SeatRows.{beside_ended, beside_pushed, beside_replaced}
use Rattle.dkv_core.proofs.seats.sit.Goals as goal

pub returns-in-Some-clause-anew : goal.returns-in-Some-clause-anew
returns-in-Some-clause-anew c =
    let seats : List Seat = c.args.seats.now.items in
    let who = c.args.seat.who in
    let i = c.in-Some.place in
    let there : IsPlace who seats i = place_found who seats i (c.in-Some.ensures ∙ ap (λ ss. position (is_seat_of who) ss) c.as_slice.ensures.value) in
    rw c.replace-watcher.ensures.after (seated_set who seats i c.args.seat c.index_mut.result.now there c.index_mut.ensures.value refl)

pub returns-in-Some-clause-replaced : goal.returns-in-Some-clause-replaced
returns-in-Some-clause-replaced c =
    let seats : List Seat = c.args.seats.now.items in
    let who = c.args.seat.who in
    let i = c.in-Some.place in
    let there : IsPlace who seats i = place_found who seats i (c.in-Some.ensures ∙ ap (λ ss. position (is_seat_of who) ss) c.as_slice.ensures.value) in
    ap (λ (o : Seat). Some o.watcher) c.replace-watcher.ensures.value
    ∙ sym (ap (λ (o : Option Seat). option_map (λ s. s.watcher) o) (seat_there who seats i c.index_mut.result.now there c.index_mut.ensures.value))

pub returns-in-Some-clause-rows : goal.returns-in-Some-clause-rows
returns-in-Some-clause-rows c = λ before rows is.
    let seats : List Seat = c.args.seats.now.items in
    let who = c.args.seat.who in
    let i = c.in-Some.place in
    let there : IsPlace who seats i = place_found who seats i (c.in-Some.ensures ∙ ap (λ ss. position (is_seat_of who) ss) c.as_slice.ensures.value) in
    let gone = ap (λ (o : Seat). rows_without o.watcher.number o.watcher.keys rows) c.replace-watcher.ensures.value in
    rw c.replace-watcher.ensures.after (ap (λ rs. rows_beside (set seats i c.args.seat) rs) gone
    ∙ beside_replaced before rows seats i c.args.seat c.index_mut.result.now there.within c.index_mut.ensures.value is)

pub returns-in-Ok-clause-anew : goal.returns-in-Ok-clause-anew
returns-in-Ok-clause-anew c =
    let seats : List Seat = c.args.seats.now.items in
    let who = c.args.seat.who in
    let none = none_placed who seats (c.in-None.ensures ∙ ap (λ ss. position (is_seat_of who) ss) c.as_slice.ensures.value) in
    rw c.in-Ok.ensures.items (seated_push who seats c.args.seat none refl)

pub returns-in-Ok-clause-replaced : goal.returns-in-Ok-clause-replaced
returns-in-Ok-clause-replaced c =
    let seats : List Seat = c.args.seats.now.items in
    let who = c.args.seat.who in
    let none = none_placed who seats (c.in-None.ensures ∙ ap (λ ss. position (is_seat_of who) ss) c.as_slice.ensures.value) in
    sym (ap (λ (o : Option Seat). option_map (λ s. s.watcher) o) none)

pub returns-in-Ok-clause-rows : goal.returns-in-Ok-clause-rows
returns-in-Ok-clause-rows c = λ before rows is.
    rw c.in-Ok.ensures.items (beside_pushed before rows c.args.seats.now.items c.args.seat is)

pub returns-in-Err-clause-rows : goal.returns-in-Err-clause-rows
returns-in-Err-clause-rows c = λ before rows is.
    let gone = ap (λ (o : Seat). rows_without o.watcher.number o.watcher.keys rows) c.in-Err.ensures.value_returned in
    rw c.in-Err.ensures.items (ap (λ rs. rows_beside c.args.seats.now.items rs) gone ∙ beside_ended before rows c.args.seats.now.items c.args.seat is)
