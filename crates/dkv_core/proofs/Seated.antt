-- The seats of callers, and their watches in a situation.
use Rattle.std.proofs.Common.{◌≡◌, ℕ, zero, suc, ◌<◌, ◌≤◌, true, false, cond, not, ◌==◌, List, [], ◌∷◌, ◌++◌, length, get_or, set, filter, Option, Some, None, refl, sym, ap, subst, ◌∙◌, arith}
use Rattle.std.specs.Prelude.{position, nat_lt, slice_get}
use Rattle.std.specs.Option.{option_or}
use Rattle.std.specs.List.{position_or_len}
use Rattle.std.proofs.lemmas.Bool.{eqb-true, eq-eqb, ltb-true, ltb-false}
use Rattle.std.proofs.lemmas.List.Folds.{find-set, find_past, find_at, find-append}
use Rattle.dkv_base.specs.Steps.{Watching, watch_of, watching}
use Rattle.dkv_hub.specs.Frames.{last_told}
use Rattle.dkv_core.specs.Seats.{is_seat_of, seat_of, AreWatchesOf, IsWatchOf, IsSeatedAnew}
use Rattle.dkv_core.specs.declared.seats.Seat.{Seat}

-- ---- the place of a seat

-- a place that was found is the first with the caller's seat
pub record IsPlace (who : ℕ) (seats : List Seat) (i : ℕ) : Type 0 where
  pub first : i ≡ position_or_len (is_seat_of who) seats
  pub within : i < length seats

abbrev Placed : ℕ → List Seat → Option ℕ → Type 0
Placed who seats None = seat_of who seats ≡ None
Placed who seats (Some i) = IsPlace who seats i

past_end : (seats : List Seat) (i : ℕ) → length seats ≤ i → slice_get seats i ≡ None
past_end [] i h = refl
past_end (s ∷ seats) zero h = absurd (omega (arith, h))
past_end (s ∷ seats) (suc i) h = past_end seats i (omega (arith, h))

placed : (who : ℕ) (seats : List Seat) → Placed who seats (position (is_seat_of who) seats)
placed who seats =
    let i = position_or_len (is_seat_of who) seats in
    elim (nat_lt i (length seats)) as (λ b. nat_lt i (length seats) ≡ b → Placed who seats (cond b (Some i) None)) [
      | true ↦ λ lt. record { first = refl; within = ltb-true i (length seats) lt }
      | false ↦ λ ge. find_at (is_seat_of who) seats ∙ past_end seats i (ltb-false i (length seats) ge)
    ] refl

-- the place that was found
pub place_found : (who : ℕ) (seats : List Seat) (i : ℕ) → Some i ≡ position (is_seat_of who) seats → IsPlace who seats i
place_found who seats i is = subst (λ (o : Option ℕ). Placed who seats o) (sym is) (placed who seats)

-- where none was found, the caller has no seat
pub none_placed : (who : ℕ) (seats : List Seat) → None ≡ position (is_seat_of who) seats → seat_of who seats ≡ None
none_placed who seats is = subst (λ (o : Option ℕ). Placed who seats o) (sym is) (placed who seats)

got : (seats : List Seat) (i : ℕ) (d : Seat) → i < length seats → slice_get seats i ≡ Some (get_or seats i d)
got [] i d lt = absurd (omega (arith, lt))
got (x ∷ seats) zero d lt = refl
got (x ∷ seats) (suc i) d lt = got seats i d (omega (arith, lt))

-- the seat at the place is the caller's
pub seat_there : (who : ℕ) (seats : List Seat) (i : ℕ) (s : Seat) → IsPlace who seats i → s ≡ get_or seats i s → seat_of who seats ≡ Some s
seat_there who seats i s is at =
    find_at (is_seat_of who) seats ∙ ap (λ k. slice_get seats k) (sym is.first) ∙ got seats i s is.within ∙ ap Some (sym at)

-- what is found passes its test
found_passes : (who : ℕ) (seats : List Seat) (s : Seat) → seat_of who seats ≡ Some s → (s.who == who) ≡ true
found_passes who [] s is = absurd (cc is)
found_passes who (x ∷ seats) s is =
    elim (x.who == who) as (λ b. (x.who == who) ≡ b → cond b (Some x) (seat_of who seats) ≡ Some s → (s.who == who) ≡ true) [
      | true ↦ λ own same. let alike : x ≡ s = cc same in ap (λ (y : Seat). y.who == who) (sym alike) ∙ own
      | false ↦ λ other rest. found_passes who seats s rest
    ] refl is

-- so the seat at the place says
pub seat_who : (who : ℕ) (seats : List Seat) (i : ℕ) (s : Seat) → IsPlace who seats i → s ≡ get_or seats i s → s.who ≡ who
seat_who who seats i s is at = eqb-true s.who who (found_passes who seats s (seat_there who seats i s is at))

-- two callers are not one
apart : (who k n : ℕ) → (who == k) ≡ false → n ≡ who → (n == k) ≡ false
apart who k n other is = ap (λ m. m == k) is ∙ other

-- a seat in the place of another of the same caller
pub seated_set : (who : ℕ) (seats : List Seat) (i : ℕ) (s old : Seat) → IsPlace who seats i → old ≡ get_or seats i old → s.who ≡ who → IsSeatedAnew who seats s (set seats i s)
seated_set who seats i s old is at own = record {
  own = find-set (is_seat_of who) seats i s is.first is.within (eq-eqb s.who who own);
  others = λ k other. find_past (is_seat_of k) seats i s old
      (ap (λ (o : Seat). o.who == k) (sym at) ∙ apart who k old.who other (seat_who who seats i old is at))
      (apart who k s.who other own);
}

-- and one behind the others, where the caller has none
pub seated_push : (who : ℕ) (seats : List Seat) (s : Seat) → seat_of who seats ≡ None → s.who ≡ who → IsSeatedAnew who seats s (seats ++ s ∷ [])
seated_push who seats s none own = record {
  own = find-append (is_seat_of who) seats (s ∷ []) ∙ (λ j. option_or (none j) (cond (eq-eqb s.who who own j) (Some s) None));
  others = λ k other. find-append (is_seat_of k) seats (s ∷ []) ∙ ap (λ b. option_or (seat_of k seats) (cond b (Some s) None)) (apart who k s.who other own) ∙ or_none (seat_of k seats);
}
  where
    or_none : (o : Option Seat) → option_or o None ≡ o
    or_none None = refl
    or_none (Some x) = refl

-- ---- the watches of a situation

-- another caller's watch stays where this caller's is taken out
pub other_stays : (who k : ℕ) (ws : List Watching) → (who == k) ≡ false → watch_of k (filter (λ w. not (w.caller == who)) ws) ≡ watch_of k ws
other_stays who k [] other = refl
other_stays who k (w ∷ ws) other =
    let rest = other_stays who k ws other in
    elim (w.caller == who) as (λ b. (w.caller == who) ≡ b → watch_of k (cond (not b) (w ∷ filter (λ v. not (v.caller == who)) ws) (filter (λ v. not (v.caller == who)) ws)) ≡ watch_of k (w ∷ ws)) [
      | true ↦ λ own. rest ∙ sym (ap (λ b. cond b (Some w) (watch_of k ws)) (apart who k w.caller other (eqb-true w.caller who own)))
      | false ↦ λ away. ap (λ o. cond (w.caller == k) (Some w) o) rest
    ] refl

-- a new watch of one caller, and its seat
pub watches_anew : (who : ℕ) (keys : List (List ℕ)) (last : List (Option ℕ)) (ws : List Watching) (seats new : List Seat) (s : Seat) → IsSeatedAnew who seats s new
    → s.watcher.keys ≡ keys → last_told s.watcher.shown ≡ Some last → AreWatchesOf ws seats → AreWatchesOf (watching (record { caller = who; keys = keys; last = last }) ws) new
watches_anew who keys last ws seats new s anew same told are k =
    let w : Watching = record { caller = who; keys = keys; last = last } in
    elim (who == k) as (λ b. (who == k) ≡ b → IsWatchOf (cond b (Some w) (watch_of k (filter (λ v. not (v.caller == who)) ws))) (seat_of k new)) [
      | true ↦ λ one.
          let here : seat_of k new ≡ Some s = ap (λ n. seat_of n new) (sym (eqb-true who k one)) ∙ anew.own in
          subst (λ (o : Option Seat). IsWatchOf (Some w) o) (sym here) (sym same, told)
      | false ↦ λ other.
          subst (λ (o : Option Watching). IsWatchOf o (seat_of k new)) (sym (other_stays who k ws other))
          (subst (λ (o : Option Seat). IsWatchOf (watch_of k ws) o) (sym (anew.others k other)) (are k))
    ] refl

-- what a caller's watch is, where the caller has a seat
pub record Watches (w : Option Watching) (s : Seat) : Type 0 where
  pub watch : Watching
  pub is : w ≡ Some watch
  pub keys : watch.keys ≡ s.watcher.keys
  pub told : last_told s.watcher.shown ≡ Some watch.last

-- the watch that a caller with a seat has
pub watches_seat : (w : Option Watching) (s : Seat) → IsWatchOf w (Some s) → Watches w s
watches_seat None s h = absurd h
watches_seat (Some v) s h = record { watch = v; is = refl; keys = h.0; told = h.1 }

-- a caller without a seat has none
pub watches_none : (w : Option Watching) → IsWatchOf w None → w ≡ None
watches_none None h = refl
watches_none (Some v) h = absurd h
