-- The calls of a store beside the seats of all callers who watch: for whoever keeps these.
use Rattle.std.proofs.Common.{◌≡◌, ℕ, Bool, true, false, cond, ◌==◌, List, Option, Some, None, refl, sym, ap, subst, ◌∙◌}
use Rattle.std.specs.Prelude.{◌&&◌}
use Rattle.std.specs.Option.{option_map_or}
use Rattle.std.proofs.lemmas.Bool.{eqb-true}
use Rattle.dkv_base.specs.declared.types.Answer.{Answer}
use Rattle.dkv_base.specs.declared.types.Answer.TheVariants as answer
use Rattle.dkv_base.specs.declared.types.Ask.{Ask}
use Rattle.dkv_base.specs.declared.types.Ask.TheVariants as ask
use Rattle.dkv_base.specs.declared.types.Frame.{Frame}
use Rattle.dkv_base.specs.declared.codes.Limit.{Limit}
use Rattle.dkv_base.specs.Limits.{watch_limit}
use Rattle.dkv_base.specs.Replies.{Reply, said, stopped, full, disk_fault, limited, frame}
use Rattle.dkv_base.specs.Steps.{Situation, Watching, watch_of, effective, step_at, reply_to, answered, doubted, is_commit}
use Rattle.dkv_hub.specs.Rows.{WatchRow}
use Rattle.dkv_core.specs.Seats.{AreWatchesOf, IsSeatedAnew, IsWatchOf, seat_of}
use Rattle.dkv_core.specs.declared.seats.Seat.{Seat}
use Rattle.dkv_core.proofs.Seated.{watches_none}
use Rattle.dkv_store.specs.Stores.{Contents}
use Rattle.dkv_store.specs.Situations.{Answers, StandsFor}
use Rattle.dkv_store.specs.Watches.{with_watches, OthersStay, AnswersPoll, AnswersWatch, AnswersBeside}
use Rattle.dkv_store.proofs.Watched.{still_stands}

-- ---- asks of no watch

-- an ask that neither begins a watch nor polls one
abbrev pub IsOfNoWatch : Ask → Type 0
IsOfNoWatch (ask.Read ranges) = Unit {0}
IsOfNoWatch (ask.Write w) = Unit {0}
IsOfNoWatch (ask.Watch keys) = ⊥
IsOfNoWatch ask.Poll = ⊥
IsOfNoWatch ask.Take = Unit {0}
IsOfNoWatch (ask.Settle id done) = Unit {0}

-- so whoever watches does so as before
answered_leaves : (s : Situation) (who t : ℕ) (a : Ask) (r : Reply) → IsOfNoWatch a → (answered who t a r s).watchers ≡ s.watchers
answered_leaves s who t (ask.Read ranges) r none = elim r as (λ q. (answered who t (ask.Read ranges) q s).watchers ≡ s.watchers) [
  | said x ↦ elim x as (λ y. (answered who t (ask.Read ranges) (said y) s).watchers ≡ s.watchers) [ answer.Limit passed ↦ refl | _ ↦ refl ]
  | _ ↦ refl
]
answered_leaves s who t (ask.Write w) r none = elim r as (λ q. (answered who t (ask.Write w) q s).watchers ≡ s.watchers) [
  | said x ↦ elim x as (λ y. (answered who t (ask.Write w) (said y) s).watchers ≡ s.watchers) [ answer.Limit passed ↦ refl | _ ↦ refl ]
  | _ ↦ refl
]
answered_leaves s who t (ask.Watch keys) r none = absurd none
answered_leaves s who t ask.Poll r none = absurd none
answered_leaves s who t ask.Take r none = elim r as (λ q. (answered who t ask.Take q s).watchers ≡ s.watchers) [
  | said x ↦ elim x as (λ y. (answered who t ask.Take (said y) s).watchers ≡ s.watchers) [ answer.Limit passed ↦ refl | _ ↦ refl ]
  | _ ↦ refl
]
answered_leaves s who t (ask.Settle id done) r none = elim r as (λ q. (answered who t (ask.Settle id done) q s).watchers ≡ s.watchers) [
  | said x ↦ elim x as (λ y. (answered who t (ask.Settle id done) (said y) s).watchers ≡ s.watchers) [ answer.Limit passed ↦ refl | _ ↦ refl ]
  | _ ↦ refl
]

-- whether the step is marked or not
pub step_leaves : (s : Situation) (who t : ℕ) (a : Ask) (mark : Bool) → IsOfNoWatch a → (step_at s who t a mark).1.watchers ≡ s.watchers
step_leaves s who t a mark none =
    let r = reply_to s who t a in
    elim (mark && is_commit r) as (λ b. (let x : Reply × Situation = cond b (disk_fault, doubted who t s) (r, answered who t a r s) in x.1.watchers) ≡ s.watchers) [
      | true ↦ refl
      | false ↦ answered_leaves s who t a r none
    ]

-- a call of no watch leaves the seats
pub beside_of : {D : Type 0} (old new : Contents D) (seats : List Seat) (who at : ℕ) (a : Ask) (mark : Bool) (r : Reply) → IsOfNoWatch a → Answers old who at a mark r new
    → AnswersBeside old seats who at a mark r new seats
beside_of old new seats who at a mark r none is = λ s stands are.
    let one = is s stands in
    (one.0, one.1, subst (λ (ws : List Watching). AreWatchesOf ws seats) (sym (step_leaves s who (effective s at) a mark none)) are)

-- ---- watches and polls

-- one caller has another watch and another seat, and the others have theirs
seats_anew : (who : ℕ) (ws now : List Watching) (seats later : List Seat) (seat : Seat) → IsSeatedAnew who seats seat later → IsWatchOf (watch_of who now) (Some seat) → OthersStay who ws now
    → AreWatchesOf ws seats → AreWatchesOf now later
seats_anew who ws now seats later seat anew own others are k =
    elim (who == k) as (λ b. (who == k) ≡ b → IsWatchOf (watch_of k now) (seat_of k later)) [
      | true ↦ λ one.
          subst (λ (n : ℕ). IsWatchOf (watch_of n now) (seat_of n later)) (eqb-true who k one)
          (subst (λ (o : Option Seat). IsWatchOf (watch_of who now) o) (sym anew.own) own)
      | false ↦ λ other.
          subst (λ (o : Option Watching). IsWatchOf o (seat_of k later)) (sym (others k other))
          (subst (λ (o : Option Seat). IsWatchOf (watch_of k ws) o) (sym (anew.others k other)) (are k))
    ] refl

-- a seat counts for its watcher alone
same_watcher : (o : Option Watching) (some other : Seat) → some.watcher ≡ other.watcher → IsWatchOf o (Some some) → IsWatchOf o (Some other)
same_watcher None some other same none = absurd none
same_watcher (Some w) some other same is =
    subst (λ (v : Seat). IsWatchOf (Some w) (Some v)) (λ i. record { who = other.who; watcher = same i }) is

-- a poll by the watcher in a seat, which then is in the caller's new one
pub poll_beside : {D : Type 0} (old new : Contents D) (seats later : List Seat) (seat then_seat : Seat) (who at : ℕ) (f : Option Frame) → seat_of who seats ≡ Some seat → IsSeatedAnew who seats then_seat later
    → AnswersPoll old who at seat.watcher f new then_seat.watcher → AnswersBeside old seats who at ask.Poll false (said (answer.Frame f)) new later
poll_beside old new seats later seat then_seat who at f there anew is = λ s stands are.
    let here = subst (λ (o : Option Seat). IsWatchOf (watch_of who s.watchers) o) there (are who) in
    let one = is s stands (same_watcher (watch_of who s.watchers) seat (record { who = who; watcher = seat.watcher }) refl here) in
    let now = (step_at s who (effective s at) ask.Poll false).1.watchers in (
      one.0,
      one.1.stands,
      seats_anew who s.watchers now seats later then_seat anew (same_watcher (watch_of who now) (record { who = who; watcher = then_seat.watcher }) then_seat refl one.1.own) one.1.others are,
    )

-- a watch that began, whose watcher is in the caller's new seat
pub watch_beside : {D : Type 0} (old new : Contents D) (seats later : List Seat) (seat : Seat) (who at : ℕ) (keys : List (List ℕ)) (f : Option Frame) → IsSeatedAnew who seats seat later
    → AnswersWatch old who at keys f new seat.watcher → AnswersBeside old seats who at (ask.Watch keys) false (said (answer.Frame f)) new later
watch_beside old new seats later seat who at keys f anew is = λ s stands are.
    let one = is s stands in
    let now = (step_at s who (effective s at) (ask.Watch keys) false).1.watchers in (
      one.0,
      one.1.stands,
      seats_anew who s.watchers now seats later seat anew (same_watcher (watch_of who now) (record { who = who; watcher = seat.watcher }) seat refl one.1.own) one.1.others are,
    )

-- a row that joins before the call, and one that goes behind it
pub beside_rows : {D : Type 0} (old mid new last : Contents D) (before behind : List WatchRow) (seats later : List Seat) (who at : ℕ) (a : Ask) (mark : Bool) (r : Reply)
    → mid ≡ with_watches before old → last ≡ with_watches behind new → AnswersBeside mid seats who at a mark r new later → AnswersBeside old seats who at a mark r last later
beside_rows old mid new last before behind seats later who at a mark r joined gone is = λ s stands are.
    let one = is s (still_stands old mid before s joined stands) are in
    (one.0, still_stands new last behind (step_at s who (effective s at) a mark).1 gone one.1, one.2)

-- a caller without a seat polls in vain
pub none_beside : {D : Type 0} (old : Contents D) (seats : List Seat) (who at : ℕ) → seat_of who seats ≡ None → AnswersBeside old seats who at ask.Poll false (said answer.NoWatch) old seats
none_beside old seats who at none = λ s stands are.
    let t = effective s at in
    let absent : watch_of who s.watchers ≡ None = watches_none (watch_of who s.watchers) (subst (λ (o : Option Seat). IsWatchOf (watch_of who s.watchers) o) none (are who)) in
    let reply : reply_to s who t ask.Poll ≡ said answer.NoWatch =
    ap (λ (o : Option Watching). option_map_or (λ w. said (answer.Frame (frame s.state t w.keys (Some w.last)))) o (said answer.NoWatch)) absent in
    let same : s ≡ (step_at s who t ask.Poll false).1 = ap (λ (r : Reply). answered who t ask.Poll r s) (sym reply) in
    (reply, subst (λ (u : Situation). StandsFor u old) same stands, subst (λ (u : Situation). AreWatchesOf u.watchers seats) same are)

-- keys that pass a limit begin no watch
pub limited_beside : {D : Type 0} (old : Contents D) (seats : List Seat) (who at : ℕ) (keys : List (List ℕ)) (passed : Limit) → watch_limit keys ≡ Some passed
    → AnswersBeside old seats who at (ask.Watch keys) false (limited passed) old seats
limited_beside old seats who at keys passed is = λ s stands are.
    let t = effective s at in
    let reply : reply_to s who t (ask.Watch keys) ≡ limited passed = ap (λ (o : Option Limit). option_map_or limited o (said (answer.Frame (frame s.state t keys None)))) is in
    let same : s ≡ (step_at s who t (ask.Watch keys) false).1 = ap (λ (r : Reply). answered who t (ask.Watch keys) r s) (sym reply) in
    (reply, subst (λ (u : Situation). StandsFor u old) same stands, subst (λ (u : Situation). AreWatchesOf u.watchers seats) same are)
