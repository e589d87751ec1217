-- What a run answers to a watch and to a poll is what the definitions answer.
use Rattle.std.proofs.Common.{◌≡◌, ℕ, Bool, List, Option, Some, None, refl, sym, ap, subst, ◌∙◌}
use Rattle.std.specs.Prelude.{max}
use Rattle.std.specs.Option.{option_map_or}
use Rattle.dkv_base.specs.declared.types.Answer.{Answer}
use Rattle.dkv_base.specs.declared.types.Answer.TheVariants as answer
use Rattle.dkv_base.specs.declared.types.Ask.{Ask}
use Rattle.dkv_base.specs.declared.types.Ask.TheVariants as ask
use Rattle.dkv_base.specs.declared.types.AtomicWrite.{AtomicWrite}
use Rattle.dkv_base.specs.declared.types.Frame.{Frame}
use Rattle.dkv_base.specs.declared.types.MsgId.{MsgId}
use Rattle.dkv_base.specs.declared.types.ReadRange.{ReadRange}
use Rattle.dkv_base.specs.declared.types.Step.{Step}
use Rattle.dkv_base.specs.declared.codes.Limit.{Limit}
use Rattle.dkv_base.specs.Limits.{watch_limit}
use Rattle.dkv_base.specs.Moments.{capped_moment}
use Rattle.dkv_base.specs.Replies.{Reply, said, limited, frame, shown}
use Rattle.dkv_base.specs.State.{State}
use Rattle.dkv_base.specs.Steps.{Situation, Watching, watch_of, effective, reply_to, answered, has_shown}
use Rattle.dkv_hub.specs.Frames.{last_told}
use Rattle.dkv_core.specs.Cores.{Database}
use Rattle.dkv_core.specs.Runs.{StandsFor, IsAnswered, IsAnsweredBeside, IsStep}
use Rattle.dkv_core.specs.Seats.{AreWatchesOf, HasBegun, IsSeatedAnew, IsWatchOf, seat_of}
use Rattle.dkv_core.specs.declared.seats.Seat.{Seat}
use Rattle.dkv_core.proofs.Replying.{SameAt, rises}
use Rattle.dkv_core.proofs.Seated.{Watches, watches_anew, watches_seat, watches_none}

-- ---- asks of no watch

-- an ask that leaves who watches
abbrev Leaves : ℕ → ℕ → Ask → Type 0
Leaves who t a = (s : Situation) (r : Answer) → (answered who t a (said r) s).watchers ≡ s.watchers

leaves_read : (who t : ℕ) (ranges : List ReadRange) → Leaves who t (ask.Read ranges)
leaves_read who t ranges s r = elim r as (λ q. (answered who t (ask.Read ranges) (said q) s).watchers ≡ s.watchers) [ answer.Limit passed ↦ refl | _ ↦ refl ]

leaves_write : (who t : ℕ) (w : AtomicWrite) → Leaves who t (ask.Write w)
leaves_write who t w s r = elim r as (λ q. (answered who t (ask.Write w) (said q) s).watchers ≡ s.watchers) [ answer.Limit passed ↦ refl | _ ↦ refl ]

leaves_take : (who t : ℕ) → Leaves who t ask.Take
leaves_take who t s r = elim r as (λ q. (answered who t ask.Take (said q) s).watchers ≡ s.watchers) [ answer.Limit passed ↦ refl | _ ↦ refl ]

leaves_settle : (who t : ℕ) (id : MsgId) (done : Bool) → Leaves who t (ask.Settle id done)
leaves_settle who t id done s r = elim r as (λ q. (answered who t (ask.Settle id done) (said q) s).watchers ≡ s.watchers) [ answer.Limit passed ↦ refl | _ ↦ refl ]

-- so it is beside seats, which stay
beside_of : (c d : Database) (seats : List Seat) (who t : ℕ) (a : Ask) (r : Answer) → Leaves who t a → IsAnswered c who t a r d → IsAnsweredBeside c seats who t a r d seats
beside_of c d seats who t a r leaves is = λ s stands are.
    let one = is s stands in
    (one.0, one.1, subst (λ (ws : List Watching). AreWatchesOf ws seats) (sym (leaves s r)) are)

-- ---- a new watch

-- a watch of keys that pass a limit changes nothing
pub watch_limited : (c : Database) (seats : List Seat) (who t : ℕ) (keys : List (List ℕ)) (passed : Limit) → watch_limit keys ≡ Some passed
    → IsAnsweredBeside c seats who t (ask.Watch keys) (answer.Limit passed) c seats
watch_limited c seats who t keys passed is = λ s stands are.
    (ap (λ (o : Option Limit). option_map_or limited o (said (answer.Frame (frame s.state t keys None)))) is, stands, are)

-- a caller's watch has shown what stands in the core
shown_there : (s : Situation) (c d : Database) (who t : ℕ) (keys : List (List ℕ)) → SameAt c t d → StandsFor s c → StandsFor (record (has_shown who t keys s) { greatest = t }) d
shown_there s c d who t keys same stands =
    let up = rises s c d t same stands in
    record { state = up.state; out = up.out; greatest = up.greatest; unstopped = up.unstopped; unlimited = up.unlimited }

-- a new watch that has shown its first frame
pub watch_begun : (c d : Database) (seats new : List Seat) (who t : ℕ) (keys : List (List ℕ)) (f : Option Frame) → watch_limit keys ≡ None → HasBegun c who t keys seats f new → SameAt c t d
    → IsAnsweredBeside c seats who t (ask.Watch keys) (answer.Frame f) d new
watch_begun c d seats new who t keys f free begun same = λ s stands are. (
  ap (λ (o : Option Limit). option_map_or limited o (said (answer.Frame (frame s.state t keys None)))) free
      ∙ ap (λ (x : State). said (answer.Frame (frame x t keys None))) stands.state ∙ ap (λ (g : Option Frame). said (answer.Frame g)) (sym begun.first),
  shown_there s c d who t keys same stands,
  watches_anew who keys (shown s.state t keys) s.watchers seats new begun.seat begun.anew begun.watches
      (begun.told ∙ ap (λ (x : State). Some (shown x t keys)) (sym stands.state)) are,
)

-- ---- a poll

-- a caller without a seat polls in vain
pub poll_none : (c : Database) (seats : List Seat) (who t : ℕ) → seat_of who seats ≡ None → IsAnsweredBeside c seats who t ask.Poll answer.NoWatch c seats
poll_none c seats who t none = λ s stands are.
    let absent : watch_of who s.watchers ≡ None = watches_none (watch_of who s.watchers) (subst (λ (o : Option Seat). IsWatchOf (watch_of who s.watchers) o) none (are who)) in
    (ap (λ (o : Option Watching). option_map_or (λ w. said (answer.Frame (frame s.state t w.keys (Some w.last)))) o (said answer.NoWatch)) absent, stands, are)

-- a seat whose watcher has shown what a poll tells
pub poll_shown : (c d : Database) (seats new : List Seat) (old s' : Seat) (who t : ℕ) (f : Option Frame) → seat_of who seats ≡ Some old → IsSeatedAnew who seats s' new
    → s'.watcher.keys ≡ old.watcher.keys → last_told s'.watcher.shown ≡ Some (shown c.state t old.watcher.keys) → f ≡ frame c.state t old.watcher.keys (last_told old.watcher.shown) → SameAt c t d
    → IsAnsweredBeside c seats who t ask.Poll (answer.Frame f) d new
poll_shown c d seats new old s' who t f there anew keys told gives same = λ s stands are.
    let it : Watches (watch_of who s.watchers) old = watches_seat (watch_of who s.watchers) old (subst (λ (o : Option Seat). IsWatchOf (watch_of who s.watchers) o) there (are who)) in
    let after : Situation = record (option_map_or (λ w. has_shown who t w.keys s) (watch_of who s.watchers) s) { greatest = t } in
    let leads : record (has_shown who t it.watch.keys s) { greatest = t } ≡ after =
    λ i. record (option_map_or (λ (w : Watching). has_shown who t w.keys s) (sym it.is i) s) { greatest = t } in (
      ap (λ (o : Option Watching). option_map_or (λ w. said (answer.Frame (frame s.state t w.keys (Some w.last)))) o (said answer.NoWatch)) it.is
          ∙ (λ i. said (answer.Frame (frame (stands.state i) t (it.keys i) (sym it.told i))))
          ∙ ap (λ (g : Option Frame). said (answer.Frame g)) (sym gives),
      subst (λ (u : Situation). StandsFor u d) leads (shown_there s c d who t it.watch.keys same stands),
      subst (λ (u : Situation). AreWatchesOf u.watchers new) leads
          (watches_anew who it.watch.keys (shown s.state t it.watch.keys) s.watchers seats new s' anew (keys ∙ sym it.keys)
          (told ∙ (λ i. Some (shown (sym stands.state i) t (sym it.keys i)))) are),
    )

-- ---- steps

-- a step is its ask at its effective moment
pub as_step : (c d : Database) (seats new : List Seat) (p : Step) (a : Ask) (t : ℕ) (r : Answer) → t ≡ max (capped_moment p.at) c.greatest → p.ask ≡ a → IsAnsweredBeside c seats p.who t a r d new
    → IsStep c seats p r d new
as_step c d seats new p a t r at asks is = λ s stands are.
    let when : t ≡ effective s p.at = at ∙ ap (λ (g : ℕ). max (capped_moment p.at) g) (sym stands.greatest) in
    let Goes : ℕ → Ask → Type 0 = λ u b. (reply_to s p.who u b ≡ said r) × StandsFor (answered p.who u b (said r) s) d × AreWatchesOf (answered p.who u b (said r) s).watchers new in
    let here : Goes (effective s p.at) p.ask = subst (λ (u : ℕ). Goes u p.ask) when (subst (λ (b : Ask). Goes t b) (sym asks) (is s stands are)) in
    let To : Reply → Type 0 = λ q. StandsFor (answered p.who (effective s p.at) p.ask q s) d × AreWatchesOf (answered p.who (effective s p.at) p.ask q s).watchers new in
    let led : To (reply_to s p.who (effective s p.at) p.ask) = subst To (sym here.0) (here.1, here.2) in
    (here.0, led.0, led.1)

-- the steps of no watch leave the seats
pub step_read : (c d : Database) (seats : List Seat) (p : Step) (ranges : List ReadRange) (t : ℕ) (r : Answer) → t ≡ max (capped_moment p.at) c.greatest → p.ask ≡ ask.Read ranges
    → IsAnswered c p.who t (ask.Read ranges) r d → IsStep c seats p r d seats
step_read c d seats p ranges t r at asks is = as_step c d seats seats p (ask.Read ranges) t r at asks (beside_of c d seats p.who t (ask.Read ranges) r (leaves_read p.who t ranges) is)

pub step_write : (c d : Database) (seats : List Seat) (p : Step) (w : AtomicWrite) (t : ℕ) (r : Answer) → t ≡ max (capped_moment p.at) c.greatest → p.ask ≡ ask.Write w
    → IsAnswered c p.who t (ask.Write w) r d → IsStep c seats p r d seats
step_write c d seats p w t r at asks is = as_step c d seats seats p (ask.Write w) t r at asks (beside_of c d seats p.who t (ask.Write w) r (leaves_write p.who t w) is)

pub step_take : (c d : Database) (seats : List Seat) (p : Step) (t : ℕ) (r : Answer) → t ≡ max (capped_moment p.at) c.greatest → p.ask ≡ ask.Take
    → IsAnswered c p.who t ask.Take r d → IsStep c seats p r d seats
step_take c d seats p t r at asks is = as_step c d seats seats p ask.Take t r at asks (beside_of c d seats p.who t ask.Take r (leaves_take p.who t) is)

pub step_settle : (c d : Database) (seats : List Seat) (p : Step) (id : MsgId) (done : Bool) (t : ℕ) (r : Answer) → t ≡ max (capped_moment p.at) c.greatest → p.ask ≡ ask.Settle id done
    → IsAnswered c p.who t (ask.Settle id done) r d → IsStep c seats p r d seats
step_settle c d seats p id done t r at asks is =
    as_step c d seats seats p (ask.Settle id done) t r at asks (beside_of c d seats p.who t (ask.Settle id done) r (leaves_settle p.who t id done) is)
