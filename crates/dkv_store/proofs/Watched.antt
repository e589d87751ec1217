-- What a store answers to those who watch is what the definitions answer in each situation of the store.
use Rattle.std.proofs.Common.{◌≡◌, ℕ, Bool, false, cond, ◌==◌, List, ◌∷◌, filter, Option, Some, None, Result, Ok, Err, IfOk, OnOk, refl, sym, ap, subst, ◌∙◌}
use Rattle.std.specs.Prelude.{max, not}
use Rattle.std.specs.Option.{option_map_or}
use Rattle.std.proofs.lemmas.Bool.{eq-eqb}
use Rattle.dkv_base.specs.declared.types.Answer.TheVariants as answer
use Rattle.dkv_base.specs.declared.types.Ask.{Ask}
use Rattle.dkv_base.specs.declared.types.Ask.TheVariants as ask
use Rattle.dkv_base.specs.declared.types.Frame.{Frame}
use Rattle.dkv_base.specs.declared.types.MsgId.{MsgId}
use Rattle.dkv_base.specs.declared.codes.Limit.{Limit}
use Rattle.dkv_base.specs.Limits.{watch_limit}
use Rattle.dkv_base.specs.Messages.{is_out}
use Rattle.dkv_base.specs.Moments.{capped_moment}
use Rattle.dkv_base.specs.Replies.{Reply, said, limited, frame, shown}
use Rattle.dkv_base.specs.State.{State}
use Rattle.dkv_base.specs.Steps.{Situation, Watching, watch_of, effective, raised, step_at, reply_to, answered, has_shown}
use Rattle.dkv_hub.specs.declared.shown.Shown.{Shown}
use Rattle.dkv_hub.specs.Frames.{last_told}
use Rattle.dkv_hub.specs.Rows.{Watch, WatchRow}
use Rattle.dkv_core.specs.Seats.{IsWatchOf}
use Rattle.dkv_core.specs.declared.seats.Seat.{Seat}
use Rattle.dkv_core.proofs.Seated.{Watches, watches_seat, other_stays}
use Rattle.dkv_store.specs.Stores.{Contents, IsRaisedTo, effective_at}
use Rattle.dkv_store.specs.Situations.{StandsFor}
use Rattle.dkv_store.specs.Watches.{with_watches, raised_to, IsWatchedBy, Watched, AnswersPoll, AnswersWatch, AnswersLast}

-- a store that differs from another in the greatest moment and in who watches alone
pub moved : {D : Type 0} (old new : Contents D) (t : ℕ) (rows : List WatchRow) → new ≡ with_watches rows (raised_to t old) → IsRaisedTo t old new
moved {D} old new t rows is = record {
  base = ap (λ (c : Contents D). c.base) is;
  state = ap (λ (c : Contents D). c.core.state) is;
  out = ap (λ (c : Contents D). c.core.out) is;
  greatest = ap (λ (c : Contents D). c.core.greatest) is;
  trail = ap (λ (c : Contents D). c.trail) is;
  roomless = ap (λ (c : Contents D). c.roomless) is;
  doubt = ap (λ (c : Contents D). c.doubt) is;
  who = ap (λ (c : Contents D). c.who) is;
  limit = ap (λ (c : Contents D). c.limit) is;
  record_bytes = ap (λ (c : Contents D). c.record_bytes) is;
  in_use = ap (λ (c : Contents D). c.in_use) is;
  a = ap (λ (c : Contents D). c.a) is;
  b = ap (λ (c : Contents D). c.b) is;
}

-- a situation of a store is one of the store whose watches began or ended
pub still_stands : {D : Type 0} (old new : Contents D) (rows : List WatchRow) (s : Situation) → new ≡ with_watches rows old → StandsFor s old → StandsFor s new
still_stands old new rows s is stands =
    let same = moved old new old.core.greatest rows is in
    record {
      state = stands.state ∙ sym same.state;
      out = λ k. stands.out k ∙ ap (λ (ids : List MsgId). is_out k ids) (sym same.out);
      greatest = stands.greatest ∙ sym same.greatest;
      trail = stands.trail ∙ sym same.trail;
      limited = stands.limited ∙ sym same.limit;
    }

-- a reply that was given, and what it leads to
given : (s : Situation) (who t : ℕ) (a : Ask) (r : Reply) (P : Situation → Type 0) → reply_to s who t a ≡ r → P (answered who t a r s)
    → ((step_at s who t a false).0 ≡ r) × P (step_at s who t a false).1
given s who t a r P is led = (is, subst (λ (q : Reply). P (answered who t a q s)) (sym is) led)

module _ {D : Type 0} (old new : Contents D) where
  when : (s : Situation) (at : ℕ) → StandsFor s old → effective_at old at ≡ effective s at
  when s at stands = ap (λ (g : ℕ). max (capped_moment at) g) (sym stands.greatest)

  -- the caller's watch has shown what stands in the store, and the others' are as before
  shown_watch : (s : Situation) (who t : ℕ) (keys : List (List ℕ)) (w : Watch) → StandsFor s old → IsRaisedTo t old new → w.keys ≡ keys → last_told w.shown ≡ Some (shown old.core.state t keys)
      → Watched new who w s.watchers (raised t (has_shown who t keys s))
  shown_watch s who t keys w stands same keys_are told =
      let now : Watching = record { caller = who; keys = keys; last = shown s.state t keys } in
      let rest = filter (λ v. not (v.caller == who)) s.watchers in
      let seat : Seat = record { who = who; watcher = w } in
      record {
        stands = record {
          state = stands.state ∙ sym same.state;
          out = λ k. stands.out k ∙ ap (λ (ids : List MsgId). is_out k ids) (sym same.out);
          greatest = sym same.greatest;
          trail = stands.trail ∙ sym same.trail;
          limited = stands.limited ∙ sym same.limit;
        };
        own = subst (λ (b : Bool). IsWatchOf (cond b (Some now) (watch_of who rest)) (Some seat)) (sym (eq-eqb who who refl))
            (sym keys_are, told ∙ ap (λ (x : State). Some (shown x t keys)) (sym stands.state));
        others = λ k other. ap (λ b. cond b (Some now) (watch_of k rest)) other ∙ other_stays who k s.watchers other;
      }

  module _ (at : ℕ) (w later : Watch) (keys : later.keys ≡ w.keys) (same : new ≡ raised_to (effective_at old at) old) where
    -- what a poll tells, and what it leaves noted
    abbrev IsTold : Option Frame → Type 0
    IsTold f = (f ≡ frame old.core.state (effective_at old at) w.keys (last_told w.shown)) × (last_told later.shown ≡ Some (shown old.core.state (effective_at old at) w.keys))

    -- a poll by a watcher
    poll_answers : (f : Option Frame) → IsTold f → (who : ℕ) → AnswersPoll old who at w f new later
    poll_answers f told who = λ s stands own.
        let t = effective_at old at in
        let To : Situation → Type 0 = λ u. Watched new who later s.watchers u in
        let it : Watches (watch_of who s.watchers) (record { who = who; watcher = w }) = watches_seat (watch_of who s.watchers) (record { who = who; watcher = w }) own in
        let reply : reply_to s who t ask.Poll ≡ said (answer.Frame f) =
        ap (λ (o : Option Watching). option_map_or (λ v. said (answer.Frame (frame s.state t v.keys (Some v.last)))) o (said answer.NoWatch)) it.is
        ∙ (λ i. said (answer.Frame (frame (stands.state i) t (it.keys i) (sym it.told i))))
        ∙ ap (λ (g : Option Frame). said (answer.Frame g)) (sym told.0) in
        let led : To (answered who t ask.Poll (said (answer.Frame f)) s) =
        subst (λ (o : Option Watching). To (raised t (option_map_or (λ v. has_shown who t v.keys s) o s))) (sym it.is)
        (shown_watch s who t it.watch.keys later stands (moved old new t old.core.watches same) (keys ∙ sym it.keys) (told.1 ∙ (λ i. Some (shown old.core.state t (sym it.keys i))))) in
        subst (λ (u : ℕ). ((step_at s who u ask.Poll false).0 ≡ said (answer.Frame f)) × To (step_at s who u ask.Poll false).1) (when s at stands)
        (given s who t ask.Poll (said (answer.Frame f)) To reply led)

    -- the first poll of a watcher that has shown nothing is the answer to the watch
    watch_answers : (f : Option Frame) → IsTold f → (who : ℕ) → watch_limit w.keys ≡ None → w.shown ≡ None → AnswersWatch old who at w.keys f new later
    watch_answers f told who free none = λ s stands.
        let t = effective_at old at in
        let a = ask.Watch w.keys in
        let To : Situation → Type 0 = λ u. Watched new who later s.watchers u in
        let reply : reply_to s who t a ≡ said (answer.Frame f) =
        ap (λ (o : Option Limit). option_map_or limited o (said (answer.Frame (frame s.state t w.keys None)))) free
        ∙ ap (λ (x : State). said (answer.Frame (frame x t w.keys None))) stands.state
        ∙ ap (λ (o : Option (List Shown)). said (answer.Frame (frame old.core.state t w.keys (last_told o)))) (sym none)
        ∙ ap (λ (g : Option Frame). said (answer.Frame g)) (sym told.0) in
        subst (λ (u : ℕ). ((step_at s who u a false).0 ≡ said (answer.Frame f)) × To (step_at s who u a false).1) (when s at stands)
        (given s who t a (said (answer.Frame f)) To reply (shown_watch s who t w.keys later stands (moved old new t old.core.watches same) keys told.1))

    -- whatever it came to
    pub polls : {E : Type 0} (r : Result (Option Frame) E) → IfOk r (λ f. f ≡ frame old.core.state (effective_at old at) w.keys (last_told w.shown))
        → OnOk r (last_told later.shown ≡ Some (shown old.core.state (effective_at old at) w.keys)) → IfOk r (λ f. (who : ℕ) → AnswersPoll old who at w f new later)
    polls (Ok f) is told = poll_answers f (is, told)
    polls (Err e) is told = tt

    pub begins : {E : Type 0} (r : Result (Option Frame) E) → IfOk r (λ f. f ≡ frame old.core.state (effective_at old at) w.keys (last_told w.shown))
        → OnOk r (last_told later.shown ≡ Some (shown old.core.state (effective_at old at) w.keys))
        → IfOk r (λ f. (who : ℕ) → watch_limit w.keys ≡ None → w.shown ≡ None → AnswersWatch old who at w.keys f new later)
    begins (Ok f) is told = watch_answers f (is, told)
    begins (Err e) is told = tt

-- a poll whose watch ends then
pub ends : {D : Type 0} {E : Type 0} (old mid new : Contents D) (rows : List WatchRow) (at : ℕ) (w later : Watch) (r : Result (Option Frame) E) → new ≡ with_watches rows mid
    → IfOk r (λ f. (who : ℕ) → AnswersPoll old who at w f mid later) → IfOk r (λ f. (who : ℕ) → AnswersLast old who at w f new)
ends old mid new rows at w later (Ok f) is polled = λ who s stands own.
    let one = polled who s stands own in
    (one.0, still_stands mid new rows (step_at s who (effective s at) ask.Poll false).1 is one.1.stands)
ends old mid new rows at w later (Err e) is polled = tt
