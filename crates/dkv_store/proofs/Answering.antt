-- What the commits of a store answer is what the definitions answer in each situation of the store.
use Rattle.std.proofs.Common.{◌≡◌, ℕ, ◌+◌, Bool, true, false, cond, ◌<◌, ◌≤◌, ◌≢◌, List, [], ◌∷◌, ◌++◌, Option, Some, None, Result, Ok, Err, inl, refl, sym, ap, subst, ◌∙◌}
use Rattle.std.specs.Prelude.{max, not, ◌&&◌, nat_lt, MatchResult}
use Rattle.std.specs.Result.{result_err}
use Rattle.std.proofs.lemmas.Bool.{le-ltb, lt-ltb}
use Rattle.dkv_base.specs.declared.types.Answer.{Answer}
use Rattle.dkv_base.specs.declared.types.Answer.TheVariants as answer
use Rattle.dkv_base.specs.declared.types.Ask.{Ask}
use Rattle.dkv_base.specs.declared.types.Ask.TheVariants as ask
use Rattle.dkv_base.specs.declared.types.AtomicWrite.{AtomicWrite}
use Rattle.dkv_base.specs.declared.types.Call.{Call}
use Rattle.dkv_base.specs.declared.types.Call.TheVariants as call
use Rattle.dkv_base.specs.declared.types.Commit.TheVariants as commit
use Rattle.dkv_base.specs.declared.types.Item.TheVariants as item
use Rattle.dkv_base.specs.declared.types.Item.{Item}
use Rattle.dkv_base.specs.declared.types.MsgId.{MsgId}
use Rattle.dkv_base.specs.declared.codes.Limit.{Limit}
use Rattle.dkv_base.specs.Limits.{write_limit}
use Rattle.dkv_base.specs.State.{State, same_id, seen}
use Rattle.dkv_base.specs.Moments.{capped_moment}
use Rattle.dkv_base.specs.After.{after, is_legal_in}
use Rattle.dkv_base.specs.Messages.{is_out}
use Rattle.dkv_base.specs.Writes.{failing, mutated_all}
use Rattle.dkv_base.specs.Trails.{out, weight, first_stop}
use Rattle.dkv_base.specs.Replies.{Reply, said, stopped, disk_fault, full}
use Rattle.dkv_base.specs.Steps.{Situation, effective, raised, step_at, reply_to, answered, doubted, is_commit}
use Rattle.dkv_core.specs.Decisions.{commit_of, may_ask, settled_by}
use Rattle.dkv_core.specs.Settling.{out_after}
use Rattle.dkv_core.proofs.Replying.{rows, free, out-without}
use Rattle.dkv_store.specs.declared.answers.Done.{Done}
use Rattle.dkv_store.specs.declared.answers.Done.TheVariants as done
use Rattle.dkv_store.specs.declared.answers.Refusal.{Refusal}
use Rattle.dkv_store.specs.declared.answers.Refusal.TheVariants as refusal
use Rattle.dkv_store.specs.Stores.{Contents, IsDone, IsHeldBack, IsRefused, IsMade, IsDoubtful, IsFull, IsRaisedTo, effective_at}
use Rattle.dkv_store.specs.Trails.{FindsNoStop, FitsIn}
use Rattle.dkv_store.specs.Situations.{StandsFor, Answers, AnswersCall, ask_of, made_answer}
use Rattle.dkv_store.proofs.Trailing.{leased_made}

-- ---- the rows of a reply to a write

fails_row : (places : List ℕ) (bad : Option ℕ) (over : Bool) (heavy : Reply) (n : ℕ) → places ≢ [] → rows None None places bad over heavy n ≡ said (answer.Fails places)
fails_row [] bad over heavy n some = absurd (some refl)
fails_row (place ∷ places) bad over heavy n some = refl

-- a read changes the greatest moment alone
pub raised_alone : {D : Type 0} (old new : Contents D) (t : ℕ) → new ≡ record old { core = record old.core { greatest = t } } → IsRaisedTo t old new
raised_alone {D} old new t is = record {
  base = ap (λ (c : Contents D). c.base) is;
  state = ap (λ (c : Contents D). c.core.state) is;
  out = ap (λ (c : Contents D). c.core.out) is;
  greatest = ap (λ (c : Contents D). c.core.greatest) is;
  trail = ap (λ (c : Contents D). c.trail) is;
  roomless = ap (λ (c : Contents D). c.roomless) is;
  doubt = ap (λ (c : Contents D). c.doubt) is;
  who = ap (λ (c : Contents D). c.who) is;
  limit = ap (λ (c : Contents D). c.limit) is;
  record_bytes = ap (λ (c : Contents D). c.record_bytes) is;
  in_use = ap (λ (c : Contents D). c.in_use) is;
  a = ap (λ (c : Contents D). c.a) is;
  b = ap (λ (c : Contents D). c.b) is;
}

module _ {D : Type 0} (old new : Contents D) where
  when : (s : Situation) (at : ℕ) → StandsFor s old → effective_at old at ≡ effective s at
  when s at stands = ap (λ (g : ℕ). max (capped_moment at) g) (sym stands.greatest)

  -- a situation of the store is one of the store that was raised, where it is raised
  pub rises : (s : Situation) (t : ℕ) → StandsFor s old → IsRaisedTo t old new → StandsFor (raised t s) new
  rises s t stands same = record {
    state = stands.state ∙ sym same.state;
    out = λ k. stands.out k ∙ ap (λ (ids : List MsgId). is_out k ids) (sym same.out);
    greatest = sym same.greatest;
    trail = stands.trail ∙ sym same.trail;
    limited = stands.limited ∙ sym same.limit;
  }

  -- the reply in each situation, and where it leads
  pub unmarked : (who at : ℕ) (a : Ask) (q : Reply)
      → ((s : Situation) → StandsFor s old → (reply_to s who (effective_at old at) a ≡ q) × StandsFor (answered who (effective_at old at) a q s) new)
      → Answers old who at a false q new
  unmarked who at a q is = λ s stands.
      let t = effective_at old at in
      let here = is s stands in
      subst (λ (u : ℕ). ((step_at s who u a false).0 ≡ q) × StandsFor (step_at s who u a false).1 new) (when s at stands)
      (here.0, subst (λ (r : Reply). StandsFor (answered who t a r s) new) (sym here.0) here.1)

  -- a commit that is marked leaves a doubt
  marked : (who at : ℕ) (a : Ask) (r : Answer) → is_commit (said r) ≡ true
      → ((s : Situation) → StandsFor s old → reply_to s who (effective_at old at) a ≡ said r)
      → IsDoubtful who (effective_at old at) old new → Answers old who at a true disk_fault new
  marked who at a r commits reply doubt = λ s stands.
      let t = effective_at old at in
      let given = ap is_commit (reply s stands) ∙ commits in
      let both = ap (λ b. cond b (disk_fault, doubted who t s) (reply_to s who t a, answered who t a (reply_to s who t a) s)) given in
      subst (λ (u : ℕ). ((step_at s who u a true).0 ≡ disk_fault) × StandsFor (step_at s who u a true).1 new) (when s at stands) (
        ap (λ (x : Reply × Situation). x.0) both,
        subst (λ (x : Reply × Situation). StandsFor x.1 new) (sym both) (record {
          state = stands.state ∙ sym doubt.state;
          out = λ k. stands.out k ∙ ap (λ (ids : List MsgId). is_out k ids) (sym doubt.out);
          greatest = sym doubt.greatest;
          trail = ap (λ (xs : List Item). xs ++ item.Doubt who t ∷ []) stands.trail ∙ sym doubt.trail;
          limited = stands.limited ∙ sym doubt.limit;
        }),
      )

  -- ---- commits

  -- the rows of a write's reply are the store's
  in_rows : (s : Situation) (who t : ℕ) (w : AtomicWrite) → StandsFor s old
      → reply_to s who t (ask.Write w)
      ≡ rows (write_limit w) (first_stop old.trail) (failing w (seen old.core.state t)) (result_err (mutated_all w (old.core.state.number + 1) t (seen old.core.state t)))
      (nat_lt old.limit (weight (old.trail ++ item.Made (commit.Wrote who t w) ∷ []))) (full (weight old.trail) old.limit) (old.core.state.number + 1)
  in_rows s who t w stands =
      λ i. rows (write_limit w) (first_stop (stands.trail i)) (failing w (seen (stands.state i) t)) (result_err (mutated_all w ((stands.state i).number + 1) t (seen (stands.state i) t)))
      (nat_lt (stands.limited i) (weight (stands.trail i ++ item.Made (commit.Wrote who t w) ∷ []))) (full (weight (stands.trail i)) (stands.limited i)) ((stands.state i).number + 1)

  -- a write that may be made is answered so, by whether it finds room
  legal_rows : (s : Situation) (who t : ℕ) (w : AtomicWrite) (over : Bool) → first_stop old.trail ≡ None → StandsFor s old → is_legal_in old.core.state (commit.Wrote who t w) ≡ true
      → nat_lt old.limit (weight (old.trail ++ item.Made (commit.Wrote who t w) ∷ [])) ≡ over
      → reply_to s who t (ask.Write w) ≡ rows None None [] None over (full (weight old.trail) old.limit) (old.core.state.number + 1)
  legal_rows s who t w over none stands legal is =
      let passes = free old.core who t w legal in
      in_rows s who t w stands
      ∙ (λ i. rows (passes.limits i) (none i) (passes.checks i) (passes.numbers i) (is i) (full (weight old.trail) old.limit) (old.core.state.number + 1))

  -- a call that may be made and finds room is answered so
  legal_reply : (who t : ℕ) (a : Call) → is_legal_in old.core.state (commit_of who t a) ≡ true → may_ask old.core a ≡ true → FindsNoStop a old.trail → FitsIn old.limit old.trail (commit_of who t a)
      → (s : Situation) → StandsFor s old → reply_to s who t (ask_of a) ≡ said (made_answer a (old.core.state.number + 1))
  legal_reply who t (call.Write w) legal may none fits s stands = legal_rows s who t w false none stands legal (le-ltb old.limit (weight (old.trail ++ item.Made (commit.Wrote who t w) ∷ [])) fits)
  legal_reply who t (call.Ack id) legal may none fits s stands =
      ap (λ b. cond b (said (answer.Settled (s.state.number + 1))) (said answer.NoLease)) (stands.out id ∙ may)
      ∙ ap (λ (x : State). said (answer.Settled (x.number + 1))) stands.state
  legal_reply who t (call.Fail id) legal may none fits s stands =
      ap (λ b. cond b (said (answer.Settled (s.state.number + 1))) (said answer.NoLease)) (stands.out id ∙ may)
      ∙ ap (λ (x : State). said (answer.Settled (x.number + 1))) stands.state

  -- a write that may be made and finds no room
  heavy_reply : (who t : ℕ) (w : AtomicWrite) → first_stop old.trail ≡ None → IsFull old who t w → (s : Situation) → StandsFor s old → reply_to s who t (ask.Write w) ≡ full (weight old.trail) old.limit
  heavy_reply who t w none is s stands = legal_rows s who t w true none stands is.0 (lt-ltb old.limit (weight (old.trail ++ item.Made (commit.Wrote who t w) ∷ [])) is.1)

  module _ (leased : (id : MsgId) → is_out id old.core.out ≡ is_out id (out old.trail)) (leased_new : (id : MsgId) → is_out id new.core.out ≡ is_out id (out new.trail)) where
    -- what is out behind a commit
    out_made : (who t : ℕ) (a : Call) (k : MsgId) → new.trail ≡ old.trail ++ item.Made (commit_of who t a) ∷ [] → is_out k (out_after (settled_by a) old.core.out) ≡ is_out k new.core.out
    out_made who t a k trail = leased_made old.base old.trail old.core.out leased a who t k ∙ ap (λ (xs : List Item). is_out k (out xs)) (sym trail) ∙ sym (leased_new k)

    made : (who at n : ℕ) (a : Call) → may_ask old.core a ≡ true → FindsNoStop a old.trail → IsMade (effective_at old at) (commit_of who (effective_at old at) a) n old new
        → Answers old who at (ask_of a) false (said (made_answer a n)) new
    made who at n (call.Write w) may none is =
        let t = effective_at old at in
        unmarked who at (ask.Write w) (said (answer.Written n)) (λ s stands. (
          legal_reply who t (call.Write w) is.legal may none is.fits s stands ∙ ap (λ (k : ℕ). said (answer.Written k)) (sym is.number),
          record {
            state = ap (λ (x : State). after x (commit.Wrote who t w ∷ [])) stands.state ∙ sym is.state;
            out = λ k. stands.out k ∙ out_made who t (call.Write w) k is.trail;
            greatest = sym is.greatest;
            trail = ap (λ (xs : List Item). xs ++ item.Made (commit.Wrote who t w) ∷ []) stands.trail ∙ sym is.trail;
            limited = stands.limited ∙ sym is.limit;
          },
        ))
    made who at n (call.Ack id) may none is =
        let t = effective_at old at in
        unmarked who at (ask.Settle id true) (said (answer.Settled n)) (λ s stands. (
          legal_reply who t (call.Ack id) is.legal may none is.fits s stands ∙ ap (λ (k : ℕ). said (answer.Settled k)) (sym is.number),
          record {
            state = ap (λ (x : State). after x (commit.Acked who t id ∷ [])) stands.state ∙ sym is.state;
            out = λ k. out-without id k s.out ∙ ap (λ b. not (same_id k id) && b) (stands.out k) ∙ sym (out-without id k old.core.out) ∙ out_made who t (call.Ack id) k is.trail;
            greatest = sym is.greatest;
            trail = ap (λ (xs : List Item). xs ++ item.Made (commit.Acked who t id) ∷ []) stands.trail ∙ sym is.trail;
            limited = stands.limited ∙ sym is.limit;
          },
        ))
    made who at n (call.Fail id) may none is =
        let t = effective_at old at in
        unmarked who at (ask.Settle id false) (said (answer.Settled n)) (λ s stands. (
          legal_reply who t (call.Fail id) is.legal may none is.fits s stands ∙ ap (λ (k : ℕ). said (answer.Settled k)) (sym is.number),
          record {
            state = ap (λ (x : State). after x (commit.Failed who t id ∷ [])) stands.state ∙ sym is.state;
            out = λ k. out-without id k s.out ∙ ap (λ b. not (same_id k id) && b) (stands.out k) ∙ sym (out-without id k old.core.out) ∙ out_made who t (call.Fail id) k is.trail;
            greatest = sym is.greatest;
            trail = ap (λ (xs : List Item). xs ++ item.Made (commit.Failed who t id) ∷ []) stands.trail ∙ sym is.trail;
            limited = stands.limited ∙ sym is.limit;
          },
        ))

  is_commit_made : (a : Call) (n : ℕ) → is_commit (said (made_answer a n)) ≡ true
  is_commit_made (call.Write w) n = refl
  is_commit_made (call.Ack id) n = refl
  is_commit_made (call.Fail id) n = refl

  -- a write behind a stop is told so
  stopped_answers : (who at : ℕ) (w : AtomicWrite) (place : ℕ) → write_limit w ≡ None → first_stop old.trail ≡ Some place → IsRaisedTo (effective_at old at) old new
      → Answers old who at (ask.Write w) false (stopped place) new
  stopped_answers who at w place within is same =
      let t = effective_at old at in
      let bad = result_err (mutated_all w (old.core.state.number + 1) t (seen old.core.state t)) in
      let over = nat_lt old.limit (weight (old.trail ++ item.Made (commit.Wrote who t w) ∷ [])) in
      unmarked who at (ask.Write w) (stopped place) (λ s stands. (
        in_rows s who t w stands ∙ (λ i. rows (within i) (is i) (failing w (seen old.core.state t)) bad over (full (weight old.trail) old.limit) (old.core.state.number + 1)),
        rises s t stands same,
      ))

  -- a write that passes a limit is told so
  pub limit_reply : (s : Situation) (who t : ℕ) (w : AtomicWrite) (passed : Limit) → write_limit w ≡ Some passed → StandsFor s old → reply_to s who t (ask.Write w) ≡ said (answer.Limit passed)
  limit_reply s who t w passed is stands =
      in_rows s who t w stands
      ∙ ap (λ (o : Option Limit). rows o (first_stop old.trail) (failing w (seen old.core.state t)) (result_err (mutated_all w (old.core.state.number + 1) t (seen old.core.state t)))
      (nat_lt old.limit (weight (old.trail ++ item.Made (commit.Wrote who t w) ∷ []))) (full (weight old.trail) old.limit) (old.core.state.number + 1)) is

  -- and leaves the moment too
  limit_answers : (who at : ℕ) (w : AtomicWrite) (passed : Limit) → write_limit w ≡ Some passed → IsRaisedTo old.core.greatest old new → Answers old who at (ask.Write w) false (said (answer.Limit passed)) new
  limit_answers who at w passed is same =
      let t = effective_at old at in
      unmarked who at (ask.Write w) (said (answer.Limit passed)) (λ s stands. (
        limit_reply s who t w passed is stands,
        record {
          state = stands.state ∙ sym same.state;
          out = λ k. stands.out k ∙ ap (λ (ids : List MsgId). is_out k ids) (sym same.out);
          greatest = stands.greatest ∙ sym same.greatest;
          trail = stands.trail ∙ sym same.trail;
          limited = stands.limited ∙ sym same.limit;
        },
      ))

  fails_answers : (who at : ℕ) (w : AtomicWrite) (places : List ℕ) → write_limit w ≡ None → first_stop old.trail ≡ None → failing w (seen old.core.state (effective_at old at)) ≡ places → places ≢ []
      → IsRaisedTo (effective_at old at) old new → Answers old who at (ask.Write w) false (said (answer.Fails places)) new
  fails_answers who at w places within none is some same =
      let t = effective_at old at in
      let bad = result_err (mutated_all w (old.core.state.number + 1) t (seen old.core.state t)) in
      let over = nat_lt old.limit (weight (old.trail ++ item.Made (commit.Wrote who t w) ∷ [])) in
      unmarked who at (ask.Write w) (said (answer.Fails places)) (λ s stands. (
        in_rows s who t w stands
            ∙ (λ i. rows (within i) (none i) (is i) bad over (full (weight old.trail) old.limit) (old.core.state.number + 1))
            ∙ fails_row places bad over (full (weight old.trail) old.limit) (old.core.state.number + 1) some,
        rises s t stands same,
      ))

  not_u64_answers : (who at : ℕ) (w : AtomicWrite) (index : ℕ) → write_limit w ≡ None → first_stop old.trail ≡ None → failing w (seen old.core.state (effective_at old at)) ≡ []
      → mutated_all w (old.core.state.number + 1) (effective_at old at) (seen old.core.state (effective_at old at)) ≡ Err index
      → IsRaisedTo (effective_at old at) old new → Answers old who at (ask.Write w) false (said (answer.NotU64 index)) new
  not_u64_answers who at w index within none checks is same =
      let t = effective_at old at in
      unmarked who at (ask.Write w) (said (answer.NotU64 index)) (λ s stands. (
        in_rows s who t w stands
            ∙ (λ i. rows (within i) (none i) (checks i) (result_err (is i)) (nat_lt old.limit (weight (old.trail ++ item.Made (commit.Wrote who t w) ∷ []))) (full (weight old.trail) old.limit) (old.core.state.number + 1)),
        rises s t stands same,
      ))

  module _ (leased : (id : MsgId) → is_out id old.core.out ≡ is_out id (out old.trail)) (leased_new : (id : MsgId) → is_out id new.core.out ≡ is_out id (out new.trail)) where
    done_answers : (who at : ℕ) (a : Call) (d : Done) → may_ask old.core a ≡ true → FindsNoStop a old.trail → IsDone old who (effective_at old at) a d new → AnswersCall old who at a (Ok d) new
    done_answers who at a (done.Committed n) may none is = made leased leased_new who at n a may none is
    done_answers who at (call.Write w) (done.Fails places) may none is = fails_answers who at w places is.0.0.0 is.0.0.1 is.0.1 is.0.2 is.1
    done_answers who at (call.Ack id) (done.Fails places) may none is = absurd is.0
    done_answers who at (call.Fail id) (done.Fails places) may none is = absurd is.0
    done_answers who at (call.Write w) (done.NotU64 index) may none is = not_u64_answers who at w index is.0.0.0 is.0.0.1 is.0.1 is.0.2 is.1
    done_answers who at (call.Ack id) (done.NotU64 index) may none is = absurd is.0
    done_answers who at (call.Fail id) (done.NotU64 index) may none is = absurd is.0
    done_answers who at (call.Write w) (done.Limit passed) may none is = limit_answers who at w passed is.0 is.1
    done_answers who at (call.Ack id) (done.Limit passed) may none is = absurd is.0
    done_answers who at (call.Fail id) (done.Limit passed) may none is = absurd is.0

    -- the numbers of a full trail are the store's
    full_is : (bytes limit : ℕ) → bytes ≡ weight old.trail → limit ≡ old.limit → full (weight old.trail) old.limit ≡ full bytes limit
    full_is bytes limit same_bytes same_limit = λ i. full (sym same_bytes i) (sym same_limit i)

    refusal_answers : (who at : ℕ) (a : Call) (e : Refusal) → may_ask old.core a ≡ true → FindsNoStop a old.trail → IsRefused old who (effective_at old at) a e new → AnswersCall old who at a (Err e) new
    refusal_answers who at a refusal.DiskFault may none is =
        marked who at (ask_of a) (made_answer a (old.core.state.number + 1)) (is_commit_made a (old.core.state.number + 1)) (legal_reply who (effective_at old at) a is.0 may none is.3) is.1
    refusal_answers who at (call.Write w) (refusal.Stopped place) may none is = absurd (cc (none, is.0.1))
    refusal_answers who at (call.Ack id) (refusal.Stopped place) may none is = absurd is.0
    refusal_answers who at (call.Fail id) (refusal.Stopped place) may none is = absurd is.0
    refusal_answers who at (call.Write w) (refusal.Full bytes limit) may none is =
        let t = effective_at old at in
        unmarked who at (ask.Write w) (full bytes limit) (λ s stands. (heavy_reply who t w none is.0 s stands ∙ full_is bytes limit is.1 is.2, rises s t stands is.3))
    refusal_answers who at (call.Ack id) (refusal.Full bytes limit) may none is = absurd is.0
    refusal_answers who at (call.Fail id) (refusal.Full bytes limit) may none is = absurd is.0
    refusal_answers who at a refusal.NoMemory may none is = is

    -- a commit answers as the one-thread database does, but for disk faults and want of memory
    pub call_answers : (who at : ℕ) (a : Call) (r : Result Done Refusal) → may_ask old.core a ≡ true → FindsNoStop a old.trail
        → MatchResult r (λ d. IsDone old who (effective_at old at) a d new) (λ e. IsRefused old who (effective_at old at) a e new) → AnswersCall old who at a r new
    call_answers who at a (Ok d) may none is = done_answers who at a d may none is
    call_answers who at a (Err e) may none is = refusal_answers who at a e may none is

  -- a write behind a stop answers as the one-thread database does
  pub held_answers : (who at : ℕ) (a : Call) (r : Result Done Refusal) → IsHeldBack old (effective_at old at) a r new → AnswersCall old who at a r new
  held_answers who at (call.Write w) (Ok (done.Limit passed)) is = limit_answers who at w passed is.0 is.1
  held_answers who at (call.Ack id) (Ok (done.Limit passed)) is = absurd is.0
  held_answers who at (call.Fail id) (Ok (done.Limit passed)) is = absurd is.0
  held_answers who at (call.Write w) (Err (refusal.Stopped place)) is = stopped_answers who at w place is.0.0 is.0.1 is.1
  held_answers who at (call.Ack id) (Err (refusal.Stopped place)) is = absurd is.0
  held_answers who at (call.Fail id) (Err (refusal.Stopped place)) is = absurd is.0
  held_answers who at a (Ok (done.Committed n)) is = absurd is
  held_answers who at a (Ok (done.Fails places)) is = absurd is
  held_answers who at a (Ok (done.NotU64 index)) is = absurd is
  held_answers who at a (Err refusal.DiskFault) is = absurd is
  held_answers who at a (Err (refusal.Full bytes limit)) is = absurd is
  held_answers who at a (Err refusal.NoMemory) is = absurd is

-- what a write behind a stop is answered is an answer of a commit
pub held_result : {D : Type 0} (old new : Contents D) (who t : ℕ) (a : Call) (r : Result Done Refusal) → IsHeldBack old t a r new
    → MatchResult r (λ d. IsDone old who t a d new) (λ e. IsRefused old who t a e new)
held_result old new who t a (Ok (done.Limit passed)) is = is
held_result old new who t a (Err (refusal.Stopped place)) is = is
held_result old new who t a (Ok (done.Committed n)) is = absurd is
held_result old new who t a (Ok (done.Fails places)) is = absurd is
held_result old new who t a (Ok (done.NotU64 index)) is = absurd is
held_result old new who t a (Err refusal.DiskFault) is = absurd is
held_result old new who t a (Err (refusal.Full bytes limit)) is = absurd is
held_result old new who t a (Err refusal.NoMemory) is = absurd is

-- it is no fault of the disk, and no want of memory
pub held_never : {D : Type 0} (old new : Contents D) (t : ℕ) (a : Call) (r : Result Done Refusal) → IsHeldBack old t a r new → (r ≡ Err refusal.DiskFault → ⊥) × (r ≡ Err refusal.NoMemory → ⊥)
held_never old new t a (Ok d) is = (λ e. absurd (cc e), λ e. absurd (cc e))
held_never old new t a (Err (refusal.Stopped place)) is = (λ e. absurd (cc e), λ e. absurd (cc e))
held_never old new t a (Err refusal.DiskFault) is = absurd is
held_never old new t a (Err (refusal.Full bytes limit)) is = absurd is
held_never old new t a (Err refusal.NoMemory) is = absurd is
