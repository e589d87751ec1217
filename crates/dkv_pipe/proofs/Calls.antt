-- What a commit and a take came to is granted.
use Rattle.std.proofs.Common.{◌≡◌, ◌⊎◌, refl, sym, ap, subst, ◌∙◌, ℕ, ◌+◌, ◌≤◌, Bool, true, false, cond, List, [], ◌∷◌, Option, Some, None, Result, Ok, Err, inl, inr, arith}
use Rattle.std.specs.Prelude.{MatchResult, IfOk, IfErr, OnErr, unwrap_or, option_map, max}
use Rattle.dkv_base.specs.declared.run.NoMemory.{NoMemory}
use Rattle.dkv_base.specs.declared.types.Answer.{Answer}
use Rattle.dkv_base.specs.declared.types.Answer.TheVariants as answer
use Rattle.dkv_base.specs.declared.types.Ask.TheVariants as ask
use Rattle.dkv_base.specs.declared.types.Call.{Call}
use Rattle.dkv_base.specs.declared.types.Call.TheVariants as call
use Rattle.dkv_base.specs.declared.types.Commit.{Commit}
use Rattle.dkv_base.specs.declared.types.Message.{Message}
use Rattle.dkv_base.specs.Limits.{first_some}
use Rattle.dkv_base.specs.Messages.{next}
use Rattle.dkv_base.specs.State.{State}
use Rattle.dkv_base.specs.Replies.{Reply, said, stopped, full}
use Rattle.dkv_base.specs.Moments.{capped_moment}
use Rattle.dkv_base.specs.Steps.{Situation, effective, reply_to, is_commit, take_reply, lease_reply, next_moment}
use Rattle.dkv_base.specs.Trails.{first_stop, weight}
use Rattle.dkv_core.specs.Decisions.{commit_of}
use Rattle.dkv_core.specs.declared.takes.Taken.{Taken}
use Rattle.dkv_core.specs.declared.takes.Taken.TheVariants as taken
use Rattle.dkv_io.specs.Causes.{Rose}
use Rattle.dkv_store.specs.declared.answers.Done.{Done}
use Rattle.dkv_store.specs.declared.answers.Done.TheVariants as done
use Rattle.dkv_store.specs.declared.answers.Refusal.{Refusal}
use Rattle.dkv_store.specs.declared.answers.Refusal.TheVariants as refusal
use Rattle.dkv_store.specs.Stores.{Contents, IsDone, IsRefused, IsTake, IsNotTaken, IsWithinRise, SameDisks, effective_at}
use Rattle.dkv_store.specs.Situations as situations
use Rattle.dkv_store.specs.Situations.{StandsFor, AnswersCall, AnswersTake, ask_of, answer_of}
use Rattle.dkv_store.specs.Attempts.{Attempt, left, attempted}
use Rattle.dkv_store.specs.Terms.{Leads}
use Rattle.dkv_pipe.specs.declared.reply_status.ReplyStatus.TheVariants as status
use Rattle.dkv_pipe.specs.Wishes.{asks}
use Rattle.dkv_pipe.specs.ReplyFrames.{reply_bytes, bytes_of_reply, answer_bytes}
use Rattle.dkv_pipe.specs.Courses.{situation_of}
use Rattle.dkv_pipe.specs.Attempts.{tried, ask_attempts}
use Rattle.dkv_pipe.specs.Told.{is_write, done_told, Tells, TellsTake, IsUnstopped, IsUnstoppedTake, IsFaultlessTake}
use Rattle.dkv_pipe.specs.Grants.{Grants, IsRefusedFor}
use Rattle.dkv_pipe.proofs.Grants.{answered_granted}

-- the reply to what a commit came to
told_answer : (a : Call) (d : Done) → done_told (is_write a) d ≡ answer_bytes (answer_of a d)
told_answer (call.Write w) (done.Committed n) = refl
told_answer (call.Ack id) (done.Committed n) = refl
told_answer (call.Fail id) (done.Committed n) = refl
told_answer a (done.Fails places) = refl
told_answer a (done.NotU64 index) = refl
told_answer a (done.Limit passed) = refl

-- what the call tries
call_tries : (s : Situation) (a : Call) (who t : ℕ) (mark : Bool) → ask_attempts s (ask_of a) who t mark ≡ tried mark (is_commit (reply_to s who t (ask_of a))) (commit_of who t a)
call_tries s (call.Write w) who t mark = refl
call_tries s (call.Ack id) who t mark = refl
call_tries s (call.Fail id) who t mark = refl

-- where it is answered so
done_tries : (a : Call) (d : Done) (c : Commit) → tried false (is_commit (said (answer_of a d))) c ≡ attempted (Ok d) c
done_tries (call.Write w) (done.Committed n) c = refl
done_tries (call.Ack id) (done.Committed n) c = refl
done_tries (call.Fail id) (done.Committed n) c = refl
done_tries a (done.Fails places) c = refl
done_tries a (done.NotU64 index) c = refl
done_tries a (done.Limit passed) c = refl

-- at most one commit more
number_done : {D : Type 0} (old new : Contents D) (who t : ℕ) (a : Call) (came : Result Done Refusal) → MatchResult came (λ d. IsDone old who t a d new) (λ e. IsRefused old who t a e new)
    → new.core.state.number ≤ old.core.state.number + 1
number_done old new who t a (Ok (done.Committed n)) is = omega (arith, ap (λ (s : State). s.number) is.state)
number_done old new who t a (Ok (done.Fails places)) is = omega (arith, ap (λ (s : State). s.number) is.1.state)
number_done old new who t a (Ok (done.NotU64 index)) is = omega (arith, ap (λ (s : State). s.number) is.1.state)
number_done old new who t a (Ok (done.Limit passed)) is = omega (arith, ap (λ (s : State). s.number) is.1.state)
number_done old new who t a (Err refusal.DiskFault) is = omega (arith, ap (λ (s : State). s.number) is.1.state)
number_done old new who t a (Err (refusal.Stopped place)) is = omega (arith, ap (λ (s : State). s.number) is.1.state)
number_done old new who t a (Err (refusal.Full bytes limit)) is = omega (arith, ap (λ (s : State). s.number) is.3.state)
number_done old new who t a (Err refusal.NoMemory) (inl is) = omega (arith, ap (λ (s : State). s.number) is.state)
number_done old new who t a (Err refusal.NoMemory) (inr is) = omega (arith, ap (λ (s : State). s.number) is.state)

-- where nothing stopped the term, a commit isn't stopped
pub commit_unstopped : {D : Type 0} (old new : Contents D) (who t : ℕ) (a : Call) (came : Result Done Refusal) → first_stop old.trail ≡ None
    → MatchResult came (λ d. IsDone old who t a d new) (λ e. IsRefused old who t a e new) → IsUnstopped came
commit_unstopped old new who t (call.Write w) (Ok d) none is place same = absurd (cc same)
commit_unstopped old new who t (call.Ack id) (Ok d) none is place same = absurd (cc same)
commit_unstopped old new who t (call.Fail id) (Ok d) none is place same = absurd (cc same)
commit_unstopped old new who t (call.Write w) (Err (refusal.Stopped at)) none is place same = absurd (cc (none, is.0.1))
commit_unstopped old new who t (call.Ack id) (Err (refusal.Stopped at)) none is place same = absurd is.0
commit_unstopped old new who t (call.Fail id) (Err (refusal.Stopped at)) none is place same = absurd is.0
commit_unstopped old new who t a (Err refusal.DiskFault) none is place same = absurd (cc same)
commit_unstopped old new who t a (Err (refusal.Full bytes limit)) none is place same = absurd (cc same)
commit_unstopped old new who t a (Err refusal.NoMemory) none is place same = absurd (cc same)

-- and neither is a take
no_stop : (s : Situation) (who t place : ℕ) → first_stop s.trail ≡ None → take_reply s who t ≡ stopped place → ⊥
no_stop s who t place none is =
    never (next s.state s.out t) (ap (λ o. unwrap_or (first_some (option_map stopped o ∷ option_map (lease_reply s who t) (next s.state s.out t) ∷ [])) (said (answer.Nothing (next_moment s)))) (sym none) ∙ is)
  where
    leased : (m : Message) (b : Bool) → cond b (full (weight s.trail) s.limit) (said (answer.Leased m)) ≡ stopped place → ⊥
    leased m true e = absurd (cc e)
    leased m false e = absurd (cc e)

    never : (o : Option Message) → unwrap_or (first_some (None ∷ option_map (lease_reply s who t) o ∷ [])) (said (answer.Nothing (next_moment s))) ≡ stopped place → ⊥
    never None e = absurd (cc e)
    never (Some m) e = leased m _ e

pub take_faultless : {D : Type 0} (old new : Contents D) (who at : ℕ) (came : Result Taken Refusal) → AnswersTake old who at came new → IsFaultlessTake came
take_faultless old new who at (Ok x) is same = absurd (cc same)
take_faultless old new who at (Err refusal.NoMemory) is same = absurd (cc same)
take_faultless old new who at (Err (refusal.Full bytes limit)) is same = absurd (cc same)
take_faultless old new who at (Err (refusal.Stopped place)) is same = absurd (cc same)
take_faultless old new who at (Err refusal.DiskFault) is same = absurd is

pub take_unstopped : {D : Type 0} (old new : Contents D) (who at : ℕ) (came : Result Taken Refusal) → first_stop old.trail ≡ None → AnswersTake old who at came new → IsUnstoppedTake came
take_unstopped old new who at (Ok x) none is place same = absurd (cc same)
take_unstopped old new who at (Err refusal.NoMemory) none is place same = absurd (cc same)
take_unstopped old new who at (Err (refusal.Full bytes limit)) none is place same = absurd (cc same)
take_unstopped old new who at (Err refusal.DiskFault) none is place same = absurd is
take_unstopped old new who at (Err (refusal.Stopped there)) none is place same =
    let s = situation_of old in
    absurd (no_stop s who (effective s at) there none (is s (record { state = refl; out = λ id. refl; greatest = refl; trail = refl; limited = refl })).0)

module _ {D : Type 0} (seen : D → Option (List ℕ)) (images : D → List ℕ → Type 0) (faults moment : D → ℕ) (since : D → ℕ → List ℕ → Type 0) (old new : Contents D) (who at : ℕ) where
  abbrev t : ℕ
  t = effective_at old at

  -- ---- commits

  module _ (a : Call) (later : (faults old.a ≤ faults new.a) × (faults old.b ≤ faults new.b)) where
    abbrev c : Commit
    c = commit_of who t a

    -- what the call tries in a situation of the store
    tries : (s : Situation) → StandsFor s old → (mark : Bool) → ask_attempts s (ask_of a) who (effective s at) mark ≡ tried mark (is_commit (reply_to s who (effective s at) (ask_of a))) c
    tries s stands mark =
        call_tries s a who (effective s at) mark
        ∙ ap (λ (u : ℕ). tried mark (is_commit (reply_to s who (effective s at) (ask_of a))) (commit_of who u a)) (ap (λ (g : ℕ). max (capped_moment at) g) stands.greatest)

    -- the same where it has this reply
    tries_as : (s : Situation) → StandsFor s old → (r : Reply) → reply_to s who (effective s at) (ask_of a) ≡ r → ask_attempts s (ask_of a) who (effective s at) false ≡ tried false (is_commit r) c
    tries_as s stands r is = tries s stands false ∙ ap (λ (q : Reply). tried false (is_commit q) c) is

    leads_as : (s : Situation) (tries_here as_told : List Attempt) → tries_here ≡ as_told → Leads seen images moment since as_told old new → Leads seen images moment since tries_here old new
    leads_as s tries_here as_told is leads = subst (λ (l : List Attempt). Leads seen images moment since l old new) (sym is) leads

    abbrev pub RoseOne : Type 0
    RoseOne = Rose (faults old.a) (faults new.a) ⊎ Rose (faults old.b) (faults new.b)

    one_risen : RoseOne → IsWithinRise 1 (faults old.a) (faults new.a) (faults old.b) (faults new.b)
    one_risen (inl rose) = λ low_a low_b. omega (arith, rose, low_a, later.1)
    one_risen (inr rose) = λ low_a low_b. omega (arith, rose, low_b, later.0)

    fault_granted : (out : List ℕ) → AnswersCall old who at a (Err refusal.DiskFault) new → Leads seen images moment since (left c ∷ []) old new → RoseOne
        → new.core.state.number ≤ old.core.state.number + 1 → out ≡ reply_bytes status.DiskFault [] → Grants seen images faults moment since old (asks (ask_of a)) who at out new
    fault_granted out is leads rose number told = record {
      mark = true;
      steps = λ s stands. let here = is s stands in (ap bytes_of_reply here.0 ∙ sym told, here.1);
      marked = told;
      reaches = record {
        marked = one_risen rose;
        later_a = later.0;
        later_b = later.1;
        number = number;
      };
      leads = λ s stands. leads_as s (ask_attempts s (ask_of a) who (effective s at) true) (left c ∷ []) (tries s stands true) leads;
    }

    pub call_granted : (came : Result Done Refusal) (result : Result (List ℕ) NoMemory) → AnswersCall old who at a came new
        → MatchResult came (λ d. IsDone old who t a d new) (λ e. IsRefused old who t a e new)
        → Leads seen images moment since (attempted came c) old new → (came ≡ Err refusal.DiskFault → RoseOne)
        → Tells (is_write a) came result → IfOk result (λ out. Grants seen images faults moment since old (asks (ask_of a)) who at out new)
    call_granted (Ok d) (Ok out) is done leads cause told =
        answered_granted seen images faults moment since old new (ask_of a) who at (said (answer_of a d)) out is (told ∙ told_answer a d)
        (λ s stands. leads_as s (ask_attempts s (ask_of a) who (effective s at) false) (attempted (Ok d) c) (tries_as s stands (said (answer_of a d)) (is s stands).0 ∙ done_tries a d c) leads) later.0 later.1 (number_done old new who t a (Ok d) done)
    call_granted (Err refusal.DiskFault) (Ok out) is done leads cause told = fault_granted out is leads (cause refl) (number_done old new who t a (Err refusal.DiskFault) done) told
    call_granted (Err (refusal.Stopped place)) (Ok out) is done leads cause told = absurd told
    call_granted (Err (refusal.Full bytes limit)) (Ok out) is done leads cause told =
        answered_granted seen images faults moment since old new (ask_of a) who at (full bytes limit) out is told
        (λ s stands. leads_as s (ask_attempts s (ask_of a) who (effective s at) false) [] (tries_as s stands (full bytes limit) (is s stands).0) leads) later.0 later.1 (number_done old new who t a (Err (refusal.Full bytes limit)) done)
    call_granted (Err refusal.NoMemory) (Ok out) is done leads cause told = absurd told
    call_granted came (Err none) is done leads cause told = tt

    pub call_refused : (came : Result Done Refusal) (result : Result (List ℕ) NoMemory)
        → MatchResult came (λ d. IsDone old who t a d new) (λ e. IsRefused old who t a e new)
        → Leads seen images moment since (attempted came c) old new
        → Tells (is_write a) came result → OnErr result (IsRefusedFor seen images moment since old at new)
    call_refused came (Ok out) is leads told = tt
    call_refused (Ok (done.Fails places)) (Err none) is leads told = record { raised = inr is.1; leads = leads }
    call_refused (Err refusal.NoMemory) (Err none) is leads told = record { raised = is; leads = leads }
    call_refused (Ok (done.Committed n)) (Err none) is leads told = absurd told
    call_refused (Ok (done.NotU64 index)) (Err none) is leads told = absurd told
    call_refused (Ok (done.Limit passed)) (Err none) is leads told = absurd told
    call_refused (Err refusal.DiskFault) (Err none) is leads told = absurd told
    call_refused (Err (refusal.Stopped place)) (Err none) is leads told = absurd told
    call_refused (Err (refusal.Full bytes limit)) (Err none) is leads told = absurd told

  -- ---- takes

  number_taken : (x : Taken) → IsTake old who t x new → new.core.state.number ≤ old.core.state.number + 1
  number_taken (taken.Leased m) is = omega (arith, ap (λ (s : State). s.number) is.0.2.state)
  number_taken (taken.Nothing next) is = omega (arith, ap (λ (s : State). s.number) is.0.2.state)

  module _ (same : SameDisks old new) (leads : Leads seen images moment since [] old new) where
    given : (r : Answer) (x : Taken) → situations.Answers old who at ask.Take false (said r) new → IsTake old who t x new → Grants seen images faults moment since old (asks ask.Take) who at (answer_bytes r) new
    given r x is took = answered_granted seen images faults moment since old new ask.Take who at (said r) (answer_bytes r) is refl (λ s stands. leads)
        (let a = ap faults same.a in omega (arith, a)) (let b = ap faults same.b in omega (arith, b)) (number_taken x took)

    pub take_granted : (came : Result Taken Refusal) (result : Result (List ℕ) NoMemory) → AnswersTake old who at came new → IfOk came (λ x. IsTake old who t x new) → IfErr came (λ e. IsNotTaken old who t e new) → TellsTake came result
        → IfOk result (λ out. Grants seen images faults moment since old (asks ask.Take) who at out new)
    take_granted (Ok (taken.Leased m)) result is took short told =
        subst (λ (r : Result (List ℕ) NoMemory). IfOk r (λ out. Grants seen images faults moment since old (asks ask.Take) who at out new)) (sym told) (given (answer.Leased m) (taken.Leased m) is took)
    take_granted (Ok (taken.Nothing next)) result is took short told =
        subst (λ (r : Result (List ℕ) NoMemory). IfOk r (λ out. Grants seen images faults moment since old (asks ask.Take) who at out new)) (sym told) (given (answer.Nothing next) (taken.Nothing next) is took)
    take_granted (Err refusal.DiskFault) (Ok out) is took short told = absurd told
    take_granted (Err (refusal.Stopped place)) (Ok out) is took short told = absurd told
    take_granted (Err refusal.NoMemory) (Ok out) is took short told = absurd told
    take_granted (Err (refusal.Full bytes limit)) (Ok out) is took short told =
        answered_granted seen images faults moment since old new ask.Take who at (full bytes limit) out is told (λ s stands. leads)
        (let a = ap faults same.a in omega (arith, a)) (let b = ap faults same.b in omega (arith, b)) (omega (arith, ap (λ (s : State). s.number) short.5.state))
    take_granted (Err e) (Err none) is took short told = tt

    pub take_refused : (came : Result Taken Refusal) (result : Result (List ℕ) NoMemory) → AnswersTake old who at came new → TellsTake came result → OnErr result (IsRefusedFor seen images moment since old at new)
    take_refused (Ok (taken.Leased m)) result is told = subst (λ (r : Result (List ℕ) NoMemory). OnErr r (IsRefusedFor seen images moment since old at new)) (sym told) tt
    take_refused (Ok (taken.Nothing next)) result is told = subst (λ (r : Result (List ℕ) NoMemory). OnErr r (IsRefusedFor seen images moment since old at new)) (sym told) tt
    take_refused (Err e) (Ok out) is told = tt
    take_refused (Err refusal.NoMemory) (Err none) is told = record { raised = is; leads = leads }
    take_refused (Err refusal.DiskFault) (Err none) is told = absurd is
    take_refused (Err (refusal.Stopped place)) (Err none) is told = absurd (cc told)
    take_refused (Err (refusal.Full bytes limit)) (Err none) is told = absurd (cc told)
