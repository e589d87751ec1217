-- What reads and takes of a store answer is what the definitions answer in each situation of the store.
use Rattle.std.proofs.Common.{◌≡◌, ℕ, ◌<◌, ◌≤◌, Bool, true, false, cond, List, [], ◌∷◌, ◌++◌, Option, Some, None, Result, Ok, Err, inl, refl, sym, ap, ◌∙◌}
use Rattle.std.specs.Prelude.{not, ◌&&◌, ◌||◌, filter, nat_le, nat_lt, option_map, unwrap_or, IfOk, IfErr}
use Rattle.std.specs.Option.{option_map_or}
use Rattle.std.proofs.lemmas.Bool.{le-ltb, lt-ltb}
use Rattle.dkv_base.specs.declared.types.Answer.TheVariants as answer
use Rattle.dkv_base.specs.declared.types.Ask.TheVariants as ask
use Rattle.dkv_base.specs.declared.types.Item.TheVariants as item
use Rattle.dkv_base.specs.declared.types.Item.{Item}
use Rattle.dkv_base.specs.declared.types.Message.{Message}
use Rattle.dkv_base.specs.declared.types.MsgId.{MsgId}
use Rattle.dkv_base.specs.declared.types.ReadRange.{ReadRange}
use Rattle.dkv_base.specs.declared.codes.Limit.{Limit}
use Rattle.dkv_base.specs.Limits.{read_limit, first_some}
use Rattle.dkv_base.specs.State.{State, same_id}
use Rattle.dkv_base.specs.Messages.{is_out, waiting, next, first_due}
use Rattle.dkv_base.specs.Trails.{weight, first_stop}
use Rattle.dkv_base.specs.Replies.{Reply, said, stopped, full, limited, read_reply}
use Rattle.dkv_base.specs.Steps.{Situation, take_reply, lease_reply, next_moment}
use Rattle.dkv_core.specs.declared.takes.Taken.{Taken}
use Rattle.dkv_core.specs.declared.takes.Taken.TheVariants as taken
use Rattle.dkv_store.specs.declared.answers.Refusal.{Refusal}
use Rattle.dkv_store.specs.declared.answers.Refusal.TheVariants as refusal
use Rattle.dkv_store.specs.Stores.{Contents, IsRaisedTo, IsTake, IsNotTaken, SameDisks, effective_at}
use Rattle.dkv_store.specs.Situations.{StandsFor, Answers, AnswersTake}
use Rattle.dkv_store.proofs.Answering.{unmarked, rises, raised_alone}
use Rattle.dkv_store.proofs.Placing.{grown_out}

module _ {D : Type 0} (old new : Contents D) where
  -- a read within its limits
  pub read_answers : (who at : ℕ) (ranges : List ReadRange) → read_limit ranges ≡ None → new ≡ record old { core = record old.core { greatest = effective_at old at } }
      → Answers old who at (ask.Read ranges) false (said (answer.Entries (read_reply old.core.state (effective_at old at) ranges))) new
  read_answers who at ranges within same =
      let t = effective_at old at in
      unmarked old new who at (ask.Read ranges) (said (answer.Entries (read_reply old.core.state t ranges))) (λ s stands. (
        ap (λ (o : Option Limit). option_map_or limited o (said (answer.Entries (read_reply s.state t ranges)))) within
            ∙ ap (λ (x : State). said (answer.Entries (read_reply x t ranges))) stands.state,
        rises old new s t stands (raised_alone old new t same),
      ))

  -- the reply to a take, where nothing stops, by whether the message finds room
  abbrev lease_or_full : ℕ → ℕ → List Item → ℕ → Message → Reply
  lease_or_full who t trail limit m = cond (nat_lt limit (weight (trail ++ item.Took who t m.id ∷ []))) (full (weight trail) limit) (said (answer.Leased m))

  waiting_alike : (s : Situation) → StandsFor s old → waiting s.state s.out ≡ waiting old.core.state old.core.out
  waiting_alike s stands = λ i. filter (λ m. not (stands.out m.id i)) (stands.state i).messages

  abbrev nothing_due : Reply
  nothing_due = said (answer.Nothing (option_map (λ m. m.due) (first_due (waiting old.core.state old.core.out))))

  take_rows : (s : Situation) (who t : ℕ) → first_stop old.trail ≡ None → StandsFor s old → take_reply s who t ≡ option_map_or (lease_or_full who t old.trail old.limit) (next old.core.state old.core.out t) nothing_due
  take_rows s who t none stands =
      let stop = ap first_stop stands.trail ∙ none in
      let waits = waiting_alike s stands in
      (λ i. unwrap_or (first_some (option_map stopped (stop i) ∷ option_map (lease_or_full who t (stands.trail i) (stands.limited i)) (first_due (filter (λ m. nat_le m.due t) (waits i))) ∷ []))
      (said (answer.Nothing (option_map (λ m. m.due) (first_due (waits i))))))
      ∙ chosen (next old.core.state old.core.out t)
    where
      chosen : (o : Option Message) → unwrap_or (first_some (None ∷ option_map (lease_or_full who t old.trail old.limit) o ∷ [])) nothing_due ≡ option_map_or (lease_or_full who t old.trail old.limit) o nothing_due
      chosen None = refl
      chosen (Some m) = refl

  -- a take of the message that is due
  due_reply : (s : Situation) (who t : ℕ) (m : Message) → first_stop old.trail ≡ None → StandsFor s old → next old.core.state old.core.out t ≡ Some m → take_reply s who t ≡ lease_or_full who t old.trail old.limit m
  due_reply s who t m none stands due = take_rows s who t none stands ∙ ap (λ (o : Option Message). option_map_or (lease_or_full who t old.trail old.limit) o nothing_due) due

  module _ (none : first_stop old.trail ≡ None) (same : SameDisks old new) where
    leased_answers : (who at : ℕ) (m : Message) → IsTake old who (effective_at old at) (taken.Leased m) new → Answers old who at ask.Take false (said (answer.Leased m)) new
    leased_answers who at m is =
        let t = effective_at old at in
        unmarked old new who at ask.Take (said (answer.Leased m)) (λ s stands. (
          due_reply s who t m none stands is.0.0.first
              ∙ ap (λ b. cond b (full (weight old.trail) old.limit) (said (answer.Leased m))) (le-ltb old.limit (weight (old.trail ++ item.Took who t m.id ∷ [])) is.3),
          record {
            state = stands.state ∙ sym is.0.2.state;
            out = λ k. grown_out k m.id s.out ∙ ap (λ b. b || same_id k m.id) (stands.out k) ∙ sym (is.0.1 k);
            greatest = sym is.0.2.greatest;
            trail = ap (λ (xs : List Item). xs ++ item.Took who t m.id ∷ []) stands.trail ∙ sym is.1;
            limited = stands.limited ∙ sym same.limit;
          },
        ))

    nothing_answers : (who at : ℕ) (moment : Option ℕ) → IsTake old who (effective_at old at) (taken.Nothing moment) new → Answers old who at ask.Take false (said (answer.Nothing moment)) new
    nothing_answers who at moment is =
        let t = effective_at old at in
        unmarked old new who at ask.Take (said (answer.Nothing moment)) (λ s stands. (
          take_rows s who t none stands
              ∙ ap (λ (o : Option Message). option_map_or (lease_or_full who t old.trail old.limit) o nothing_due) is.0.0.none
              ∙ ap (λ (o : Option ℕ). said (answer.Nothing o)) (sym is.0.0.told),
          record {
            state = stands.state ∙ sym is.0.2.state;
            out = λ k. stands.out k ∙ ap (λ (ids : List MsgId). is_out k ids) (sym is.0.1);
            greatest = sym is.0.2.greatest;
            trail = stands.trail ∙ sym is.1;
            limited = stands.limited ∙ sym same.limit;
          },
        ))

    full_answers : (who at bytes limit : ℕ) → IsNotTaken old who (effective_at old at) (refusal.Full bytes limit) new → Answers old who at ask.Take false (full bytes limit) new
    full_answers who at bytes limit is =
        let t = effective_at old at in
        unmarked old new who at ask.Take (full bytes limit) (λ s stands. (
          due_reply s who t is.0 none stands is.1.first
              ∙ ap (λ b. cond b (full (weight old.trail) old.limit) (said (answer.Leased is.0))) (lt-ltb old.limit (weight (old.trail ++ item.Took who t is.0.id ∷ [])) is.2)
              ∙ (λ i. full (sym is.3 i) (sym is.4 i)),
          rises old new s t stands is.5,
        ))

    -- a take
    pub take_answers : (who at : ℕ) (r : Result Taken Refusal) → IfOk r (λ x. IsTake old who (effective_at old at) x new) → IfErr r (λ e. IsNotTaken old who (effective_at old at) e new)
        → AnswersTake old who at r new
    take_answers who at (Ok (taken.Leased m)) is short = leased_answers who at m is
    take_answers who at (Ok (taken.Nothing next)) is short = nothing_answers who at next is
    take_answers who at (Err refusal.DiskFault) is short = short
    take_answers who at (Err (refusal.Stopped place)) is short = absurd (cc (none, short.0))
    take_answers who at (Err (refusal.Full bytes limit)) is short = full_answers who at bytes limit short
    take_answers who at (Err refusal.NoMemory) is short = inl short

  -- a take behind a stop
  pub stopped_takes : (who at place : ℕ) → first_stop old.trail ≡ Some place → IsRaisedTo (effective_at old at) old new → Answers old who at ask.Take false (stopped place) new
  stopped_takes who at place is same =
      unmarked old new who at ask.Take (stopped place) (λ s stands. (
        ap (λ (o : Option ℕ). unwrap_or (first_some (option_map stopped o ∷ option_map (lease_reply s who (effective_at old at)) (next s.state s.out (effective_at old at)) ∷ []))
            (said (answer.Nothing (next_moment s)))) (ap first_stop stands.trail ∙ is),
        rises old new s (effective_at old at) stands same,
      ))
