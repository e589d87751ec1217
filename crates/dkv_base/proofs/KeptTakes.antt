-- A take keeps it.
use Rattle.std.proofs.Common.{◌≡◌, ℕ, ◌≤◌, Bool, true, false, cond, not, List, [], ◌∷◌, ◌++◌, filter, Option, Some, None, refl, sym, ap, ◌∙◌, subst, ⊎_elim, arith}
use Rattle.std.specs.Prelude.{nat_lt, option_map, unwrap_or}
use Rattle.std.specs.List.{list_any}
use Rattle.std.specs.Option.{option_map_or}
use Rattle.std.proofs.lemmas.Bool.{and_from, or_right, or_left, or_cases, le-leb, ltb-false}
use Rattle.dkv_base.specs.declared.types.Message.{Message}
use Rattle.dkv_base.specs.declared.types.MsgId.{MsgId}
use Rattle.dkv_base.specs.Limits.{first_some}
use Rattle.dkv_base.specs.State.{State, same_id}
use Rattle.dkv_base.specs.Trails.{out, weight, is_stop, first_stop, has_room}
use Rattle.dkv_base.specs.Replies.{Reply, said, stopped, full}
use Rattle.dkv_base.specs.Steps.{Situation, raised, take_reply, next_moment, handed_out}
use Rattle.dkv_base.specs.declared.moments.TheConstants.{MAX_MOMENT}
use Rattle.dkv_base.specs.Messages.{next, first_due, waiting, is_before}
use Rattle.dkv_base.specs.declared.types.Answer.TheVariants as answer
use Rattle.dkv_base.specs.declared.types.Item.TheVariants as item
use Rattle.dkv_base.proofs.NamedMessages.{same_id_self, named, AllNamed-append}
use Rattle.dkv_base.proofs.Kept.{Kept, kept_grown, no_commits, no_commits_legal, nothing_settled}
use Rattle.dkv_base.proofs.KeptCommits.{not_none, no_stop}

-- ---- a take

same_some : {X : Type 0} (x y : X) → Some x ≡ Some y → x ≡ y
same_some x y e = ap (λ o. unwrap_or o x) e

first_due_named : (ms : List Message) (m : Message) → first_due ms ≡ Some m → named m.id ms ≡ true
first_due_named [] m e = absurd (not_none m (sym e))
first_due_named (x ∷ xs) m e =
    elim (first_due xs) as (λ o. first_due xs ≡ o → Some (option_map_or (λ k. cond (is_before k x) k x) o x) ≡ Some m → named m.id (x ∷ xs) ≡ true) [
      | None ↦ λ is same. or_left _ _ (subst (λ k. same_id k.id x.id ≡ true) (same_some _ _ same) (same_id_self x.id))
      | Some k ↦ λ is same.
          elim (is_before k x) as (λ b. cond b k x ≡ m → named m.id (x ∷ xs) ≡ true) [
            | true ↦ λ h. or_right (same_id m.id x.id) _ (first_due_named xs m (is ∙ ap Some h))
            | false ↦ λ h. or_left _ _ (subst (λ y. same_id y.id x.id ≡ true) h (same_id_self x.id))
          ] (same_some _ _ same)
    ] refl e

named-filter : (id : MsgId) (p : Message → Bool) (ms : List Message) → named id (filter p ms) ≡ true → named id ms ≡ true
named-filter id p [] e = e
named-filter id p (m ∷ ms) e =
    elim (p m) as (λ b. named id (cond b (m ∷ filter p ms) (filter p ms)) ≡ true → named id (m ∷ ms) ≡ true) [
      | true ↦ λ h. ⊎_elim (λ same. or_left _ _ same) (λ later. or_right (same_id id m.id) _ (named-filter id p ms later)) (or_cases (same_id id m.id) _ h)
      | false ↦ λ h. or_right (same_id id m.id) _ (named-filter id p ms h)
    ] e

-- where a take is answered with a message, it is the next and there is room
record Leases (stop : Option ℕ) (found : Option Message) (over : Bool) (m : Message) : Type 0 where
  stops : stop ≡ None
  first : found ≡ Some m
  room : over ≡ false

leased_of : Reply → Message → Message
leased_of (said (answer.Leased m)) d = m
leased_of _ d = d

same_lease : (k m : Message) → said (answer.Leased k) ≡ said (answer.Leased m) → k ≡ m
unfolding leased_of
same_lease k m e = ap (λ r. leased_of r k) e

rows_taken : (stop : Option ℕ) (found : Option Message) (over : Message → Bool) (a b : ℕ) (due : Option ℕ) (m : Message)
    → unwrap_or (first_some (option_map stopped stop ∷ option_map (λ k. cond (over k) (full a b) (said (answer.Leased k))) found ∷ [])) (said (answer.Nothing due)) ≡ said (answer.Leased m)
    → Leases stop found (over m) m
rows_taken (Some p) found over a b due m e = absurd (cc)
rows_taken None None over a b due m e = absurd (cc)
rows_taken None (Some k) over a b due m e =
    elim (over k) as (λ t. over k ≡ t → cond t (full a b) (said (answer.Leased k)) ≡ said (answer.Leased m) → Leases None (Some k) (over m) m) [
      | true ↦ λ is same. absurd (not_full a b m same)
      | false ↦ λ is same.
          let k_is = same_lease k m same in
          record { stops = refl; first = ap Some k_is; room = ap over (sym k_is) ∙ is }
    ] refl e
  where
    not_full : (a b : ℕ) (m : Message) → full a b ≡ said (answer.Leased m) → ⊥
    not_full a b m same = absurd (cc)

pub kept_take : (base : State) (limit : ℕ) (s : Situation) (who t : ℕ) (m : Message) → Kept base limit s → s.greatest ≤ t → t ≤ MAX_MOMENT
    → take_reply s who t ≡ said (answer.Leased m) → Kept base limit (raised t (handed_out (item.Took who t m.id) m.id s))
kept_take base limit s who t m k up last e =
    let x = item.Took who t m.id in
    let found : Leases (first_stop s.trail) (next s.state s.out t) (nat_lt s.limit (weight (s.trail ++ x ∷ []))) m = rows_taken _ _ (λ y. nat_lt s.limit (weight (s.trail ++ item.Took who t y.id ∷ []))) (weight s.trail) s.limit (next_moment s) m e in
    let here : named m.id s.state.messages ≡ true = named-filter m.id _ s.state.messages (named-filter m.id _ (waiting s.state s.out) (first_due_named _ m found.first)) in
    kept_grown base limit s x t s.state (s.out ++ m.id ∷ []) k up last refl
    (no_commits base limit s k) (no_commits_legal base limit s k)
    (and_from (has_room limit s.trail x) _
    (and_from (not (list_any is_stop s.trail)) _ (ap not (no_stop 0 s.trail found.stops))
    (le-leb _ _ (subst (λ l. weight (s.trail ++ x ∷ []) ≤ l) k.limit_is (ltb-false _ _ found.room))))
    (ap (λ o. option_map_or (λ y. same_id y.id m.id) o false) ((λ i. next (sym k.state i) (sym k.out_ids i) t) ∙ found.first) ∙ same_id_self m.id))
    (ap (λ ids. ids ++ m.id ∷ []) k.out_ids ∙ sym (nothing_settled (out s.trail) (m.id ∷ [])))
    (omega (arith, k.state_moment, up)) k.fit
    (AllNamed-append s.state.messages s.out (m.id ∷ []) k.waits (here, tt))
