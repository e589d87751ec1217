-- A store keeps what its type says, after a commit and after a fault.
use Rattle.std.proofs.Common.{◌≡◌, ◌⊎◌, inl, inr, ℕ, ◌+◌, ◌≤◌, Bool, true, false, List, [], ◌∷◌, ◌++◌, Option, Some, None, refl, sym, ap, ◌∙◌, subst, arith, IsTrue}
use Rattle.std.specs.Prelude.{is_some, count_by}
use Rattle.std.specs.Option.{option_map_or}
use Rattle.std.proofs.lemmas.List.{append-nil}
use Rattle.dkv_base.specs.declared.types.Call.{Call}
use Rattle.dkv_base.specs.declared.types.Call.TheVariants as call
use Rattle.dkv_base.specs.declared.types.Commit.{Commit}
use Rattle.dkv_base.specs.declared.types.Item.{Item}
use Rattle.dkv_base.specs.declared.types.MsgId.{MsgId}
use Rattle.dkv_base.specs.declared.types.Item.TheVariants as item
use Rattle.dkv_base.specs.State.{State}
use Rattle.dkv_base.specs.Messages.{moment_of, is_out, next}
use Rattle.dkv_base.specs.After.{after, is_legal_in}
use Rattle.dkv_base.specs.Trails.{commits, greatest, out, weight, first_stop, is_legal_trail}
use Rattle.dkv_base.specs.Sound.{IsSound}
use Rattle.dkv_base.proofs.AfterNothing.{after_nothing}
use Rattle.dkv_base.proofs.StaysSound.{after_is_sound}
use Rattle.dkv_base.proofs.LongerTrails.{commits-push}
use Rattle.dkv_core.specs.Cores.{Database, Change, applied}
use Rattle.dkv_core.specs.Decisions.{commit_of, Goes}
use Rattle.dkv_core.specs.Settling.{out_after}
use Rattle.dkv_core.specs.declared.prepared.Settled.{Settled}
use Rattle.dkv_core.specs.Takes.{IsTaken}
use Rattle.dkv_core.specs.declared.takes.Taken.TheVariants as taken
use Rattle.dkv_base.specs.declared.types.Message.{Message}
use Rattle.dkv_io.specs.Causes.{Rose}
use Rattle.dkv_journal.specs.declared.journal.Journal.{Journal}
use Rattle.dkv_files.specs.Crashes.{Identity, and_then}
use Rattle.dkv_store.specs.declared.held.InUse.{InUse}
use Rattle.dkv_store.specs.Held.{Hold, Guarded, picked}
use Rattle.dkv_store.specs.Stores.{Contents, Keeps, IsWithinRise, is_doubt}
use Rattle.dkv_store.specs.Trails.{FindsNoStop, FitsIn}
use Rattle.dkv_store.proofs.Trailing.{legal_parts, count_push, leased_doubt, leased_made, legal_doubt, legal_made, legal_stop, leased_stop, state_made, moments_on, leased_took, legal_took, next_same}

made_at : (who t : ℕ) (a : Call) → moment_of (commit_of who t a) ≡ t
made_at who t (call.Write w) = refl
made_at who t (call.Ack id) = refl
made_at who t (call.Fail id) = refl

-- ---- the counts of faults

module _ {D : Type 0} (faults : D → ℕ) where
  -- items that number no more than before stay within counts that don't fall
  pub rises_on : (v : Bool) (n m a_first b_first : ℕ) (used used_end other other_end : D) → faults used ≤ faults used_end → faults other ≤ faults other_end → m ≤ n
      → IsWithinRise n a_first (faults (picked v used other)) b_first (faults (picked v other used)) → IsWithinRise m a_first (faults (picked v used_end other_end)) b_first (faults (picked v other_end used_end))
  rises_on false n m a_first b_first used used_end other other_end later later_other few before = λ low_a low_b.
      let was = before (omega (arith, low_a, later)) (omega (arith, low_b, later_other)) in omega (arith, was, few, later, later_other)
  rises_on true n m a_first b_first used used_end other other_end later later_other few before = λ low_a low_b.
      let was = before (omega (arith, low_a, later_other)) (omega (arith, low_b, later)) in omega (arith, was, few, later, later_other)

  -- with one item more they stay within counts of which one rose
  pub doubt_rises : (v : Bool) (n m a_first b_first : ℕ) (used used_end other other_end : D) → faults used ≤ faults used_end → faults other ≤ faults other_end → m ≤ n + 1
      → Rose (faults used) (faults used_end) ⊎ Rose (faults other) (faults other_end)
      → IsWithinRise n a_first (faults (picked v used other)) b_first (faults (picked v other used)) → IsWithinRise m a_first (faults (picked v used_end other_end)) b_first (faults (picked v other_end used_end))
  doubt_rises false n m a_first b_first used used_end other other_end later later_other few (inl rose) before = λ low_a low_b.
      let was = before (omega (arith, low_a, later)) (omega (arith, low_b, later_other)) in omega (arith, was, few, rose, low_a, later_other)
  doubt_rises false n m a_first b_first used used_end other other_end later later_other few (inr rose) before = λ low_a low_b.
      let was = before (omega (arith, low_a, later)) (omega (arith, low_b, later_other)) in omega (arith, was, few, rose, low_b, later)
  doubt_rises true n m a_first b_first used used_end other other_end later later_other few (inl rose) before = λ low_a low_b.
      let was = before (omega (arith, low_a, later_other)) (omega (arith, low_b, later)) in omega (arith, was, few, rose, low_b, later_other)
  doubt_rises true n m a_first b_first used used_end other other_end later later_other few (inr rose) before = λ low_a low_b.
      let was = before (omega (arith, low_a, later_other)) (omega (arith, low_b, later)) in omega (arith, was, few, rose, low_a, later)

-- ---- what is kept

module _ {D : Type 0} (sees : D → Option (List ℕ)) (images : D → List ℕ → Type 0) (faults : D → ℕ) (j j_end : Journal)
    (base : State) (core core_end : Database) (trail trail_end : List Item) (lost lost_end : List MsgId) (doubt doubt_end : Option Commit) (me : Identity) (limit n n_end : ℕ) (u u_end : InUse) (used used_end other other_end a_first b_first : D)
    (kept : Keeps sees images faults j used other (record {
      base = base;
      core = core;
      trail = trail;
      roomless = lost;
      doubt = doubt;
      who = me;
      limit = limit;
      record_bytes = n;
      in_use = u;
      a = picked u.second used other;
      b = picked u.second other used;
      a_first = a_first;
      b_first = b_first;
    }))
    (who t : ℕ) (asked : Call) (p : Change) (goes : Goes core who t asked p)
    (named : j_end.in_doubt ≡ is_some doubt_end) (turned : u_end.second ≡ u.second) (later : faults used ≤ faults used_end) (later_other : faults other ≤ faults other_end) where
  abbrev Kept : List Item → Type 0
  Kept items = Keeps sees images faults j_end used_end other_end (record {
    base = base;
    core = core_end;
    trail = items;
    roomless = lost_end;
    doubt = doubt_end;
    who = me;
    limit = limit;
    record_bytes = n_end;
    in_use = u_end;
    a = picked u_end.second used_end other_end;
    b = picked u_end.second other_end used_end;
    a_first = a_first;
    b_first = b_first;
  })

  abbrev HoldsIn : State → Type 0
  HoldsIn s = Hold (images used_end) (Guarded (sees other_end) (images other_end)) j_end u_end doubt_end s me

  -- with the doubts of so many items
  abbrev Rises : ℕ → Bool → Type 0
  Rises m v = IsWithinRise m (faults a_first) (faults (picked v used_end other_end)) (faults b_first) (faults (picked v other_end used_end))

  late : greatest base trail ≤ t
  late = omega (arith, kept.moments, goes.ready.moment.late, goes.moment)

  -- after a fault a doubt joins the trail
  pub kept_doubt : core_end.state ≡ core.state → core_end.out ≡ core.out → core_end.greatest ≡ t → trail_end ≡ trail ++ item.Doubt who t ∷ [] → Rose (faults used) (faults used_end) ⊎ Rose (faults other) (faults other_end)
      → ((file : List ℕ) → sees used_end ≡ Some file → HoldsIn core.state) → Kept trail_end
  kept_doubt state out_is greatest_is trail_is rose stands =
      let x = item.Doubt who t in
      let counted = count_push is_doubt trail x in
      subst Kept (sym trail_is) (record {
        sound = kept.sound;
        state = state ∙ kept.state ∙ ap (after base) (sym (commits-push trail x ∙ append-nil (commits trail)));
        legal = legal_doubt base limit trail kept.legal who t late;
        leased = λ k. ap (is_out k) out_is ∙ leased_doubt base trail core.out kept.leased who t k;
        moments = moments_on base trail x core_end.greatest (omega (arith, greatest_is));
        doubts = subst (Rises (count_by is_doubt (trail ++ x ∷ []))) (sym turned) (doubt_rises faults u.second (count_by is_doubt trail) (count_by is_doubt (trail ++ x ∷ [])) (faults a_first) (faults b_first) used used_end other other_end later later_other (omega (arith, counted)) rose kept.doubts);
        named = named;
        a_is = refl;
        b_is = refl;
        stands = λ file told. subst HoldsIn (sym state) (stands file told);
      })

  -- after a commit it is in the state and in the trail
  pub kept_made : core_end.state ≡ applied p core.state → core_end.out ≡ out_after p.settled core.out → core_end.greatest ≡ p.moment → trail_end ≡ trail ++ item.Made (commit_of who t asked) ∷ [] → FindsNoStop asked trail → FitsIn limit trail (commit_of who t asked)
      → ((file : List ℕ) → sees used_end ≡ Some file → HoldsIn (and_then core.state (commit_of who t asked))) → Kept trail_end
  kept_made state out_is greatest_is trail_is unstopped fits stands =
      let x = item.Made (commit_of who t asked) in
      let counted = count_push is_doubt trail x in
      let at = made_at who t asked in
      let free = subst (λ (s : State). IsTrue (is_legal_in s (commit_of who t asked))) kept.state goes.legal in
      let held = subst (λ (o : Option Settled). IsTrue (option_map_or (λ s. is_out s.id core.out) o true)) goes.settles goes.ready.settles in
      subst Kept (sym trail_is) (record {
        sound = kept.sound;
        state = state ∙ goes.makes ∙ ap (λ (s : State). after s (commit_of who t asked ∷ [])) kept.state ∙ sym (state_made base limit trail kept.legal kept.sound who t asked free late);
        legal = legal_made base limit trail kept.legal kept.sound who t asked free late unstopped core.out kept.leased held fits;
        leased = λ k. ap (is_out k) (out_is ∙ ap (λ (o : Option Settled). out_after o core.out) goes.settles) ∙ leased_made base trail core.out kept.leased asked who t k;
        moments = moments_on base trail x core_end.greatest (omega (arith, greatest_is, goes.moment, at));
        doubts = subst (Rises (count_by is_doubt (trail ++ x ∷ []))) (sym turned) (rises_on faults u.second (count_by is_doubt trail) (count_by is_doubt (trail ++ x ∷ [])) (faults a_first) (faults b_first) used used_end other other_end later later_other (omega (arith, counted)) kept.doubts);
        named = named;
        a_is = refl;
        b_is = refl;
        stands = λ file told. subst HoldsIn (sym (state ∙ goes.makes)) (stands file told);
      })

-- after a take its item stands in the trail
module _ {D : Type 0} (sees : D → Option (List ℕ)) (images : D → List ℕ → Type 0) (faults : D → ℕ) (j : Journal)
    (base : State) (core core_end : Database) (trail trail_end : List Item) (lost lost_end : List MsgId) (doubt : Option Commit) (me : Identity) (limit n : ℕ) (u : InUse) (used other a_first b_first : D)
    (kept : Keeps sees images faults j used other (record {
      base = base;
      core = core;
      trail = trail;
      roomless = lost;
      doubt = doubt;
      who = me;
      limit = limit;
      record_bytes = n;
      in_use = u;
      a = picked u.second used other;
      b = picked u.second other used;
      a_first = a_first;
      b_first = b_first;
    })) where
  abbrev Taking : List Item → Type 0
  Taking items = Keeps sees images faults j used other (record {
    base = base;
    core = core_end;
    trail = items;
    roomless = lost_end;
    doubt = doubt;
    who = me;
    limit = limit;
    record_bytes = n;
    in_use = u;
    a = picked u.second used other;
    b = picked u.second other used;
    a_first = a_first;
    b_first = b_first;
  })

  pub kept_took : (who t : ℕ) (m : Message) → first_stop trail ≡ None → core.greatest ≤ t → IsTaken core t (taken.Leased m) core_end → trail_end ≡ trail ++ item.Took who t m.id ∷ [] → weight (trail ++ item.Took who t m.id ∷ []) ≤ limit → Taking trail_end
  kept_took who t m unstopped late is trail_is fits =
      let x = item.Took who t m.id in
      let state = is.2.state in
      let at = is.2.greatest in
      let counted = count_push is_doubt trail x in
      let due = sym (next_same base trail core.out kept.leased (after base (commits trail)) t) ∙ subst (λ (s : State). next s core.out t ≡ Some m) kept.state is.0.first in
      subst Taking (sym trail_is) (record {
        sound = kept.sound;
        state = state ∙ kept.state ∙ ap (after base) (sym (commits-push trail x ∙ append-nil (commits trail)));
        legal = legal_took base limit trail kept.legal who t m (omega (arith, kept.moments, late)) unstopped due fits;
        leased = λ k. is.1 k ∙ leased_took base trail core.out kept.leased who t m.id k;
        moments = moments_on base trail x core_end.greatest (omega (arith, at));
        doubts = λ low_a low_b. let before = kept.doubts low_a low_b in omega (arith, before, counted);
        named = kept.named;
        a_is = refl;
        b_is = refl;
        stands = λ file told. subst (λ (s : State). Hold (images used) (Guarded (sees other) (images other)) j u doubt s me) (sym state) (kept.stands file told);
      })

  -- after a stop its item stands in the trail, and the moment is raised
  pub kept_stopped : (who t : ℕ) (last : Bool) → core.greatest ≤ t → core_end ≡ record core { greatest = t } → trail_end ≡ trail ++ item.Stop who t last ∷ [] → Taking trail_end
  kept_stopped who t last late is trail_is =
      let x = item.Stop who t last in
      let state = ap (λ (d : Database). d.state) is in
      let at = ap (λ (d : Database). d.greatest) is in
      let counted = count_push is_doubt trail x in
      subst Taking (sym trail_is) (record {
        sound = kept.sound;
        state = state ∙ kept.state ∙ ap (after base) (sym (commits-push trail x ∙ append-nil (commits trail)));
        legal = legal_stop base limit trail kept.legal who t last (omega (arith, kept.moments, late));
        leased = λ k. ap (λ (d : Database). is_out k d.out) is ∙ leased_stop base trail core.out kept.leased who t last k;
        moments = moments_on base trail x core_end.greatest (omega (arith, at));
        doubts = λ low_a low_b. let before = kept.doubts low_a low_b in omega (arith, before, counted);
        named = kept.named;
        a_is = refl;
        b_is = refl;
        stands = λ file told. subst (λ (s : State). Hold (images used) (Guarded (sees other) (images other)) j u doubt s me) (sym state) (kept.stands file told);
      })

-- where a term begins
pub kept_begun : {D : Type 0} (sees : D → Option (List ℕ)) (images : D → List ℕ → Type 0) (faults : D → ℕ) (j : Journal) (used other : D) (s : Contents D)
    → IsSound s.core.state → s.core.out ≡ [] → s.core.state.moment ≤ s.core.greatest → j.in_doubt ≡ is_some s.doubt
    → s.base ≡ s.core.state → s.trail ≡ [] → s.a_first ≡ s.a → s.b_first ≡ s.b → s.a ≡ picked s.in_use.second used other → s.b ≡ picked s.in_use.second other used
    → ((file : List ℕ) → sees used ≡ Some file → Hold (images used) (Guarded (sees other) (images other)) j s.in_use s.doubt s.core.state s.who) → Keeps sees images faults j used other s
kept_begun {D} sees images faults j used other s sound none late named base trail a b a_is b_is stands = record {
  sound = subst IsSound (sym base) sound;
  state = sym ((λ i. after (base i) (commits (trail i))) ∙ after_nothing s.core.state sound);
  legal = subst (λ (l : List Item). IsTrue (is_legal_trail s.base s.limit l)) (sym trail) refl;
  leased = λ k. ap (is_out k) none ∙ ap (λ (l : List Item). is_out k (out l)) (sym trail);
  moments = subst (λ (l : List Item). greatest s.base l ≤ s.core.greatest) (sym trail) (subst (λ (x : State). x.moment ≤ s.core.greatest) (sym base) late);
  doubts = λ low_a low_b. let same_a = ap faults a in let same_b = ap faults b in let counted = ap (count_by is_doubt) trail in omega (arith, same_a, same_b, counted);
  named = named;
  a_is = a_is;
  b_is = b_is;
  stands = stands;
}

-- the state of a store is sound
pub kept_sound : {D : Type 0} (sees : D → Option (List ℕ)) (images : D → List ℕ → Type 0) (faults : D → ℕ) (j : Journal) (used other : D) (s : Contents D) → Keeps sees images faults j used other s → IsSound s.core.state
kept_sound sees images faults j used other s kept = subst IsSound (sym kept.state) (after_is_sound s.base (commits s.trail) kept.sound (legal_parts s.base s.limit s.trail kept.legal).0)
