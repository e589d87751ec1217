-- A settlement keeps it.
use Rattle.std.proofs.Common.{◌≡◌, ℕ, ◌≤◌, Bool, true, false, cond, not, ◌&&◌, List, [], ◌∷◌, filter, refl, sym, ap, ◌∙◌, subst, arith}
use Rattle.std.specs.Prelude.{nat_le}
use Rattle.std.proofs.lemmas.List.{append-nil}
use Rattle.std.proofs.lemmas.Bool.{and_from, le-leb}
use Rattle.dkv_base.specs.declared.types.Item.{Item}
use Rattle.dkv_base.specs.declared.types.Message.{Message}
use Rattle.dkv_base.specs.declared.types.MsgId.{MsgId}
use Rattle.dkv_base.specs.State.{State, same_id}
use Rattle.dkv_base.specs.Messages.{acks, fails, moment_of, known, is_out}
use Rattle.dkv_base.specs.After.{after, is_legal_in, is_pending_id, may_make}
use Rattle.dkv_base.specs.Trails.{out, settles, may_stand}
use Rattle.dkv_base.specs.Steps.{Situation, raised, settled, settlement}
use Rattle.dkv_base.specs.Sound.{IsSound}
use Rattle.dkv_base.proofs.Lists.{or_false, filter-cong}
use Rattle.dkv_base.specs.declared.moments.TheConstants.{MAX_MOMENT}
use Rattle.dkv_base.specs.declared.types.Item.TheVariants as item
use Rattle.dkv_base.proofs.AfterNothing.{fit_filter}
use Rattle.dkv_base.proofs.NamedMessages.{AllNamed, named_in}
use Rattle.dkv_base.proofs.Kept.{Kept, kept_grown, legal_more, state_more}
use Rattle.dkv_base.proofs.KeptCommits.{Spares, still_all}

-- ---- a settlement

AllNamed-filter : (ms : List Message) (p : MsgId → Bool) (ids : List MsgId) → AllNamed ms ids → AllNamed ms (filter p ids)
AllNamed-filter ms p [] a = tt
AllNamed-filter ms p (id ∷ ids) a =
    elim (p id) as (λ b. AllNamed ms (cond b (id ∷ filter p ids) (filter p ids))) [
      | true ↦ (a.0, AllNamed-filter ms p ids a.1)
      | false ↦ AllNamed-filter ms p ids a.1
    ]

spared : (done : Bool) (who t : ℕ) (id other : MsgId) → same_id other id ≡ false → (acks other (settlement done who t id) ≡ false) × (fails other (settlement done who t id) ≡ false)
spared true who t id other e = (e, refl)
spared false who t id other e = (refl, e)

settlement_spares : (done : Bool) (who t : ℕ) (id : MsgId) (ids : List MsgId) → Spares (settlement done who t id) (filter (λ other. not (same_id other id)) ids)
settlement_spares done who t id [] = tt
settlement_spares done who t id (other ∷ ids) =
    elim (same_id other id) as (λ b. same_id other id ≡ b → Spares (settlement done who t id) (cond (not b) (other ∷ filter (λ o. not (same_id o id)) ids) (filter (λ o. not (same_id o id)) ids))) [
      | true ↦ λ e. settlement_spares done who t id ids
      | false ↦ λ e. (spared done who t id other e, settlement_spares done who t id ids)
    ] refl

settles_other : (done : Bool) (who t : ℕ) (id other : MsgId) → settles other (item.Made (settlement done who t id)) ≡ same_id other id
settles_other true who t id other = or_false _ ∙ or_false _
settles_other false who t id other = or_false _

settlement_moment : (done : Bool) (who t : ℕ) (id : MsgId) → moment_of (settlement done who t id) ≡ t
settlement_moment true who t id = refl
settlement_moment false who t id = refl

may_settle : (done : Bool) (who t : ℕ) (id : MsgId) (s : State) → is_pending_id s id ≡ true → may_make s (settlement done who t id) ≡ true
may_settle true who t id s e = e
may_settle false who t id s e = e

may_stand_settled : (base : State) (limit : ℕ) (before : List Item) (done : Bool) (who t : ℕ) (id : MsgId) → is_out id (out before) ≡ true
    → may_stand base limit before (item.Made (settlement done who t id)) ≡ true
may_stand_settled base limit before true who t id e = e
may_stand_settled base limit before false who t id e = e

pub kept_settle : (base : State) (limit : ℕ) (s : Situation) (who t : ℕ) (id : MsgId) (done : Bool) → IsSound base → Kept base limit s → s.greatest ≤ t → t ≤ MAX_MOMENT
    → is_out id s.out ≡ true → Kept base limit (raised t (settled (settlement done who t id) id s))
kept_settle base limit s who t id done sound k up last e =
    let c = settlement done who t id in
    let left = filter (λ other. not (same_id other id)) s.out in
    let at : moment_of c ≡ t = settlement_moment done who t id in
    let made : is_legal_in s.state c ≡ true =
    and_from (nat_le s.state.moment (moment_of c) && nat_le (moment_of c) MAX_MOMENT) _
    (and_from (nat_le s.state.moment (moment_of c)) _ (le-leb _ _ (omega (arith, k.state_moment, up, at))) (le-leb _ _ (omega (arith, last, at))))
    (may_settle done who t id s.state (named_in s.state.messages s.out id k.waits e)) in
    kept_grown base limit s (item.Made c) t (after s.state (c ∷ [])) left k up last at
    (state_more base limit s c sound k) (legal_more base limit s c k made)
    (may_stand_settled base limit s.trail done who t id (subst (λ ids. is_out id ids ≡ true) k.out_ids e))
    (ap (filter (λ other. not (same_id other id))) k.out_ids
    ∙ filter-cong _ _ (λ other. ap not (sym (settles_other done who t id other))) (out s.trail)
    ∙ sym (append-nil (filter (λ other. not (settles other (item.Made c))) (out s.trail))))
    (omega (arith, at)) (fit_filter (c ∷ []) (known s.state (c ∷ [])))
    (still_all s.state c left k.fit (settlement_spares done who t id s.out) (AllNamed-filter s.state.messages _ s.out k.waits))
