-- A trail with one item more: a commit that goes, or a doubt.
use Rattle.std.proofs.Common.{◌≡◌, ℕ, ◌+◌, ◌≤◌, Bool, true, false, cond, not, ◌&&◌, ◌||◌, List, [], ◌∷◌, ◌++◌, filter, Option, Some, None, refl, sym, ap, ◌∙◌, arith, append_assoc, IsTrue}
use Rattle.std.specs.Prelude.{nat_le, count_by}
use Rattle.std.specs.List.{list_any, position_from}
use Rattle.std.specs.Option.{option_map_or}
use Rattle.std.proofs.lemmas.List.{append-nil}
use Rattle.std.proofs.lemmas.List.Sums.{fold-append, sum_by-append}
use Rattle.std.proofs.Math.Bool.{and_assoc}
use Rattle.std.proofs.Math.Path.{fun_ext}
use Rattle.std.proofs.lemmas.List.Folds.{list_any-append}
use Rattle.std.proofs.lemmas.Bool.{and_parts, and_from, le-leb, false≢true}
use Rattle.dkv_base.specs.declared.types.Call.{Call}
use Rattle.dkv_base.specs.declared.types.Call.TheVariants as call
use Rattle.dkv_base.specs.declared.types.Commit.TheVariants as commit
use Rattle.dkv_base.specs.declared.types.Item.{Item}
use Rattle.dkv_base.specs.declared.types.Item.TheVariants as item
use Rattle.dkv_base.specs.declared.types.Message.{Message}
use Rattle.dkv_base.specs.declared.types.MsgId.{MsgId}
use Rattle.dkv_base.specs.State.{State, same_id}
use Rattle.dkv_base.specs.Sound.{IsSound}
use Rattle.dkv_base.specs.After.{after, is_legal, is_legal_in}
use Rattle.dkv_base.specs.Trails.{commits, commits_of, out, takes, settles, weight, item_moment, greatest, is_stop, first_stop, has_room, may_stand, is_item_legal, items_legal_from, is_legal_trail}
use Rattle.dkv_base.specs.Messages.{is_out, next, first_due}
use Rattle.dkv_base.proofs.LongerTrails.{commits-push, out-push}
use Rattle.dkv_base.proofs.NamedMessages.{same_id-true, same_id_self}
use Rattle.dkv_core.specs.Decisions.{commit_of, settled_by}
use Rattle.dkv_core.specs.Settling.{out_after}
use Rattle.dkv_store.specs.Trails.{FindsNoStop, FitsIn}
use Rattle.dkv_store.proofs.Holding.{legal_more, after_more}

-- ---- counts, stops and items

pub count_push : {X : Type 0} (p : X → Bool) (xs : List X) (y : X) → count_by p (xs ++ y ∷ []) ≡ count_by p xs + count_by p (y ∷ [])
count_push p xs y = sum_by-append (λ x. cond (p x) 1 0) xs (y ∷ [])

no_stop : (i : ℕ) (xs : List Item) → position_from is_stop i xs ≡ None → list_any is_stop xs ≡ false
no_stop i [] e = refl
no_stop i (x ∷ xs) e =
    elim (is_stop x) as (λ b. cond b (Some i) (position_from is_stop (i + 1) xs) ≡ None → (b || list_any is_stop xs) ≡ false) [
      | true ↦ λ none. absurd (cc none)
      | false ↦ λ none. no_stop (i + 1) xs none
    ] e

items_push : (base : State) (limit : ℕ) (before xs : List Item) (x : Item)
    → items_legal_from base limit before (xs ++ x ∷ []) ≡ (items_legal_from base limit before xs && is_item_legal base limit (before ++ xs) x)
items_push base limit before [] x = and_true _ ∙ ap (λ b. is_item_legal base limit b x) (sym (append-nil before))
  where
    and_true : (b : Bool) → (b && true) ≡ b
    and_true true = refl
    and_true false = refl
items_push base limit before (y ∷ xs) x =
    ap (λ b. is_item_legal base limit before y && b)
    (items_push base limit (before ++ y ∷ []) xs x ∙ ap (λ b. items_legal_from base limit (before ++ y ∷ []) xs && is_item_legal base limit b x) (append_assoc before (y ∷ []) xs))
    ∙ sym (and_assoc (is_item_legal base limit before y) (items_legal_from base limit (before ++ y ∷ []) xs) _)

-- ---- what is out

pub filtered_out : (p : MsgId → Bool) (k : MsgId) (ids : List MsgId) → is_out k (filter (λ id. not (p id)) ids) ≡ (not (p k) && is_out k ids)
filtered_out p k [] = false_right (not (p k))
  where
    false_right : (b : Bool) → false ≡ (b && false)
    false_right true = refl
    false_right false = refl
filtered_out p k (x ∷ ids) =
    elim (p x) as (λ b. p x ≡ b → is_out k (cond (not b) (x ∷ filter (λ id. not (p id)) ids) (filter (λ id. not (p id)) ids)) ≡ (not (p k) && (same_id k x || is_out k ids))) [
      | true ↦ λ e. filtered_out p k ids ∙ gone (p k) (same_id k x) (is_out k ids) (λ h. ap p (same_id-true k x h) ∙ e)
      | false ↦ λ e. ap (λ b. same_id k x || b) (filtered_out p k ids) ∙ kept (p k) (same_id k x) (is_out k ids) (λ h. ap p (same_id-true k x h) ∙ e)
    ] refl
  where
    gone : (same here rest : Bool) → (here ≡ true → same ≡ true) → (not same && rest) ≡ (not same && (here || rest))
    gone true here rest h = refl
    gone false true rest h = absurd (false≢true (h refl))
    gone false false rest h = refl

    kept : (same here rest : Bool) → (here ≡ true → same ≡ false) → (here || (not same && rest)) ≡ (not same && (here || rest))
    kept same true rest h = sym (ap (λ b. not b && true) (h refl))
    kept same false rest h = refl

or_false : (b : Bool) → (b || false) ≡ b
or_false true = refl
or_false false = refl

module _ (base : State) (trail : List Item) (core_out : List MsgId) (leased : (id : MsgId) → is_out id core_out ≡ is_out id (out trail)) where
  out_on : (x : Item) (k : MsgId) → takes x ≡ [] → is_out k (out (trail ++ x ∷ [])) ≡ (not (settles k x) && is_out k (out trail))
  out_on x k none =
      ap (is_out k) (out-push trail x ∙ ap (λ ids. filter (λ id. not (settles id x)) (out trail) ++ ids) none ∙ append-nil (filter (λ id. not (settles id x)) (out trail)))
      ∙ filtered_out (λ id. settles id x) k (out trail)

  pub leased_doubt : (who t : ℕ) (k : MsgId) → is_out k core_out ≡ is_out k (out (trail ++ item.Doubt who t ∷ []))
  leased_doubt who t k = leased k ∙ sym (out_on (item.Doubt who t) k refl)

  pub leased_stop : (who t : ℕ) (last : Bool) (k : MsgId) → is_out k core_out ≡ is_out k (out (trail ++ item.Stop who t last ∷ []))
  leased_stop who t last k = leased k ∙ sym (out_on (item.Stop who t last) k refl)

  pub leased_made : (a : Call) (who t : ℕ) (k : MsgId) → is_out k (out_after (settled_by a) core_out) ≡ is_out k (out (trail ++ item.Made (commit_of who t a) ∷ []))
  leased_made (call.Write w) who t k = leased k ∙ sym (out_on (item.Made (commit.Wrote who t w)) k refl)
  leased_made (call.Ack id) who t k =
      filtered_out (λ other. same_id other id) k core_out ∙ ap (λ b. not (same_id k id) && b) (leased k)
      ∙ ap (λ b. not b && is_out k (out trail)) (sym (or_false (same_id k id)) ∙ sym (or_false (same_id k id || false)))
      ∙ sym (out_on (item.Made (commit.Acked who t id)) k refl)
  leased_made (call.Fail id) who t k =
      filtered_out (λ other. same_id other id) k core_out ∙ ap (λ b. not (same_id k id) && b) (leased k)
      ∙ ap (λ b. not b && is_out k (out trail)) (sym (or_false (same_id k id)))
      ∙ sym (out_on (item.Made (commit.Failed who t id)) k refl)

  pub leased_took : (who t : ℕ) (id k : MsgId) → (is_out k core_out || same_id k id) ≡ is_out k (out (trail ++ item.Took who t id ∷ []))
  leased_took who t id k =
      ap (λ b. b || same_id k id) (leased k)
      ∙ sym (list_any-append (same_id k) (out trail) (id ∷ []) ∙ ap (λ b. is_out k (out trail) || b) (or_false (same_id k id)))
      ∙ ap (λ ids. is_out k (ids ++ id ∷ [])) (sym (all_left (out trail)))
      ∙ sym (ap (is_out k) (out-push trail (item.Took who t id)))
    where
      all_left : (ids : List MsgId) → filter (λ x. true) ids ≡ ids
      all_left [] = refl
      all_left (x ∷ xs) = ap (λ ys. x ∷ ys) (all_left xs)

  -- what is due next asks only which ids are out
  pub next_same : (s : State) (t : ℕ) → next s core_out t ≡ next s (out trail) t
  next_same s t = ap (λ (q : Message → Bool). first_due (filter (λ m. nat_le m.due t) (filter q s.messages))) (fun_ext (λ m. ap not (leased m.id)))

-- ---- the trail

greatest_on : (base : State) (trail : List Item) (x : Item) → greatest base (trail ++ x ∷ []) ≡ item_moment x
greatest_on base trail x = fold-append (λ _ y. item_moment y) base.moment trail (x ∷ [])

module _ (base : State) (limit : ℕ) (trail : List Item) (legal : is_legal_trail base limit trail ≡ true) where
  pub legal_parts : (is_legal base (commits trail) ≡ true) × (items_legal_from base limit [] trail ≡ true)
  legal_parts = and_parts (is_legal base (commits trail)) (items_legal_from base limit [] trail) legal

  trail_on : (x : Item) → is_legal base (commits trail ++ commits_of x) ≡ true → greatest base trail ≤ item_moment x → may_stand base limit trail x ≡ true
      → is_legal_trail base limit (trail ++ x ∷ []) ≡ true
  trail_on x all late stands =
      and_from _ _ (ap (is_legal base) (commits-push trail x) ∙ all)
      (items_push base limit [] trail x ∙ and_from _ _ legal_parts.1 (and_from _ _ (le-leb (greatest base trail) (item_moment x) late) stands))

  pub legal_doubt : (who t : ℕ) → greatest base trail ≤ t → is_legal_trail base limit (trail ++ item.Doubt who t ∷ []) ≡ true
  legal_doubt who t late = trail_on (item.Doubt who t) (ap (is_legal base) (append-nil (commits trail)) ∙ legal_parts.0) late refl

  -- a stop may stand anywhere
  pub legal_stop : (who t : ℕ) (last : Bool) → greatest base trail ≤ t → is_legal_trail base limit (trail ++ item.Stop who t last ∷ []) ≡ true
  legal_stop who t last late = trail_on (item.Stop who t last) (ap (is_legal base) (append-nil (commits trail)) ∙ legal_parts.0) late refl

  room : (x : Item) → first_stop trail ≡ None → weight (trail ++ x ∷ []) ≤ limit → has_room limit trail x ≡ true
  room x none fits = and_from _ _ (ap not (no_stop 0 trail none)) (le-leb (weight (trail ++ x ∷ [])) limit fits)

  pub legal_took : (who t : ℕ) (m : Message) → greatest base trail ≤ t → first_stop trail ≡ None → next (after base (commits trail)) (out trail) t ≡ Some m → weight (trail ++ item.Took who t m.id ∷ []) ≤ limit
      → is_legal_trail base limit (trail ++ item.Took who t m.id ∷ []) ≡ true
  legal_took who t m late none due fits =
      trail_on (item.Took who t m.id) (ap (is_legal base) (append-nil (commits trail)) ∙ legal_parts.0) late
      (and_from _ _ (room (item.Took who t m.id) none fits) (ap (λ (o : Option Message). option_map_or (λ k. same_id k.id m.id) o false) due ∙ same_id_self m.id))

  module _ (sound : IsSound base) (who t : ℕ) (a : Call) (free : is_legal_in (after base (commits trail)) (commit_of who t a) ≡ true) (late : greatest base trail ≤ t) where
    more : is_legal base (commits trail ++ commit_of who t a ∷ []) ≡ true
    more = legal_more base (commits trail) (commit_of who t a) sound legal_parts.0 free

    pub state_made : after base (commits (trail ++ item.Made (commit_of who t a) ∷ [])) ≡ after (after base (commits trail)) (commit_of who t a ∷ [])
    state_made = ap (after base) (commits-push trail (item.Made (commit_of who t a))) ∙ after_more base (commits trail) (commit_of who t a) sound legal_parts.0 free

  pub legal_made : IsSound base → (who t : ℕ) (a : Call) → is_legal_in (after base (commits trail)) (commit_of who t a) ≡ true → greatest base trail ≤ t → FindsNoStop a trail
      → (core_out : List MsgId) → ((id : MsgId) → is_out id core_out ≡ is_out id (out trail)) → IsTrue (option_map_or (λ s. is_out s.id core_out) (settled_by a) true) → FitsIn limit trail (commit_of who t a)
      → is_legal_trail base limit (trail ++ item.Made (commit_of who t a) ∷ []) ≡ true
  legal_made sound who t (call.Write w) free late none core_out leased held fits =
      trail_on (item.Made (commit.Wrote who t w)) (more sound who t (call.Write w) free late) late (room (item.Made (commit.Wrote who t w)) none fits)
  legal_made sound who t (call.Ack id) free late none core_out leased held fits =
      trail_on (item.Made (commit.Acked who t id)) (more sound who t (call.Ack id) free late) late (sym (leased id) ∙ held)
  legal_made sound who t (call.Fail id) free late none core_out leased held fits =
      trail_on (item.Made (commit.Failed who t id)) (more sound who t (call.Fail id) free late) late (sym (leased id) ∙ held)

pub moments_on : (base : State) (trail : List Item) (x : Item) (g : ℕ) → item_moment x ≤ g → greatest base (trail ++ x ∷ []) ≤ g
moments_on base trail x g le = omega (arith, greatest_on base trail x, le)
