-- What every step of a term keeps.
use Rattle.std.proofs.Common.{◌≡◌, ℕ, ◌≤◌, true, not, List, [], ◌∷◌, ◌++◌, filter, refl, sym, ap, ◌∙◌, subst, arith}
use Rattle.std.specs.Prelude.{nat_le}
use Rattle.std.proofs.lemmas.List.{append-nil}
use Rattle.std.proofs.lemmas.List.Sums.{fold-append}
use Rattle.std.proofs.lemmas.Bool.{and_from, le-leb}
use Rattle.dkv_base.specs.declared.types.Commit.{Commit}
use Rattle.dkv_base.specs.declared.types.Item.{Item}
use Rattle.dkv_base.specs.declared.types.MsgId.{MsgId}
use Rattle.dkv_base.specs.State.{State}
use Rattle.dkv_base.specs.After.{after, is_legal, is_legal_in}
use Rattle.dkv_base.specs.Trails.{commits, commits_of, out, takes, settles, item_moment, greatest, may_stand, items_legal_from}
use Rattle.dkv_base.specs.Steps.{Situation, Watching, doubted}
use Rattle.dkv_base.specs.Sound.{IsSound}
use Rattle.dkv_base.proofs.Lists.{filter_all}
use Rattle.dkv_base.specs.declared.moments.TheConstants.{MAX_MOMENT}
use Rattle.dkv_base.specs.declared.types.Item.TheVariants as item
use Rattle.dkv_base.proofs.ComposedStates.{after-append}
use Rattle.dkv_base.proofs.Composes.{is_legal_from-append, settles_of_legal}
use Rattle.dkv_base.proofs.AfterNothing.{FailsFit, fit}
use Rattle.dkv_base.proofs.NamedMessages.{AllNamed}
use Rattle.dkv_base.proofs.LongerTrails.{commits-push, out-push, items-push}

-- ---- what every step keeps

pub record Kept (base : State) (limit : ℕ) (s : Situation) : Type 0 where
  pub state : s.state ≡ after base (commits s.trail)
  pub out_ids : s.out ≡ out s.trail
  pub legal : is_legal base (commits s.trail) ≡ true
  pub items : items_legal_from base limit [] s.trail ≡ true
  pub limit_is : s.limit ≡ limit
  pub item_moments : greatest base s.trail ≤ s.greatest
  pub state_moment : s.state.moment ≤ s.greatest
  pub last : s.greatest ≤ MAX_MOMENT
  pub fit : FailsFit s.state.messages
  pub waits : AllNamed s.state.messages s.out

-- the situation with one item more, at moment t
abbrev grown : Situation → Item → ℕ → State → List MsgId → Situation
grown s x t left ids = record s { state = left; out = ids; greatest = t; trail = s.trail ++ x ∷ [] }

pub kept_grown : (base : State) (limit : ℕ) (s : Situation) (x : Item) (t : ℕ) (left : State) (ids : List MsgId) → Kept base limit s
    → s.greatest ≤ t → t ≤ MAX_MOMENT → item_moment x ≡ t
    → left ≡ after base (commits s.trail ++ commits_of x) → is_legal base (commits s.trail ++ commits_of x) ≡ true
    → may_stand base limit s.trail x ≡ true
    → ids ≡ filter (λ id. not (settles id x)) (out s.trail) ++ takes x
    → left.moment ≤ t → FailsFit left.messages → AllNamed left.messages ids → Kept base limit (grown s x t left ids)
kept_grown base limit s x t left ids k up last at is legal stands out_is moment fit waits = record {
  state = is ∙ ap (after base) (sym (commits-push s.trail x));
  out_ids = out_is ∙ sym (out-push s.trail x);
  legal = ap (is_legal base) (commits-push s.trail x) ∙ legal;
  items = items-push base limit [] s.trail x ∙ and_from _ _ k.items
      (and_from (nat_le (greatest base s.trail) (item_moment x)) _ (le-leb _ _ (omega (arith, k.item_moments, up, at))) stands);
  limit_is = k.limit_is;
  item_moments = omega (arith, fold-append (λ _ y. item_moment y) base.moment s.trail (x ∷ []), at);
  state_moment = moment;
  last = last;
  fit = fit;
  waits = waits;
}

-- a later moment and other watchers
pub kept_raised : (base : State) (limit : ℕ) (s : Situation) (t : ℕ) (ws : List Watching) → Kept base limit s → s.greatest ≤ t → t ≤ MAX_MOMENT
    → Kept base limit (record s { greatest = t; watchers = ws })
kept_raised base limit s t ws k up last = record {
  state = k.state;
  out_ids = k.out_ids;
  legal = k.legal;
  items = k.items;
  limit_is = k.limit_is;
  item_moments = omega (arith, k.item_moments, up);
  state_moment = omega (arith, k.state_moment, up);
  last = last;
  fit = k.fit;
  waits = k.waits;
}

pub no_commits : (base : State) (limit : ℕ) (s : Situation) → Kept base limit s → s.state ≡ after base (commits s.trail ++ [])
no_commits base limit s k = k.state ∙ ap (after base) (sym (append-nil (commits s.trail)))

pub no_commits_legal : (base : State) (limit : ℕ) (s : Situation) → Kept base limit s → is_legal base (commits s.trail ++ []) ≡ true
no_commits_legal base limit s k = ap (is_legal base) (append-nil (commits s.trail)) ∙ k.legal

pub nothing_settled : (ids more : List MsgId) → filter (λ id. true) ids ++ more ≡ ids ++ more
nothing_settled ids more = ap (λ k. k ++ more) (filter_all ids)

pub kept_doubted : (base : State) (limit : ℕ) (s : Situation) (who t : ℕ) → Kept base limit s → s.greatest ≤ t → t ≤ MAX_MOMENT → Kept base limit (doubted who t s)
kept_doubted base limit s who t k up last =
    kept_grown base limit s (item.Doubt who t) t s.state s.out k up last refl (no_commits base limit s k) (no_commits_legal base limit s k) refl
    (k.out_ids ∙ sym (nothing_settled (out s.trail) [] ∙ append-nil (out s.trail))) (omega (arith, k.state_moment, up)) k.fit k.waits

-- one commit more
pub legal_more : (base : State) (limit : ℕ) (s : Situation) (c : Commit) → Kept base limit s → is_legal_in s.state c ≡ true → is_legal base (commits s.trail ++ c ∷ []) ≡ true
legal_more base limit s c k e =
    is_legal_from-append base [] (commits s.trail) (c ∷ [])
    ∙ and_from _ _ k.legal (and_from _ _ (subst (λ left. is_legal_in left c ≡ true) k.state e) refl)

pub state_more : (base : State) (limit : ℕ) (s : Situation) (c : Commit) → IsSound base → Kept base limit s → after s.state (c ∷ []) ≡ after base (commits s.trail ++ c ∷ [])
state_more base limit s c sound k =
    ap (λ left. after left (c ∷ [])) k.state ∙ sym (after-append base (commits s.trail) (c ∷ []) (settles_of_legal base (commits s.trail) sound k.legal))
