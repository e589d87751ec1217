-- A write keeps it.
use Rattle.std.proofs.Common.{◌≡◌, ℕ, ◌+◌, ◌≤◌, Bool, true, false, cond, not, ◌&&◌, ◌||◌, List, [], ◌∷◌, ◌++◌, Option, Some, None, Result, Ok, Err, refl, sym, ap, ◌∙◌, subst, arith}
use Rattle.std.specs.Prelude.{nat_le, nat_lt, is_ok, is_none, option_map, unwrap_or}
use Rattle.std.specs.Bool.{then_some}
use Rattle.std.specs.List.{list_any, position_from}
use Rattle.std.specs.Result.{result_err}
use Rattle.std.proofs.lemmas.List.{append-nil}
use Rattle.std.proofs.lemmas.Bool.{and_from, le-leb, ltb-false}
use Rattle.dkv_base.specs.declared.types.AtomicWrite.{AtomicWrite}
use Rattle.dkv_base.specs.declared.types.Commit.{Commit}
use Rattle.dkv_base.specs.declared.types.Item.{Item}
use Rattle.dkv_base.specs.declared.codes.Limit.{Limit}
use Rattle.dkv_base.specs.declared.types.MsgId.{MsgId}
use Rattle.dkv_base.specs.Limits.{write_limit, first_some}
use Rattle.dkv_base.specs.State.{State, is_empty, seen}
use Rattle.dkv_base.specs.Messages.{acks, fails, known}
use Rattle.dkv_base.specs.Writes.{failing, mutated_all}
use Rattle.dkv_base.specs.After.{after, is_legal_in}
use Rattle.dkv_base.specs.Trails.{out, weight, is_stop, first_stop}
use Rattle.dkv_base.specs.Replies.{said, stopped, full, limited, fails_reply, write_reply_in}
use Rattle.dkv_base.specs.Steps.{Situation, raised, committed}
use Rattle.dkv_base.specs.Sound.{IsSound}
use Rattle.dkv_base.specs.declared.moments.TheConstants.{MAX_MOMENT}
use Rattle.dkv_base.specs.declared.types.Answer.TheVariants as answer
use Rattle.dkv_base.specs.declared.types.Commit.TheVariants as commit
use Rattle.dkv_base.specs.declared.types.Item.TheVariants as item
use Rattle.dkv_base.proofs.AfterNothing.{FailsFit, fit_filter}
use Rattle.dkv_base.proofs.NamedMessages.{AllNamed, still_named}
use Rattle.dkv_base.proofs.Kept.{Kept, kept_grown, nothing_settled, legal_more, state_more}

-- ---- a write

pub not_none : {X : Type 0} (x : X) → Some x ≡ None → ⊥
not_none x e = absurd (cc)

-- where a write is answered Written, no row before it applies
record Free (w : Option Limit) (stop : Option ℕ) (places : List ℕ) (bad : Option ℕ) (over : Bool) : Type 0 where
  limits : w ≡ None
  stops : stop ≡ None
  checks : is_empty places ≡ true
  numbers : bad ≡ None
  room : over ≡ false

rows_left : (w : Option Limit) (stop : Option ℕ) (places : List ℕ) (bad : Option ℕ) (over : Bool) (a b n k : ℕ)
    → unwrap_or (first_some (option_map limited w ∷ option_map stopped stop ∷ fails_reply places ∷ option_map (λ place. said (answer.NotU64 place)) bad ∷ then_some over (full a b) ∷ [])) (said (answer.Written k)) ≡ said (answer.Written n)
    → Free w stop places bad over
rows_left (Some l) stop places bad over a b n k e = absurd (cc)
rows_left None (Some p) places bad over a b n k e = absurd (cc)
rows_left None None (x ∷ xs) bad over a b n k e = absurd (cc)
rows_left None None [] (Some p) over a b n k e = absurd (cc)
rows_left None None [] None true a b n k e = absurd (cc)
rows_left None None [] None false a b n k e = record { limits = refl; stops = refl; checks = refl; numbers = refl; room = refl }

pub no_stop : (i : ℕ) (xs : List Item) → position_from is_stop i xs ≡ None → list_any is_stop xs ≡ false
no_stop i [] e = refl
no_stop i (x ∷ xs) e =
    elim (is_stop x) as (λ b. cond b (Some i) (position_from is_stop (i + 1) xs) ≡ None → (b || list_any is_stop xs) ≡ false) [
      | true ↦ λ none. absurd (not_none i none)
      | false ↦ λ none. no_stop (i + 1) xs none
    ] e

no_error : {X : Type 0} (r : Result X ℕ) → result_err r ≡ None → is_ok r ≡ true
no_error (Ok x) e = refl
no_error (Err k) e = absurd (not_none k e)

-- a commit that settles none of the ids
abbrev pub Spares : Commit → List MsgId → Type 0
Spares c [] = Unit {0}
Spares c (id ∷ ids) = ((acks id c ≡ false) × (fails id c ≡ false)) × Spares c ids

write_spares : (who at : ℕ) (w : AtomicWrite) (ids : List MsgId) → Spares (commit.Wrote who at w) ids
write_spares who at w [] = tt
write_spares who at w (id ∷ ids) = ((refl, refl), write_spares who at w ids)

pub still_all : (s : State) (c : Commit) (ids : List MsgId) → FailsFit s.messages → Spares c ids → AllNamed s.messages ids → AllNamed (after s (c ∷ [])).messages ids
still_all s c [] f sp a = tt
still_all s c (id ∷ ids) f sp a = (still_named c id s.messages _ f sp.0.0 sp.0.1 a.0, still_all s c ids f sp.1 a.1)

pub kept_write : (base : State) (limit : ℕ) (s : Situation) (who t n : ℕ) (w : AtomicWrite) → IsSound base → Kept base limit s → s.greatest ≤ t → t ≤ MAX_MOMENT
    → write_reply_in s.state s.trail s.limit who t w ≡ said (answer.Written n) → Kept base limit (raised t (committed (commit.Wrote who t w) s))
kept_write base limit s who t n w sound k up last e =
    let c = commit.Wrote who t w in
    let x = item.Made c in
    let free : Free (write_limit w) (first_stop s.trail) (failing w (seen s.state t)) (result_err (mutated_all w (s.state.number + 1) t (seen s.state t))) (nat_lt s.limit (weight (s.trail ++ x ∷ [])))
    = rows_left _ _ _ _ _ (weight s.trail) s.limit n (s.state.number + 1) e in
    let made : is_legal_in s.state c ≡ true =
    and_from (nat_le s.state.moment t && nat_le t MAX_MOMENT) _
    (and_from (nat_le s.state.moment t) _ (le-leb _ _ (omega (arith, k.state_moment, up))) (le-leb _ _ last))
    (and_from (is_none (write_limit w) && is_empty (failing w (seen s.state t))) _
    (and_from (is_none (write_limit w)) _ (ap is_none free.limits) free.checks)
    (no_error (mutated_all w (s.state.number + 1) t (seen s.state t)) free.numbers)) in
    kept_grown base limit s x t (after s.state (c ∷ [])) s.out k up last refl
    (state_more base limit s c sound k) (legal_more base limit s c k made)
    (and_from (not (list_any is_stop s.trail)) _ (ap not (no_stop 0 s.trail free.stops))
    (le-leb _ _ (subst (λ l. weight (s.trail ++ x ∷ []) ≤ l) k.limit_is (ltb-false _ _ free.room))))
    (k.out_ids ∙ sym (nothing_settled (out s.trail) [] ∙ append-nil (out s.trail)))
    (omega arith) (fit_filter (c ∷ []) (known s.state (c ∷ [])))
    (still_all s.state c s.out k.fit (write_spares who t w s.out) k.waits)
