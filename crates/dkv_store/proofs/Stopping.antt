-- The stops among the items of a term.
use Rattle.std.proofs.Common.{◌≡◌, ℕ, ◌+◌, Bool, true, false, cond, ◌||◌, List, [], ◌∷◌, ◌++◌, length, Option, Some, None, Result, Ok, Err, inl, inr, refl, sym, ap, ◌∙◌, arith}
use Rattle.std.specs.Prelude.{IfOk, IfErr, MatchResult}
use Rattle.std.specs.List.{list_any, position_from}
use Rattle.std.specs.Option.{option_or}
use Rattle.std.proofs.lemmas.List.Folds.{list_any-append}
use Rattle.dkv_base.specs.declared.types.Item.{Item}
use Rattle.dkv_base.specs.declared.types.Item.TheVariants as item
use Rattle.dkv_base.specs.Trails.{is_stop, first_stop}
use Rattle.dkv_base.specs.declared.types.Call.{Call}
use Rattle.dkv_core.specs.Decisions.{commit_of}
use Rattle.dkv_core.specs.declared.takes.Taken.{Taken}
use Rattle.dkv_core.specs.declared.takes.Taken.TheVariants as taken
use Rattle.dkv_store.specs.declared.answers.Done.{Done}
use Rattle.dkv_store.specs.declared.answers.Done.TheVariants as done
use Rattle.dkv_store.specs.declared.answers.Refusal.{Refusal}
use Rattle.dkv_store.specs.declared.answers.Refusal.TheVariants as refusal
use Rattle.dkv_store.specs.Stores.{Contents, IsDone, IsNotTaken, IsRefused, IsTake}
use Rattle.dkv_store.specs.Trails.{is_last_stop, KnowsStops}

-- what is no stop stands behind the first
stays_from : (i : ℕ) (xs : List Item) (y : Item) → is_stop y ≡ false → position_from is_stop i (xs ++ y ∷ []) ≡ position_from is_stop i xs
stays_from i [] y other = ap (λ b. cond b (Some i) None) other
stays_from i (x ∷ xs) y other = ap (λ (o : Option ℕ). cond (is_stop x) (Some i) o) (stays_from (i + 1) xs y other)

-- and a stop is the first where there was none
joins_from : (i : ℕ) (xs : List Item) (y : Item) → is_stop y ≡ true → position_from is_stop i (xs ++ y ∷ []) ≡ option_or (position_from is_stop i xs) (Some (i + length xs))
joins_from i [] y is = ap (λ b. cond b (Some i) None) is ∙ ap Some (omega arith)
joins_from i (x ∷ xs) y is =
    elim (is_stop x) as (λ b. cond b (Some i) (position_from is_stop (i + 1) (xs ++ y ∷ [])) ≡ option_or (cond b (Some i) (position_from is_stop (i + 1) xs)) (Some (i + length (x ∷ xs)))) [
      | true ↦ refl
      | false ↦ joins_from (i + 1) xs y is ∙ ap (λ (n : ℕ). option_or (position_from is_stop (i + 1) xs) (Some n)) (let e : (i + 1) + length xs ≡ i + length (x ∷ xs) = omega arith in e)
    ]

-- what is no stop isn't the last one
no_last : (x : Item) → is_stop x ≡ false → is_last_stop x ≡ false
no_last (item.Made c) other = refl
no_last (item.Took who at id) other = refl
no_last (item.Doubt who at) other = refl
no_last (item.Stop who at last) other = absurd (cc other)

or_false : (b : Bool) → (b || false) ≡ b
or_false true = refl
or_false false = refl

-- an item that is no stop
pub knows_on : (items items_end : List Item) (x : Item) (stop : Option ℕ) (ended : Bool) → KnowsStops items stop ended → is_stop x ≡ false → items_end ≡ items ++ x ∷ [] → KnowsStops items_end stop ended
knows_on items items_end x stop ended knows other is = record {
  first = knows.first ∙ sym (ap first_stop is ∙ stays_from 0 items x other);
  last = knows.last ∙ sym (ap (list_any is_last_stop) is ∙ list_any-append is_last_stop items (x ∷ []) ∙ ap (λ b. list_any is_last_stop items || (b || false)) (no_last x other) ∙ or_false (list_any is_last_stop items));
}

-- a stop
pub knows_stop : (items items_end : List Item) (who at : ℕ) (last : Bool) (stop stop_end : Option ℕ) (ended ended_end : Bool) (n : ℕ) → KnowsStops items stop ended → items_end ≡ items ++ item.Stop who at last ∷ []
    → n ≡ length items → stop_end ≡ option_or stop (Some n) → ended_end ≡ (ended || last) → KnowsStops items_end stop_end ended_end
knows_stop items items_end who at last stop stop_end ended ended_end n knows is many first or =
    let x : Item = item.Stop who at last in
    let from_none : length items ≡ 0 + length items = omega arith in
    record {
      first = first ∙ (λ i. option_or (knows.first i) (Some (many i))) ∙ ap (λ (n : ℕ). option_or (first_stop items) (Some n)) from_none ∙ sym (ap first_stop is ∙ joins_from 0 items x refl);
      last = or ∙ ap (λ b. b || last) knows.last
          ∙ sym (ap (list_any is_last_stop) is ∙ list_any-append is_last_stop items (x ∷ []) ∙ ap (λ b. list_any is_last_stop items || b) (or_false last));
    }

-- ---- what calls leave where no stop stands

-- an item that is no stop leaves it so
pub none_on : (items : List Item) (x : Item) → is_stop x ≡ false → first_stop items ≡ None → first_stop (items ++ x ∷ []) ≡ None
none_on items x other none = stays_from 0 items x other ∙ none

-- a commit leaves it so
pub commit_goes_on : {D : Type 0} (old new : Contents D) (who t : ℕ) (a : Call) (r : Result Done Refusal) → MatchResult r (λ d. IsDone old who t a d new) (λ e. IsRefused old who t a e new)
    → first_stop old.trail ≡ None → first_stop new.trail ≡ None
commit_goes_on old new who t a (Ok (done.Committed n)) is none = ap first_stop is.trail ∙ none_on old.trail (item.Made (commit_of who t a)) refl none
commit_goes_on old new who t a (Ok (done.Fails places)) is none = ap first_stop is.1.trail ∙ none
commit_goes_on old new who t a (Ok (done.NotU64 index)) is none = ap first_stop is.1.trail ∙ none
commit_goes_on old new who t a (Ok (done.Limit passed)) is none = ap first_stop is.1.trail ∙ none
commit_goes_on old new who t a (Err refusal.DiskFault) is none = ap first_stop is.1.trail ∙ none_on old.trail (item.Doubt who t) refl none
commit_goes_on old new who t a (Err (refusal.Stopped place)) is none = ap first_stop is.1.trail ∙ none
commit_goes_on old new who t a (Err (refusal.Full bytes limit)) is none = ap first_stop is.3.trail ∙ none
commit_goes_on old new who t a (Err refusal.NoMemory) (inl is) none = ap first_stop is.trail ∙ none
commit_goes_on old new who t a (Err refusal.NoMemory) (inr is) none = ap first_stop is.trail ∙ none

-- and so does a take
pub take_goes_on : {D : Type 0} (old new : Contents D) (who t : ℕ) (r : Result Taken Refusal) → IfOk r (λ x. IsTake old who t x new) → IfErr r (λ e. IsNotTaken old who t e new)
    → first_stop old.trail ≡ None → first_stop new.trail ≡ None
take_goes_on old new who t (Ok (taken.Leased m)) is short none = ap first_stop is.1 ∙ none_on old.trail (item.Took who t m.id) refl none
take_goes_on old new who t (Ok (taken.Nothing next)) is short none = ap first_stop is.1 ∙ none
take_goes_on old new who t (Err refusal.DiskFault) is short none = absurd short
take_goes_on old new who t (Err (refusal.Stopped place)) is short none = ap first_stop short.1.trail ∙ none
take_goes_on old new who t (Err (refusal.Full bytes limit)) is short none = ap first_stop short.5.trail ∙ none
take_goes_on old new who t (Err refusal.NoMemory) is short none = ap first_stop short.trail ∙ none
