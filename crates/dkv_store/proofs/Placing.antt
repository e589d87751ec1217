-- Places of messages that are out.
use Rattle.std.proofs.Common.{◌≡◌, ℕ, ◌+◌, ◌≤◌, Bool, true, false, cond, not, ◌&&◌, ◌||◌, List, [], ◌∷◌, ◌++◌, filter, Option, Some, None, refl, sym, ap, ◌∙◌, subst, arith}
use Rattle.std.specs.Option.{option_map_or}
use Rattle.std.specs.Prelude.{is_some, IsTrue, ◌^◌, ◌-◌, min}
use Rattle.std.proofs.lemmas.List.Sums.{sum_by-append}
use Rattle.std.proofs.lemmas.Bool.{false≢true}
use Rattle.std.proofs.lemmas.List.{append-nil}
use Rattle.std.proofs.lemmas.List.Elements.{filter-append}
use Rattle.std.proofs.lemmas.List.Folds.{list_any-append}
use Rattle.dkv_base.specs.declared.types.Commit.{Commit}
use Rattle.dkv_base.specs.declared.types.Commit.TheVariants as commit
use Rattle.dkv_base.specs.declared.types.Item.{Item}
use Rattle.dkv_base.specs.declared.types.Item.TheVariants as item
use Rattle.dkv_base.specs.declared.types.MsgId.{MsgId}
use Rattle.dkv_base.specs.State.{same_id}
use Rattle.dkv_base.specs.Messages.{is_out}
use Rattle.dkv_base.specs.Spelling.{record_length}
use Rattle.dkv_base.specs.Trails.{out, takes, settles, weight, item_weight}
use Rattle.dkv_record.specs.Records.{is_settlement}
use Rattle.dkv_base.proofs.Lists.{filter_all}
use Rattle.dkv_base.proofs.LongerTrails.{out-push}
use Rattle.dkv_base.proofs.NamedMessages.{same_id-true, same_id_self}
use Rattle.dkv_core.specs.Settling.{without_id}
use Rattle.dkv_store.specs.Trails.{places, message_of, spent, freed, KeepsPlaces, IsSettling}
use Rattle.dkv_store.proofs.Trailing.{filtered_out}

or_false : (b : Bool) → (b || false) ≡ b
or_false true = refl
or_false false = refl

-- ---- how many have a place

abbrev one : Bool → ℕ
one b = cond b 0 1

pub places_less : (lost : List MsgId) (q : MsgId → Bool) (ids : List MsgId) → places lost (filter q ids) ≤ places lost ids
places_less lost q [] = omega arith
places_less lost q (x ∷ ids) =
    let rest = places_less lost q ids in
    elim (q x) as (λ b. places lost (cond b (x ∷ filter q ids) (filter q ids)) ≤ one (is_out x lost) + places lost ids) [
      | true ↦ omega (arith, rest)
      | false ↦ omega (arith, rest)
    ]

one_less : (b : Bool) → one b ≤ 1
one_less true = omega arith
one_less false = omega arith

pub places_more : (lost : List MsgId) (ids : List MsgId) (id : MsgId) → places lost (ids ++ id ∷ []) ≤ places lost ids + 1
places_more lost [] id = let small = one_less (is_out id lost) in omega (arith, small)
places_more lost (x ∷ ids) id = let rest = places_more lost ids id in omega (arith, rest)

-- an id that isn't one of these may be kept in mind or not
pub places_without : (lost : List MsgId) (id : MsgId) (ids : List MsgId) → is_out id ids ≡ false → places (without_id id lost) ids ≡ places lost ids
places_without lost id [] free = refl
places_without lost id (x ∷ ids) free =
    let other = first_no (same_id id x) (is_out id ids) free in
    let kept = filtered_out (λ other. same_id other id) x lost ∙ ap (λ b. not b && is_out x lost) (turned x id other.0) in
    (λ i. one (kept i) + places_without lost id ids other.1 i)
  where
    first_no : (a b : Bool) → (a || b) ≡ false → (a ≡ false) × (b ≡ false)
    first_no true b e = absurd (false≢true (sym e))
    first_no false b e = (refl, e)

    turned : (a b : MsgId) → same_id b a ≡ false → same_id a b ≡ false
    turned a b other = elim (same_id a b) as (λ v. same_id a b ≡ v → v ≡ false) [
      | true ↦ λ e. sym (ap (λ k. same_id k a) (sym (same_id-true a b e)) ∙ same_id_self a) ∙ other
      | false ↦ λ e. refl
    ] refl

pub grown_out : (x id : MsgId) (lost : List MsgId) → is_out x (lost ++ id ∷ []) ≡ (is_out x lost || same_id x id)
grown_out x id lost = list_any-append (same_id x) lost (id ∷ []) ∙ ap (λ b. is_out x lost || b) (or_false (same_id x id))

one_or : (a b : Bool) → one (a || b) ≤ one a
one_or true b = omega arith
one_or false b = one_less b

places_grown : (lost : List MsgId) (id : MsgId) (ids : List MsgId) → places (lost ++ id ∷ []) ids ≤ places lost ids
places_grown lost id [] = omega arith
places_grown lost id (x ∷ ids) =
    let rest = places_grown lost id ids in
    let head = subst (λ (b : Bool). one b ≤ one (is_out x lost)) (sym (grown_out x id lost)) (one_or (is_out x lost) (same_id x id)) in
    omega (arith, rest, head)

or_true : (a : Bool) → (a || true) ≡ true
or_true true = refl
or_true false = refl

-- a message that is out and had a place is one fewer
pub places_spent : (lost : List MsgId) (id : MsgId) (ids : List MsgId) → is_out id ids ≡ true → is_out id lost ≡ false → places (lost ++ id ∷ []) ids + 1 ≤ places lost ids
places_spent lost id [] is free = absurd (false≢true is)
places_spent lost id (x ∷ ids) is free =
    elim (same_id id x) as (λ b. same_id id x ≡ b → (b || is_out id ids) ≡ true → places (lost ++ id ∷ []) (x ∷ ids) + 1 ≤ places lost (x ∷ ids)) [
      | true ↦ λ e h.
          let same = same_id-true id x e in
          let gone = ap one (grown_out x id lost ∙ ap (λ b. is_out x lost || b) (ap (λ k. same_id k id) (sym same) ∙ same_id_self id) ∙ or_true (is_out x lost)) in
          let had = ap one (ap (λ k. is_out k lost) (sym same) ∙ free) in
          let rest = places_grown lost id ids in
          omega (arith, gone, had, rest)
      | false ↦ λ e h.
          let rest = places_spent lost id ids h free in
          let head = subst (λ (b : Bool). one b ≤ one (is_out x lost)) (sym (grown_out x id lost)) (one_or (is_out x lost) (same_id x id)) in
          omega (arith, rest, head)
    ] refl is

-- ---- who is out after one item more

or_mono : (a b c : Bool) → (b ≡ true → c ≡ true) → (a || b) ≡ true → (a || c) ≡ true
or_mono true b c f e = refl
or_mono false b c f e = f e

or_behind : (a c : Bool) → c ≡ true → (a || c) ≡ true
or_behind true c e = refl
or_behind false c e = e

out_of_filter : (q : MsgId → Bool) (k : MsgId) (ids : List MsgId) → is_out k (filter q ids) ≡ true → is_out k ids ≡ true
out_of_filter q k [] e = e
out_of_filter q k (x ∷ ids) e =
    elim (q x) as (λ b. is_out k (cond b (x ∷ filter q ids) (filter q ids)) ≡ true → (same_id k x || is_out k ids) ≡ true) [
      | true ↦ λ h. or_mono (same_id k x) (is_out k (filter q ids)) (is_out k ids) (out_of_filter q k ids) h
      | false ↦ λ h. or_behind (same_id k x) (is_out k ids) (out_of_filter q k ids h)
    ] e

out_added : (items : List Item) (x : Item) → takes x ≡ [] → out (items ++ x ∷ []) ≡ filter (λ id. not (settles id x)) (out items)
out_added items x none =
    out-push items x ∙ ap (λ ids. filter (λ id. not (settles id x)) (out items) ++ ids) none ∙ append-nil (filter (λ id. not (settles id x)) (out items))

out_taken : (items : List Item) (who at : ℕ) (id : MsgId) → out (items ++ item.Took who at id ∷ []) ≡ out items ++ id ∷ []
out_taken items who at id = out-push items (item.Took who at id) ∙ ap (λ ids. ids ++ id ∷ []) (filter_all (out items))

-- what a commit settled is not out
pub settled_out : (items : List Item) (c : Commit) (id : MsgId) → message_of c ≡ Some id → is_out id (out (items ++ item.Made c ∷ [])) ≡ false
settled_out items (commit.Wrote who at w) id e = absurd (cc e)
settled_out items (commit.Acked who at k) id e =
    let x = item.Made (commit.Acked who at k) in
    let same = ap (λ o. option_map_or (λ j. j) o k) e in
    ap (is_out id) (out_added items x refl) ∙ filtered_out (λ j. settles j x) id (out items)
    ∙ ap (λ b. not ((b || false) || false) && is_out id (out items)) (ap (same_id id) same ∙ same_id_self id)
settled_out items (commit.Failed who at k) id e =
    let x = item.Made (commit.Failed who at k) in
    let same = ap (λ o. option_map_or (λ j. j) o k) e in
    ap (is_out id) (out_added items x refl) ∙ filtered_out (λ j. settles j x) id (out items)
    ∙ ap (λ b. not (b || false) && is_out id (out items)) (ap (same_id id) same ∙ same_id_self id)

pub freed_spent : (m : Option MsgId) (lost : List MsgId) → freed m (spent m lost) ≡ freed m lost
freed_spent None lost = refl
freed_spent (Some id) lost =
    elim (is_out id lost) as (λ b. without_id id (cond b lost (lost ++ id ∷ [])) ≡ without_id id lost) [
      | true ↦ refl
      | false ↦ filter-append (λ other. not (same_id other id)) lost (id ∷ [])
          ∙ ap (λ b. without_id id lost ++ cond (not b) (id ∷ []) []) (same_id_self id) ∙ append-nil (without_id id lost)
    ]

-- ---- what a trail keeps

module _ (items : List Item) (n most : ℕ) (lost : List MsgId) (m lost_most kept : ℕ) (settling : Option (List ℕ))
    (keeps : KeepsPlaces items n most lost m lost_most kept settling) where
  -- a message that is out and has a place is counted
  pub one_kept : (id : MsgId) → is_out id (out items) ≡ true → is_out id lost ≡ false → 1 ≤ kept
  one_kept id is free = let fewer = places_spent lost id (out items) is free in let all = keeps.counted in omega (arith, fewer, all)

  pub kept_spent : (id : MsgId) (lost_end : List MsgId) (m_end fewer : ℕ) → is_out id (out items) ≡ true → is_out id lost ≡ false → fewer + 1 ≡ kept → lost_end ≡ lost ++ id ∷ [] → m_end ≡ m + 1
      → KeepsPlaces items n most lost_end m_end lost_most fewer settling
  kept_spent id lost_end m_end fewer is free less same more = record {
    counted =
        let one = subst (λ (l : List MsgId). places l (out items) + 1 ≤ places lost (out items)) (sym same) (places_spent lost id (out items) is free) in
        let all = keeps.counted in omega (arith, one, all, less);
    within = let w = keeps.within in omega (arith, w, less);
    lost_within = let w = keeps.lost_within in omega (arith, w, more, less);
    settled = keeps.settled;
    laid = keeps.laid;
  }

  pub kept_added : (x : Item) (items_end : List Item) (n_end : ℕ) → takes x ≡ [] → n + kept + 1 ≤ most → items_end ≡ items ++ x ∷ [] → n_end ≡ n + 1
      → KeepsPlaces items_end n_end most lost m lost_most kept settling
  kept_added x items_end n_end none room same more =
      let outs = ap out same ∙ out_added items x none in record {
        counted =
            let all = keeps.counted in
            let fewer = subst (λ (ids : List MsgId). places lost ids ≤ places lost (out items)) (sym outs) (places_less lost (λ id. not (settles id x)) (out items)) in
            omega (arith, all, fewer);
        within = omega (arith, room, more);
        lost_within = keeps.lost_within;
        settled = keeps.settled;
        laid = λ id is. keeps.laid id (out_of_filter (λ k. not (settles k x)) id (out items) (sym (ap (is_out id) outs) ∙ is));
      }

  pub kept_forgot : (id : MsgId) (lost_end : List MsgId) (m_end : ℕ) → is_out id (out items) ≡ false → lost_end ≡ without_id id lost → m_end ≤ m → KeepsPlaces items n most lost_end m_end lost_most kept settling
  kept_forgot id lost_end m_end free same few = record {
    counted = let all = keeps.counted in let fewer = ap (λ l. places l (out items)) same ∙ places_without lost id (out items) free in omega (arith, all, fewer);
    within = keeps.within;
    lost_within = let w = keeps.lost_within in omega (arith, w, few);
    settled = keeps.settled;
    laid = keeps.laid;
  }

  pub kept_taken : (who at : ℕ) (id : MsgId) (items_end : List Item) (n_end most_end : ℕ) (lost_end : List MsgId) (m_end lost_most_end : ℕ) (settling_end : Option (List ℕ)) → is_out id (out items) ≡ false
      → items_end ≡ items ++ item.Took who at id ∷ [] → n_end ≡ n + 1 → n + (kept + 2) ≤ most_end → lost_end ≡ without_id id lost → m_end ≤ m → m + (kept + 2) ≤ lost_most_end
      → IsSettling settling_end → IsTrue (is_some settling_end) → KeepsPlaces items_end n_end most_end lost_end m_end lost_most_end (kept + 1) settling_end
  kept_taken who at id items_end n_end most_end lost_end m_end lost_most_end settling_end free same more room forgot few lost_room settled some = record {
    counted =
        let all = keeps.counted in
        let fewer = ap (λ l. places l (out items)) forgot ∙ places_without lost id (out items) free in
        let grown = subst (λ (ids : List MsgId). places lost_end ids ≤ places lost_end (out items) + 1) (sym (ap out same ∙ out_taken items who at id)) (places_more lost_end (out items) id) in
        omega (arith, all, fewer, grown);
    within = omega (arith, room, more);
    lost_within = omega (arith, few, lost_room);
    settled = settled;
    laid = λ k is. some;
  }

-- ---- records

-- a settlement's body has 25 bytes
pub settlement_length : (c : Commit) → is_settlement c ≡ true → record_length c ≡ 25
settlement_length (commit.Wrote who at w) e = absurd (false≢true e)
settlement_length (commit.Acked who at id) e = refl
settlement_length (commit.Failed who at id) e = refl

-- what the items weigh with one more
pub weighed_on : (items : List Item) (x : Item) (before more now : ℕ) → before ≡ weight items → more ≡ item_weight x → now ≡ min (before + more) (2 ^ 64 - 1) → now ≡ weight (items ++ x ∷ [])
weighed_on items x before more now old same is = let grown = sum_by-append item_weight items (x ∷ []) in omega (arith, old, same, is, grown)
