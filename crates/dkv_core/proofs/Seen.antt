-- What is read of a walk, and then what can be seen of it, is what is read of what can be seen.
use Rattle.std.proofs.Common.{◌≡◌, ℕ, Bool, true, false, cond, List, [], ◌∷◌, filter, take, refl, ap, ◌∙◌}
use mathlib.Core.List.{reverse_aux}
use Rattle.dkv_base.specs.declared.types.Entry.{Entry}
use Rattle.dkv_base.specs.declared.types.ReadRange.{ReadRange}
use Rattle.dkv_base.specs.Limits.{from_zero}
use Rattle.dkv_base.specs.Replies.{read_range, turned}
use Rattle.dkv_base.specs.State.{is_between, visible, is_visible}
use Rattle.dkv_table.specs.Walks.{walked}

filters_turn : (p q : Entry → Bool) (es : List Entry) → filter p (filter q es) ≡ filter q (filter p es)
filters_turn p q [] = refl
filters_turn p q (e ∷ es) =
    let rest = filters_turn p q es in
    elim (p e) as (λ a. p e ≡ a → filter p (cond (q e) (e ∷ filter q es) (filter q es)) ≡ filter q (cond a (e ∷ filter p es) (filter p es))) [
      | true ↦ λ here. elim (q e) as (λ b. q e ≡ b → filter p (cond b (e ∷ filter q es) (filter q es)) ≡ cond b (e ∷ filter q (filter p es)) (filter q (filter p es))) [
        | true ↦ λ there. (λ i. cond (here i) (e ∷ filter p (filter q es)) (filter p (filter q es))) ∙ ap (λ fs. e ∷ fs) rest
        | false ↦ λ there. rest
      ] refl
      | false ↦ λ here. elim (q e) as (λ b. filter p (cond b (e ∷ filter q es) (filter q es)) ≡ filter q (filter p es)) [
        | true ↦ (λ i. cond (here i) (e ∷ filter p (filter q es)) (filter p (filter q es))) ∙ rest
        | false ↦ rest
      ]
    ] refl

filter-reversed : (p : Entry → Bool) (es behind : List Entry) → filter p (reverse_aux es behind) ≡ reverse_aux (filter p es) (filter p behind)
filter-reversed p [] behind = refl
filter-reversed p (e ∷ es) behind =
    filter-reversed p es (e ∷ behind)
    ∙ elim (p e) as (λ b. reverse_aux (filter p es) (cond b (e ∷ filter p behind) (filter p behind)) ≡ reverse_aux (cond b (e ∷ filter p es) (filter p es)) (filter p behind)) [
      | true ↦ refl
      | false ↦ refl
    ]

filter-turned : (p : Entry → Bool) (down : Bool) (es : List Entry) → filter p (turned down es) ≡ turned down (filter p es)
filter-turned p true es = filter-reversed p es []
filter-turned p false es = refl

pub seen_of_walk : (at : ℕ) (r : ReadRange) (es : List Entry) → take (from_zero r.limit) (visible at (walked r.start r.end r.reverse es)) ≡ read_range (visible at es) r
seen_of_walk at r es =
    ap (λ fs. take (from_zero r.limit) fs) (filter-turned (is_visible at) r.reverse (filter (λ e. is_between r.start r.end e.key) es) ∙ ap (λ fs. turned r.reverse fs) (filters_turn (is_visible at) (λ e. is_between r.start r.end e.key) es))
