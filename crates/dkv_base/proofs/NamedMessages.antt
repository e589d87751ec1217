-- Ids of messages that wait.
use Rattle.std.proofs.Common.{◌≡◌, ◌+◌, Bool, true, false, cond, not, ◌&&◌, ◌||◌, List, [], ◌∷◌, ◌++◌, length, map, filter, refl, sym, ap, ◌∙◌, subst, ⊎_elim, add-zero}
use Rattle.std.specs.Prelude.{nat_le, ◌==◌}
use Rattle.std.specs.List.{list_any}
use Rattle.std.proofs.lemmas.Bool.{and_parts, and_from, or_right, or_left, or_cases, eqb-true, eq-eqb, false≢true}
use Rattle.dkv_base.specs.declared.types.Commit.{Commit}
use Rattle.dkv_base.specs.declared.types.Message.{Message}
use Rattle.dkv_base.specs.declared.types.MsgId.{MsgId}
use Rattle.dkv_base.specs.State.{same_id}
use Rattle.dkv_base.specs.Messages.{acks, fails, fails_after, as_after, is_pending, is_out}
use Rattle.dkv_base.proofs.AfterNothing.{FailsFit}

-- ---- ids

pub same_id-true : (a b : MsgId) → same_id a b ≡ true → a ≡ b
same_id-true a b e =
    let parts = and_parts (a.commit == b.commit) (a.index == b.index) e in
    λ i. record { commit = eqb-true a.commit b.commit parts.0 i; index = eqb-true a.index b.index parts.1 i }

pub same_id_self : (a : MsgId) → same_id a a ≡ true
same_id_self a = and_from (a.commit == a.commit) (a.index == a.index) (eq-eqb a.commit a.commit refl) (eq-eqb a.index a.index refl)

-- a message of the list has the id
abbrev pub named : MsgId → List Message → Bool
named id ms = list_any (λ m. same_id id m.id) ms

abbrev pub AllNamed : List Message → List MsgId → Type 0
AllNamed ms [] = Unit {0}
AllNamed ms (id ∷ ids) = (named id ms ≡ true) × AllNamed ms ids

pub named_in : (ms : List Message) (ids : List MsgId) (id : MsgId) → AllNamed ms ids → is_out id ids ≡ true → named id ms ≡ true
named_in ms [] id a e = absurd (false≢true e)
named_in ms (other ∷ ids) id a e =
    ⊎_elim (λ same. subst (λ k. named k ms ≡ true) (sym (same_id-true id other same)) a.0) (named_in ms ids id a.1) (or_cases (same_id id other) _ e)

pub AllNamed-append : (ms : List Message) (ids others : List MsgId) → AllNamed ms ids → AllNamed ms others → AllNamed ms (ids ++ others)
AllNamed-append ms [] others a b = b
AllNamed-append ms (id ∷ ids) others a b = (a.0, AllNamed-append ms ids others a.1 b)

-- a commit that does not settle a message lets it wait
pub still_named : (c : Commit) (id : MsgId) (ms ks : List Message) → FailsFit ms → acks id c ≡ false → fails id c ≡ false → named id ms ≡ true
    → named id (map (λ m. as_after m (c ∷ [])) (filter (is_pending (c ∷ [])) (ms ++ ks))) ≡ true
still_named c id [] ks f noack nofail e = absurd (false≢true e)
still_named c id (m ∷ ms) ks f noack nofail e =
    ⊎_elim
    (λ same.
    let is : id ≡ m.id = same_id-true id m.id same in
    let none : fails_after m (c ∷ []) ≡ m.fails = ap (λ b. m.fails + (0 + cond b 1 0)) (subst (λ k. fails k c ≡ false) is nofail) ∙ add-zero m.fails in
    let waits : is_pending (c ∷ []) m ≡ true =
    ap (λ b. not (b || false) && nat_le (fails_after m (c ∷ [])) (length m.backoff)) (subst (λ k. acks k c ≡ false) is noack)
    ∙ ap (λ k. nat_le k (length m.backoff)) none ∙ f.0 in
    ap (λ b. named id (map (λ x. as_after x (c ∷ [])) (cond b (m ∷ filter (is_pending (c ∷ [])) (ms ++ ks)) (filter (is_pending (c ∷ [])) (ms ++ ks))))) waits
    ∙ or_left (same_id id m.id) _ same)
    (λ later.
    let rest = still_named c id ms ks f.1 noack nofail later in
    elim (is_pending (c ∷ []) m) as (λ b. named id (map (λ x. as_after x (c ∷ [])) (cond b (m ∷ filter (is_pending (c ∷ [])) (ms ++ ks)) (filter (is_pending (c ∷ [])) (ms ++ ks)))) ≡ true) [
      | true ↦ or_right (same_id id m.id) _ rest
      | false ↦ rest
    ])
    (or_cases (same_id id m.id) (named id ms) e)
