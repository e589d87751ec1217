-- Tests of all entries, and lengths, after a put and a removal.
use Rattle.std.proofs.Common.{◌≡◌, ◌+◌, ◌≤◌, Bool, true, false, cond, not, List, [], ◌∷◌, length, map, filter, arith}
use Rattle.std.specs.Prelude.{fold, bytes_eq}
use Rattle.std.specs.List.{list_all}
use Rattle.std.specs.Ordering.{match_ordering}
use Rattle.std.specs.declared.cmp.Ordering.TheVariants.{Less, Equal, Greater}
use Rattle.std.proofs.lemmas.Bool.{and_parts}
use Rattle.dkv_base.specs.declared.types.Entry.{Entry}
use Rattle.dkv_base.specs.State.{entry_cmp, put, without, key_cmp}
use Rattle.dkv_base.proofs.Lists.{all-filter}
use Rattle.dkv_base.proofs.Risings.{all-put_in}

-- what holds of what is put and of what was there holds of all after the puts
pub all-puts : (q : Entry → Bool) (ps es : List Entry) → list_all q ps ≡ true → list_all q es ≡ true → list_all q (fold (λ fs p. put p fs) es ps) ≡ true
all-puts q [] es a h = h
all-puts q (p ∷ ps) es a h = let parts = and_parts (q p) (list_all q ps) a in all-puts q ps (put p es) parts.1 (all-put_in entry_cmp q p es parts.0 h)

-- a put adds one entry at most
pub length-put : (e : Entry) (es : List Entry) → length (put e es) ≤ length es + 1
length-put e [] = omega arith
length-put e (f ∷ fs) =
    let rest = length-put e fs in
    elim (key_cmp e.key f.key) as (λ r. length (match_ordering r (e ∷ f ∷ fs) (e ∷ fs) (f ∷ put e fs)) ≤ length (f ∷ fs) + 1) [
      | Less ↦ omega arith
      | Equal ↦ omega arith
      | Greater ↦ omega arith
    ]

-- a filter leaves no more than there were
pub length-fewer : {X : Type 0} (p : X → Bool) (xs : List X) → length (filter p xs) ≤ length xs
length-fewer p [] = omega arith
length-fewer p (x ∷ xs) =
    let rest = length-fewer p xs in
    elim (p x) as (λ b. length (cond b (x ∷ filter p xs) (filter p xs)) ≤ length (x ∷ xs)) [
      | true ↦ omega arith
      | false ↦ omega arith
    ]

-- what holds of all holds of those that removals leave
pub all-removed : (q : Entry → Bool) (gs es : List Entry) → list_all q es ≡ true → list_all q (fold (λ fs key. without key fs) es (map (λ g. g.key) gs)) ≡ true
all-removed q [] es h = h
all-removed q (g ∷ gs) es h = all-removed q gs (without g.key es) (all-filter q (λ e. not (bytes_eq g.key e.key)) es h)
