-- What is among endings after each change, and up to a moment.
use Rattle.std.proofs.Common.{◌≡◌, ℕ, ◌<◌, ◌≤◌, Bool, true, false, cond, not, ◌&&◌, ◌||◌, ◌⊎◌, inl, inr, nat_le, nat_lt, List, [], ◌∷◌, Option, Some, None, is_some, refl, sym, ap, ◌∙◌, arith}
use Rattle.std.specs.Prelude.{slice_get}
use Rattle.std.specs.List.{list_all}
use Rattle.std.specs.Ordering.{is_lt, is_le, is_eq}
use Rattle.std.proofs.lemmas.Bool.{and_parts, and_from, or_left, or_right, or_cases, leb-true, leb-false, ltb-true, lt-leb, le-leb, lt-ltb, eqb-true}
use Rattle.std.proofs.lemmas.Cmp.{tied_itself}
use Rattle.dkv_base.specs.Ordered.{found, is_rising}
use Rattle.dkv_base.proofs.Lookups.{found-put_in, found-left_out}
use Rattle.dkv_base.proofs.Lists.{all_weaker}
use Rattle.dkv_expiry.specs.declared.ending.Ending.{Ending}
use Rattle.dkv_expiry.specs.Endings.{ending_cmp, ending, same_ending, noted, dropped, first_upto, has}
use Rattle.dkv_expiry.specs.Laws.{FirstIsLeast}
use Rattle.dkv_base.proofs.Ranks.{le-lt, number-le}
use Rattle.dkv_expiry.proofs.Order.{ending_total, ties, le-eq}

-- what is among them is found
pub has-found : (q : Ending) (ps : List Ending) → has q ps ≡ is_some (found ending_cmp q ps)
has-found q [] = refl
has-found q (p ∷ ps) =
    (λ i. sym (ties q p) i || has-found q ps i) ∙ by (is_eq (ending_cmp q p)) (found ending_cmp q ps)
  where
    by : (b : Bool) (o : Option Ending) → (b || is_some o) ≡ is_some (cond b (Some p) o)
    by true o = refl
    by false o = refl

-- after a note the ending is there, and what was there before
pub has-noted : (q : Ending) (at : ℕ) (key : List ℕ) (ps : List Ending) → has q (noted at key ps) ≡ (same_ending q (ending at key) || has q ps)
has-noted q at key ps =
    has-found q (noted at key ps) ∙ ap is_some (found-put_in ending_total q (ending at key) ps)
    ∙ by (is_eq (ending_cmp q (ending at key))) (found ending_cmp q ps) ∙ (λ i. ties q (ending at key) i || sym (has-found q ps) i)
  where
    by : (b : Bool) (o : Option Ending) → is_some (cond b (Some (ending at key)) o) ≡ (b || is_some o)
    by true o = refl
    by false o = refl

-- after a drop the ending is gone, and the rest is there
pub has-dropped : (q : Ending) (at : ℕ) (key : List ℕ) (ps : List Ending) → has q (dropped at key ps) ≡ (not (same_ending q (ending at key)) && has q ps)
has-dropped q at key ps =
    has-found q (dropped at key ps) ∙ ap is_some (found-left_out ending_total q (ending at key) ps)
    ∙ by (is_eq (ending_cmp q (ending at key))) (found ending_cmp q ps) ∙ (λ i. not (ties q (ending at key) i) && sym (has-found q ps) i)
  where
    by : (b : Bool) (o : Option Ending) → is_some (cond b None o) ≡ (not b && is_some o)
    by true o = refl
    by false o = refl

-- an ending is among those that it is one of
pub same_itself : (p : Ending) → same_ending p p ≡ true
same_itself p = sym (ties p p) ∙ ap is_eq (tied_itself ending_total p)

none : (at : ℕ) (qs : List Ending) → list_all (λ q. nat_lt at q.at) qs ≡ true → first_upto at qs ≡ None
none at [] h = refl
none at (q ∷ qs) h =
    let late : nat_le q.at at ≡ false = lt-leb q.at at (ltb-true at q.at (and_parts _ _ h).0) in
    (λ i. cond (late i) (Some q) (first_upto at qs)) ∙ none at qs (and_parts _ _ h).1

-- the first of all decides: there is none, or it is in time, or it is later and so are all
pub empty-first : (at : ℕ) (ps : List Ending) → slice_get ps 0 ≡ None → first_upto at ps ≡ None
empty-first at [] is = refl
empty-first at (p ∷ ps) is = absurd (cc is)

pub early-first : (at : ℕ) (ps : List Ending) (p : Ending) → slice_get ps 0 ≡ Some p → p.at ≤ at → first_upto at ps ≡ Some p
early-first at [] p is early = absurd (cc is)
early-first at (e ∷ es) p is early =
    let same : e ≡ p = cc is in
    (λ i. cond (ap (λ q. nat_le q.at at) same i) (Some e) (first_upto at es)) ∙ (λ i. cond (le-leb p.at at early i) (Some e) (first_upto at es)) ∙ ap Some same

pub late-first : (at : ℕ) (ps : List Ending) (p : Ending) → is_rising ending_cmp ps ≡ true → slice_get ps 0 ≡ Some p → at < p.at → first_upto at ps ≡ None
late-first at [] p rising is late = refl
late-first at (e ∷ es) p rising is late =
    let same : e ≡ p = cc is in
    let behind : at < e.at = rw same late in
    none at (e ∷ es) (and_from _ _ (lt-ltb at e.at behind) (all_weaker _ _ (λ q h. let above = number-le e.at q.at _ (le-lt _ h) in lt-ltb at q.at (omega arith)) es (and_parts _ _ rising).0))

-- where there is none up to the moment, each one is later
pub upto-none : (at : ℕ) (ps : List Ending) → first_upto at ps ≡ None → (q : Ending) → has q ps ≡ true → at < q.at
upto-none at [] first q is = absurd (cc is)
upto-none at (p ∷ ps) first q is = by (nat_le p.at at) refl first (or_cases (same_ending q p) (has q ps) is) (λ rest. upto-none at ps rest q)
  where
    by : (b : Bool) → nat_le p.at at ≡ b → cond b (Some p) (first_upto at ps) ≡ None → (same_ending q p ≡ true) ⊎ (has q ps ≡ true)
        → (first_upto at ps ≡ None → has q ps ≡ true → at < q.at) → at < q.at
    by true le first is later = absurd (cc first)
    by false late first (inl same) later = let alike = eqb-true q.at p.at (and_parts _ _ same).0 in let above = leb-false p.at at late in omega arith
    by false late first (inr rest) later = later first rest

-- the first up to the moment is one of them, and not later
pub upto-some : (at : ℕ) (ps : List Ending) (p : Ending) → first_upto at ps ≡ Some p → (has p ps ≡ true) × (p.at ≤ at)
upto-some at [] p first = absurd (cc first)
upto-some at (e ∷ es) p first = by (nat_le e.at at) refl first (upto-some at es p)
  where
    by : (b : Bool) → nat_le e.at at ≡ b → cond b (Some e) (first_upto at es) ≡ Some p → (first_upto at es ≡ Some p → (has p es ≡ true) × (p.at ≤ at))
        → (has p (e ∷ es) ≡ true) × (p.at ≤ at)
    by true le first later =
        let is : p ≡ e = cc first in
        (or_left (same_ending p e) (has p es) (ap (same_ending p) (sym is) ∙ same_itself p), leb-true p.at at (ap (λ q. nat_le q.at at) is ∙ le))
    by false late first later = (or_right (same_ending p e) (has p es) (later first).0, (later first).1)

-- none up to the moment is before the first one
pub first_is_least : FirstIsLeast
first_is_least at [] p rising first = refl
first_is_least at (e ∷ es) p rising first = by (nat_le e.at at) refl first (first_is_least at es p (and_parts _ _ rising).1)
  where
    by : (b : Bool) → nat_le e.at at ≡ b → cond b (Some e) (first_upto at es) ≡ Some p → (first_upto at es ≡ Some p → list_all (λ q. nat_lt at q.at || is_le (ending_cmp p q)) es ≡ true)
        → list_all (λ q. nat_lt at q.at || is_le (ending_cmp p q)) (e ∷ es) ≡ true
    by true le first later =
        let is : p ≡ e = cc first in
        let above : list_all (λ q. is_lt (ending_cmp p q)) es ≡ true = ap (λ x. list_all (λ q. is_lt (ending_cmp x q)) es) is ∙ (and_parts _ _ rising).0 in
        and_from _ _ (or_right (nat_lt at e.at) _ (le-eq _ (ap (ending_cmp p) (sym is) ∙ tied_itself ending_total p)))
        (all_weaker _ _ (λ q h. or_right (nat_lt at q.at) _ (le-lt _ h)) es above)
    by false late first later = and_from _ _ (or_left _ (is_le (ending_cmp p e)) (lt-ltb at e.at (leb-false e.at at late))) (later first)
