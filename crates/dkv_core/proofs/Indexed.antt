-- The index has exactly the ends of the entries, after each change too.
use Rattle.std.proofs.Common.{◌≡◌, ℕ, ◌<◌, ◌≤◌, Bool, true, false, cond, not, ◌&&◌, ◌||◌, List, [], ◌∷◌, length, Option, Some, None, refl, sym, ap, ◌∙◌, arith}
use Rattle.std.specs.Prelude.{bytes_eq, nat_lt, ◌==◌, option_map}
use Rattle.std.specs.Option.{option_map_or}
use Rattle.std.proofs.lemmas.Bool.{and_parts, eqb-true, eq-eqb, lt-ltb, ltb-true, false≢true}
use Rattle.dkv_base.specs.declared.types.Entry.{Entry}
use Rattle.dkv_base.specs.State.{entry_cmp, entry_at, put, without, visible, is_visible, is_in_key_order}
use Rattle.dkv_base.proofs.KeyOrder.{entry_at-put, entry_at-without, entries_are_a_map}
use Rattle.dkv_base.proofs.Risings.{rising-filter}
use Rattle.std.proofs.lemmas.Slice.Eq.{bytes_eq-Decides}
use Rattle.dkv_table.proofs.Keys.{eq-turned}
use Rattle.dkv_atomic.proofs.Visible.{if_visible, entry_at-visible}
use Rattle.dkv_expiry.specs.declared.ending.Ending.{Ending}
use Rattle.dkv_expiry.specs.Endings.{has, same_ending, ending, noted, dropped, first_upto}
use Rattle.dkv_expiry.proofs.Membership.{has-noted, has-dropped, upto-none, upto-some}
use Rattle.dkv_core.specs.Entries.{IsIndexed, forgot, noted_of, note_of}

-- the entry ends so
abbrev pub ends_so : Entry → Ending → Bool
ends_so e q = not (q.at == 0) && (e.expire == q.at)

-- ---- what is found under a key has it

pub found_key : (key : List ℕ) (es : List Entry) (e : Entry) → entry_at key es ≡ Some e → e.key ≡ key
found_key key [] e is = absurd (cc is)
found_key key (f ∷ fs) e is =
    elim (bytes_eq key f.key) as (λ b. bytes_eq key f.key ≡ b → cond b (Some f) (entry_at key fs) ≡ Some e → e.key ≡ key) [
      | true ↦ λ same here. let f_is : f ≡ e = cc here in ap (λ (x : Entry). x.key) (sym f_is) ∙ sym ((bytes_eq-Decides key f.key).0 same)
      | false ↦ λ other later. found_key key fs e later
    ] refl is

-- ---- one end more, one end less

-- the same key and the same end
same_end : (q : Ending) (e : Entry) → (e.expire == 0) ≡ false → same_ending q (ending e.expire e.key) ≡ (bytes_eq q.key e.key && ends_so e q)
same_end q e some =
    elim (q.at == e.expire) as (λ b. (q.at == e.expire) ≡ b → (b && bytes_eq q.key e.key) ≡ (bytes_eq q.key e.key && (not (q.at == 0) && (e.expire == q.at)))) [
      | true ↦ λ is.
          let at_is : q.at ≡ e.expire = eqb-true q.at e.expire is in
          sym ((λ i. bytes_eq q.key e.key && (not ((ap (λ n. n == 0) at_is ∙ some) i) && eq-eqb e.expire q.at (sym at_is) i)) ∙ and_true (bytes_eq q.key e.key))
      | false ↦ λ other. sym (ap (λ b. bytes_eq q.key e.key && b) (and_false (not (q.at == 0)) (e.expire == q.at) (turned other)) ∙ and_off (bytes_eq q.key e.key))
    ] refl
  where
    and_true : (b : Bool) → (b && true) ≡ b
    and_true true = refl
    and_true false = refl

    and_off : (b : Bool) → (b && false) ≡ false
    and_off true = refl
    and_off false = refl

    and_false : (a b : Bool) → b ≡ false → (a && b) ≡ false
    and_false true b h = h
    and_false false b h = refl

    turned : (q.at == e.expire) ≡ false → (e.expire == q.at) ≡ false
    turned other =
        elim (e.expire == q.at) as (λ b. (e.expire == q.at) ≡ b → b ≡ false) [
          | true ↦ λ h. absurd (false≢true (sym other ∙ eq-eqb q.at e.expire (sym (eqb-true e.expire q.at h))))
          | false ↦ λ h. refl
        ] refl

-- an entry without an end has none
no_end : (q : Ending) (e : Entry) → (e.expire == 0) ≡ true → ends_so e q ≡ false
no_end q e none =
    elim (q.at == 0) as (λ b. (q.at == 0) ≡ b → (not b && (e.expire == q.at)) ≡ false) [
      | true ↦ λ zero. refl
      | false ↦ λ some. by (e.expire == q.at) (λ h. false≢true (sym some ∙ ap (λ n. n == 0) (sym (eqb-true e.expire q.at h)) ∙ none))
    ] refl
  where
    by : (b : Bool) → (b ≡ true → ⊥) → b ≡ false
    by true h = absurd (h refl)
    by false h = refl

-- what the option's entry has under its own key
abbrev own_end : Option Entry → Ending → Bool
own_end None q = false
own_end (Some e) q = bytes_eq q.key e.key && ends_so e q

has-forgot : (q : Ending) (o : Option Entry) (ps : List Ending) → has q (forgot o ps) ≡ (not (own_end o q) && has q ps)
has-forgot q None ps = refl
has-forgot q (Some e) ps =
    elim (e.expire == 0) as (λ b. (e.expire == 0) ≡ b → has q (cond b ps (dropped e.expire e.key ps)) ≡ (not (bytes_eq q.key e.key && ends_so e q) && has q ps)) [
      | true ↦ λ none. sym (ap (λ b. not (bytes_eq q.key e.key && b) && has q ps) (no_end q e none) ∙ ap (λ b. not b && has q ps) (and_off (bytes_eq q.key e.key)))
      | false ↦ λ some. has-dropped q e.expire e.key ps ∙ ap (λ b. not b && has q ps) (same_end q e some)
    ] refl
  where
    and_off : (b : Bool) → (b && false) ≡ false
    and_off true = refl
    and_off false = refl

has-noted_of : (q : Ending) (e : Entry) (ps : List Ending) → has q (noted_of e ps) ≡ (bytes_eq q.key e.key && ends_so e q || has q ps)
has-noted_of q e ps =
    elim (e.expire == 0) as (λ b. (e.expire == 0) ≡ b → has q (cond b ps (noted e.expire e.key ps)) ≡ (bytes_eq q.key e.key && ends_so e q || has q ps)) [
      | true ↦ λ none. sym (ap (λ b. bytes_eq q.key e.key && b || has q ps) (no_end q e none) ∙ ap (λ b. b || has q ps) (and_off (bytes_eq q.key e.key)))
      | false ↦ λ some. has-noted q e.expire e.key ps ∙ ap (λ b. b || has q ps) (same_end q e some)
    ] refl
  where
    and_off : (b : Bool) → (b && false) ≡ false
    and_off true = refl
    and_off false = refl

-- ---- the end of what is found

abbrev end_of : Option Entry → Ending → Bool
end_of o q = not (q.at == 0) && option_map_or (λ e. e.expire == q.at) o false

-- what was under the key is forgotten, and nothing else is
left : (q : Ending) (key : List ℕ) (es : List Entry) (old : Option Entry) → entry_at key es ≡ old
    → (not (own_end old q) && end_of (entry_at q.key es) q) ≡ (not (bytes_eq q.key key) && end_of (entry_at q.key es) q)
left q key es old is =
    elim (bytes_eq q.key key) as (λ b. bytes_eq q.key key ≡ b → (not (own_end old q) && end_of (entry_at q.key es) q) ≡ (not b && end_of (entry_at q.key es) q)) [
      | true ↦ λ same. here old is ((bytes_eq-Decides q.key key).0 same)
      | false ↦ λ other. there old is other
    ] refl
  where
    cut : (a b : Bool) → b ≡ (a && b) → (not (a && b) && b) ≡ false
    cut true true h = refl
    cut true false h = refl
    cut false true h = absurd (false≢true (sym h))
    cut false false h = refl

    here : (old : Option Entry) → entry_at key es ≡ old → q.key ≡ key → (not (own_end old q) && end_of (entry_at q.key es) q) ≡ false
    here None is same = ap (λ o. end_of o q) (ap (λ k. entry_at k es) same ∙ is) ∙ off (not (q.at == 0))
      where
        off : (b : Bool) → (b && false) ≡ false
        off true = refl
        off false = refl
    here (Some e) is same =
        let found : entry_at q.key es ≡ Some e = ap (λ k. entry_at k es) same ∙ is in
        let one : bytes_eq q.key e.key ≡ true = (bytes_eq-Decides q.key e.key).1 (sym (found_key q.key es e found)) in
        ap (λ o. not (bytes_eq q.key e.key && ends_so e q) && end_of o q) found
        ∙ cut (bytes_eq q.key e.key) (ends_so e q) (sym (ap (λ b. b && ends_so e q) one))

    there : (old : Option Entry) → entry_at key es ≡ old → bytes_eq q.key key ≡ false → (not (own_end old q) && end_of (entry_at q.key es) q) ≡ end_of (entry_at q.key es) q
    there None is other = refl
    there (Some e) is other = ap (λ b. not (b && ends_so e q) && end_of (entry_at q.key es) q) (ap (λ k. bytes_eq q.key k) (found_key key es e is) ∙ other)

removed_end : (b : Bool) (old : Option Entry) (q : Ending) → (not b && end_of old q) ≡ end_of (cond b None old) q
removed_end true old q = sym (off (not (q.at == 0)))
  where
    off : (b : Bool) → (b && false) ≡ false
    off true = refl
    off false = refl
removed_end false old q = refl

-- a removal
pub indexed-without : (key : List ℕ) (es : List Entry) (ps : List Ending) → IsIndexed es ps → IsIndexed (without key es) (forgot (entry_at key es) ps)
indexed-without key es ps is q =
    has-forgot q (entry_at key es) ps
    ∙ ap (λ b. not (own_end (entry_at key es) q) && b) (is q)
    ∙ left q key es (entry_at key es) refl
    ∙ removed_end (bytes_eq q.key key) (entry_at q.key es) q
    ∙ sym (ap (λ o. end_of o q) (entry_at-without q.key key es ∙ ap (λ b. cond b None (entry_at q.key es)) (eq-turned key q.key)))

put_end : (b : Bool) (e : Entry) (old : Option Entry) (q : Ending) → (b && ends_so e q || (not b && end_of old q)) ≡ end_of (cond b (Some e) old) q
put_end true e old q = or_off (ends_so e q)
  where
    or_off : (b : Bool) → (b || false) ≡ b
    or_off true = refl
    or_off false = refl
put_end false e old q = refl

-- a put
pub indexed-put : (e : Entry) (es : List Entry) (ps : List Ending) → IsIndexed es ps → IsIndexed (put e es) (noted_of e (forgot (entry_at e.key es) ps))
indexed-put e es ps is q =
    has-noted_of q e (forgot (entry_at e.key es) ps)
    ∙ ap (λ b. bytes_eq q.key e.key && ends_so e q || b)
    (has-forgot q (entry_at e.key es) ps ∙ ap (λ b. not (own_end (entry_at e.key es) q) && b) (is q) ∙ left q e.key es (entry_at e.key es) refl)
    ∙ put_end (bytes_eq q.key e.key) e (entry_at q.key es) q
    ∙ sym (ap (λ o. end_of o q) (entry_at-put q.key e es))

-- ---- what has ended

-- what the index names is there, and has ended
pub named : (es : List Entry) (ps : List Ending) (p : Ending) → IsIndexed es ps → has p ps ≡ true → (e : Entry) × (entry_at p.key es ≡ Some e) × (e.expire ≡ p.at) × ((p.at == 0) ≡ false)
named es ps p is there = by (entry_at p.key es) refl (sym (is p) ∙ there)
  where
    off : (b : Bool) → not b ≡ true → b ≡ false
    off true h = absurd (false≢true h)
    off false h = refl

    by : (o : Option Entry) → entry_at p.key es ≡ o → end_of o p ≡ true → (e : Entry) × (entry_at p.key es ≡ Some e) × (e.expire ≡ p.at) × ((p.at == 0) ≡ false)
    by None found h = absurd (false≢true (and_parts (not (p.at == 0)) false h).1)
    by (Some e) found h =
        let parts = and_parts (not (p.at == 0)) (e.expire == p.at) h in
        (e, found, eqb-true e.expire p.at parts.1, off (p.at == 0) parts.0)

unseen : (at : ℕ) (e : Entry) → (e.expire == 0) ≡ false → e.expire ≤ at → is_visible at e ≡ false
unseen at e some early = (λ i. some i || nat_lt at e.expire) ∙ not_below
  where
    not_below : nat_lt at e.expire ≡ false
    not_below = elim (nat_lt at e.expire) as (λ b. nat_lt at e.expire ≡ b → b ≡ false) [
      | true ↦ λ h. absurd (omega (arith, early, ltb-true at e.expire h))
      | false ↦ λ h. refl
    ] refl

-- what has ended can be taken out
pub ended_gone : (at : ℕ) (key : List ℕ) (es : List Entry) (e : Entry) → is_in_key_order es ≡ true → entry_at key es ≡ Some e → is_visible at e ≡ false → visible at (without key es) ≡ visible at es
ended_gone at key es e order found gone =
    entries_are_a_map (visible at (without key es)) (visible at es) (rising-filter entry_cmp (is_visible at) (without key es) fewer) (rising-filter entry_cmp (is_visible at) es order) (λ q.
    entry_at-visible at q (without key es) fewer
    ∙ ap (if_visible at) (entry_at-without q key es)
    ∙ cut q (bytes_eq key q) refl
    ∙ sym (entry_at-visible at q es order))
  where
    fewer : is_in_key_order (without key es) ≡ true
    fewer = rising-filter entry_cmp (λ f. not (bytes_eq key f.key)) es order

    cut : (q : List ℕ) (b : Bool) → bytes_eq key q ≡ b → if_visible at (cond b None (entry_at q es)) ≡ if_visible at (entry_at q es)
    cut q true same = sym (ap (if_visible at) (ap (λ k. entry_at k es) (sym ((bytes_eq-Decides key q).0 same)) ∙ found) ∙ ap (λ v. cond v (Some e) None) gone)
    cut q false other = refl

-- where no end is at the moment or before it, all can be seen
pub none_ended : (at : ℕ) (es : List Entry) (ps : List Ending) → is_in_key_order es ≡ true → IsIndexed es ps → ((q : Ending) → has q ps ≡ true → at < q.at) → visible at es ≡ es
none_ended at es ps order is late =
    entries_are_a_map (visible at es) es (rising-filter entry_cmp (is_visible at) es order) order (λ q. entry_at-visible at q es order ∙ all q (entry_at q es) refl)
  where
    seen : (q : List ℕ) (e : Entry) → entry_at q es ≡ Some e → is_visible at e ≡ true
    seen q e found =
        elim (e.expire == 0) as (λ b. (e.expire == 0) ≡ b → (b || nat_lt at e.expire) ≡ true) [
          | true ↦ λ none. refl
          | false ↦ λ some. lt-ltb at e.expire (late (ending e.expire q) (is (ending e.expire q)
              ∙ (λ i. not (some i) && option_map_or (λ f. f.expire == e.expire) (found i) false) ∙ eq-eqb e.expire e.expire refl))
        ] refl

    all : (q : List ℕ) (o : Option Entry) → entry_at q es ≡ o → if_visible at o ≡ o
    all q None found = refl
    all q (Some e) found = ap (λ v. cond v (Some e) None) (seen q e found)

-- what is found is one entry less
pub one_less : (key : List ℕ) (es : List Entry) (e : Entry) → entry_at key es ≡ Some e → length (without key es) < length es
one_less key [] e is = absurd (cc is)
one_less key (f ∷ fs) e is =
    elim (bytes_eq key f.key) as (λ b. cond b (Some f) (entry_at key fs) ≡ Some e → length (cond (not b) (f ∷ without key fs) (without key fs)) < length (f ∷ fs)) [
      | true ↦ λ here. omega (arith, shorter fs)
      | false ↦ λ later. omega (arith, one_less key fs e later)
    ] is
  where
    shorter : (gs : List Entry) → length (without key gs) ≤ length gs
    shorter [] = omega arith
    shorter (g ∷ gs) = elim (bytes_eq key g.key) as (λ b. length (cond (not b) (g ∷ without key gs) (without key gs)) ≤ length (g ∷ gs)) [
      | true ↦ omega (arith, shorter gs)
      | false ↦ omega (arith, shorter gs)
    ]

-- ---- what is due

due_named : (at : ℕ) (key : List ℕ) (ps : List Ending) → Some key ≡ option_map (λ p. p.key) (first_upto at ps) → (p : Ending) × (first_upto at ps ≡ Some p) × (p.key ≡ key)
due_named at key ps is = by (first_upto at ps) refl is
  where
    by : (o : Option Ending) → first_upto at ps ≡ o → Some key ≡ option_map (λ p. p.key) o → (p : Ending) × (first_upto at ps ≡ Some p) × (p.key ≡ key)
    by None found h = absurd (cc h)
    by (Some p) found h = let same : key ≡ p.key = cc h in (p, found, sym same)

none_named : (at : ℕ) (ps : List Ending) → None ≡ option_map (λ p. p.key) (first_upto at ps) → first_upto at ps ≡ None
none_named at ps is = by (first_upto at ps) is
  where
    by : (o : Option Ending) → None ≡ option_map (λ p. p.key) o → o ≡ None
    by None h = refl
    by (Some p) h = absurd (cc h)

-- the entry under the key that the index names has ended
pub due_ended : (at : ℕ) (key : List ℕ) (es : List Entry) (ps : List Ending) → IsIndexed es ps → Some key ≡ option_map (λ p. p.key) (first_upto at ps)
    → (e : Entry) × (entry_at key es ≡ Some e) × (is_visible at e ≡ false)
due_ended at key es ps is due =
    let first = due_named at key ps due in
    let p = first.0 in
    let upto = upto-some at ps p first.1 in
    let entry = named es ps p is upto.0 in
    (entry.0, ap (λ k. entry_at k es) (sym first.2) ∙ entry.1, unseen at entry.0 (ap (λ n. n == 0) entry.2 ∙ entry.3) (omega (arith, entry.2, upto.1)))

-- where it names none, all can be seen
pub none_due : (at : ℕ) (es : List Entry) (ps : List Ending) → is_in_key_order es ≡ true → IsIndexed es ps → None ≡ option_map (λ p. p.key) (first_upto at ps) → visible at es ≡ es
none_due at es ps order is due = none_ended at es ps order is (upto-none at ps (none_named at ps due))

-- ---- what is noted

pub note_some : (e : Entry) (key : List ℕ) (ps : List Ending) → Some key ≡ note_of e → noted e.expire key ps ≡ noted_of e ps
note_some e key ps is =
    elim (e.expire == 0) as (λ b. Some key ≡ cond b None (Some e.key) → noted e.expire key ps ≡ cond b ps (noted e.expire e.key ps)) [
      | true ↦ λ h. absurd (cc h)
      | false ↦ λ h. let same : key ≡ e.key = cc h in ap (λ k. noted e.expire k ps) same
    ] is

pub note_none : (e : Entry) (ps : List Ending) → None ≡ note_of e → ps ≡ noted_of e ps
note_none e ps is =
    elim (e.expire == 0) as (λ b. None ≡ cond b None (Some e.key) → ps ≡ cond b ps (noted e.expire e.key ps)) [
      | true ↦ λ h. refl
      | false ↦ λ h. absurd (cc h)
    ] is
