-- No key is changed twice.
use Rattle.std.proofs.Common.{◌≡◌, ℕ, Bool, true, false, cond, not, List, [], ◌∷◌, ◌++◌, map, filter, Option, Some, None, refl, ap, ◌∙◌, subst}
use Rattle.std.specs.Prelude.{bytes_eq, is_none}
use Rattle.std.specs.List.{list_all, AllByRecursion, IsDistinct}
use Rattle.std.specs.Ordering.{is_lt}
use Rattle.std.proofs.lemmas.Bool.{and_parts, and_from}
use Rattle.std.proofs.lemmas.List.{append-nil}
use Rattle.dkv_base.specs.declared.types.Entry.{Entry}
use Rattle.dkv_base.specs.State.{entry_cmp, entry_at, put, without, key_cmp, is_in_key_order}
use Rattle.dkv_base.proofs.KeyOrder.{entry_at-put, entry_at-without}
use Rattle.std.proofs.lemmas.Slice.Eq.{bytes_eq-Decides}
use Rattle.dkv_table.proofs.Keys.{eq-turned, eq-above}
use Rattle.dkv_base.proofs.Lists.{all_weaker}
use Rattle.dkv_atomic.specs.Overlays.{Changes, is_apart}
use Rattle.dkv_base.proofs.Risings.{all-put_in}

-- a put that takes the key out of the removed ones keeps the two apart
pub apart-put : (e : Entry) (c : Changes) → is_apart c.puts c.gone ≡ true → is_apart (put e c.puts) (without e.key c.gone) ≡ true
apart-put e c apart =
    all-put_in entry_cmp (λ p. is_none (entry_at p.key (without e.key c.gone))) e c.puts
    (ap is_none (entry_at-without e.key e.key c.gone ∙ ap (λ b. cond b None (entry_at e.key c.gone)) ((bytes_eq-Decides e.key e.key).1 refl)))
    (all_weaker (λ p. is_none (entry_at p.key c.gone)) (λ p. is_none (entry_at p.key (without e.key c.gone))) (λ p h. ap is_none (entry_at-without p.key e.key c.gone) ∙ fewer (bytes_eq e.key p.key) (entry_at p.key c.gone) h) c.puts apart)
  where
    fewer : (b : Bool) (old : Option Entry) → is_none old ≡ true → is_none (cond b None old) ≡ true
    fewer true old h = refl
    fewer false old h = h

-- and so does a removal that takes it out of the puts
pub apart-gone : (e : Entry) (c : Changes) → is_apart c.puts c.gone ≡ true → is_apart (without e.key c.puts) (put e c.gone) ≡ true
apart-gone e c apart = kept c.puts apart
  where
    kept : (ps : List Entry) → list_all (λ p. is_none (entry_at p.key c.gone)) ps ≡ true → list_all (λ p. is_none (entry_at p.key (put e c.gone))) (filter (λ p. not (bytes_eq e.key p.key)) ps) ≡ true
    kept [] h = refl
    kept (p ∷ ps) h =
        let parts = and_parts (is_none (entry_at p.key c.gone)) (list_all (λ f. is_none (entry_at f.key c.gone)) ps) h in
        elim (bytes_eq e.key p.key) as (λ b. bytes_eq e.key p.key ≡ b → list_all (λ f. is_none (entry_at f.key (put e c.gone))) (cond (not b) (p ∷ filter (λ f. not (bytes_eq e.key f.key)) ps) (filter (λ f. not (bytes_eq e.key f.key)) ps)) ≡ true) [
          | true ↦ λ same. kept ps parts.1
          | false ↦ λ other.
              and_from (is_none (entry_at p.key (put e c.gone))) _
              (ap is_none (entry_at-put p.key e c.gone ∙ ap (λ b. cond b (Some e) (entry_at p.key c.gone)) (eq-turned p.key e.key ∙ other)) ∙ parts.0)
              (kept ps parts.1)
        ] refl

-- what is not found has another key than each of the entries
others : (key : List ℕ) (gs : List Entry) → is_none (entry_at key gs) ≡ true → AllByRecursion (λ k. bytes_eq key k ≡ false) (map (λ g. g.key) gs)
others key [] none = tt
others key (g ∷ gs) none =
    elim (bytes_eq key g.key) as (λ b. bytes_eq key g.key ≡ b → is_none (cond b (Some g) (entry_at key gs)) ≡ true → (bytes_eq key g.key ≡ false) × AllByRecursion (λ k. bytes_eq key k ≡ false) (map (λ f. f.key) gs)) [
      | true ↦ λ same h. absurd (cc h)
      | false ↦ λ other h. (other, others key gs h)
    ] refl none

-- and so has each entry behind it
later : (key : List ℕ) (es : List Entry) (keys : List (List ℕ)) → list_all (λ f. is_lt (key_cmp key f.key)) es ≡ true → AllByRecursion (λ k. bytes_eq key k ≡ false) keys
    → AllByRecursion (λ k. bytes_eq key k ≡ false) (map (λ e. e.key) es ++ keys)
later key [] keys above rest = rest
later key (e ∷ es) keys above rest =
    let parts = and_parts (is_lt (key_cmp key e.key)) (list_all (λ f. is_lt (key_cmp key f.key)) es) above in
    (eq-above key e.key parts.0, later key es keys parts.1 rest)

distinct_before : (ps gs : List Entry) → is_in_key_order ps ≡ true → is_apart ps gs ≡ true → IsDistinct bytes_eq (map (λ g. g.key) gs) → IsDistinct bytes_eq (map (λ p. p.key) ps ++ map (λ g. g.key) gs)
unfolding IsDistinct
distinct_before [] gs order apart rest = rest
distinct_before (p ∷ ps) gs order apart rest =
    let orders = and_parts (list_all (λ f. is_lt (key_cmp p.key f.key)) ps) (is_in_key_order ps) order in
    let parts = and_parts (is_none (entry_at p.key gs)) (is_apart ps gs) apart in
    (later p.key ps (map (λ g. g.key) gs) orders.0 (others p.key gs parts.0), distinct_before ps gs orders.1 parts.1 rest)

distinct_alone : (gs : List Entry) → is_in_key_order gs ≡ true → IsDistinct bytes_eq (map (λ g. g.key) gs)
unfolding IsDistinct
distinct_alone [] order = tt
distinct_alone (g ∷ gs) order =
    let parts = and_parts (list_all (λ f. is_lt (key_cmp g.key f.key)) gs) (is_in_key_order gs) order in
    (subst (AllByRecursion (λ k. bytes_eq g.key k ≡ false)) (append-nil (map (λ f. f.key) gs)) (later g.key gs [] parts.0 tt), distinct_alone gs parts.1)

-- in order and apart, the keys are distinct
pub distinct_keys : (c : Changes) → is_in_key_order c.puts ≡ true → is_in_key_order c.gone ≡ true → is_apart c.puts c.gone ≡ true
    → IsDistinct bytes_eq (map (λ p. p.key) c.puts ++ map (λ g. g.key) c.gone)
distinct_keys c puts gone apart = distinct_before c.puts c.gone puts apart (distinct_alone c.gone gone)
