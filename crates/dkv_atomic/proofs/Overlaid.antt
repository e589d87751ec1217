-- What stands behind changes, and what a look-up finds there.
use Rattle.std.proofs.Common.{◌≡◌, ℕ, Bool, true, false, cond, not, List, [], ◌∷◌, map, Option, Some, None, refl, sym, ap, ◌∙◌}
use Rattle.std.specs.Prelude.{bytes_eq, fold, is_some}
use Rattle.std.specs.List.{list_all}
use Rattle.std.specs.Option.{option_or}
use Rattle.std.specs.Ordering.{is_lt}
use Rattle.std.proofs.lemmas.Bool.{and_parts}
use Rattle.dkv_base.specs.declared.types.Entry.{Entry}
use Rattle.dkv_base.specs.State.{entry_cmp, entry_at, put, without, key_cmp, is_in_key_order}
use Rattle.dkv_base.proofs.KeyOrder.{entry_at-put, entry_at-without, is_in_key_order-put, entries_are_a_map}
use Rattle.dkv_base.proofs.Risings.{rising-filter}
use Rattle.dkv_table.proofs.Keys.{eq-turned}
use Rattle.dkv_atomic.specs.Overlays.{Changes, overlaid, with_put, with_gone}
use Rattle.dkv_atomic.proofs.Visible.{behind}

first_put : (b : Bool) (p : Entry) (old left : Option Entry) → (b ≡ true → old ≡ None) → option_or old (cond b (Some p) left) ≡ option_or (cond b (Some p) old) left
first_put true p old left none = ap (λ o. option_or o (Some p)) (none refl)
first_put false p old left none = refl

entry_at-puts : (q : List ℕ) (ps es : List Entry) → is_in_key_order ps ≡ true → entry_at q (fold (λ fs p. put p fs) es ps) ≡ option_or (entry_at q ps) (entry_at q es)
entry_at-puts q [] es order = refl
entry_at-puts q (p ∷ ps) es order =
    let parts = and_parts (list_all (λ f. is_lt (key_cmp p.key f.key)) ps) (is_in_key_order ps) order in
    entry_at-puts q ps (put p es) parts.1
    ∙ ap (λ o. option_or (entry_at q ps) o) (entry_at-put q p es)
    ∙ first_put (bytes_eq q p.key) p (entry_at q ps) (entry_at q es) (behind q p ps parts.0)

once_gone : (b : Bool) (g : Entry) (old left : Option Entry) → cond (is_some old) None (cond b None left) ≡ cond (is_some (cond b (Some g) old)) None left
once_gone true g None left = refl
once_gone true g (Some x) left = refl
once_gone false g old left = refl

entry_at-removed : (q : List ℕ) (gs es : List Entry) → entry_at q (fold (λ fs key. without key fs) es (map (λ e. e.key) gs)) ≡ cond (is_some (entry_at q gs)) None (entry_at q es)
entry_at-removed q [] es = refl
entry_at-removed q (g ∷ gs) es =
    entry_at-removed q gs (without g.key es)
    ∙ ap (λ o. cond (is_some (entry_at q gs)) None o) (entry_at-without q g.key es ∙ ap (λ b. cond b None (entry_at q es)) (eq-turned g.key q))
    ∙ once_gone (bytes_eq q g.key) g (entry_at q gs) (entry_at q es)

-- what was put, else nothing where the key was removed, else what was there
abbrev pub looked : List ℕ → Changes → List Entry → Option Entry
looked q c es = option_or (entry_at q c.puts) (cond (is_some (entry_at q c.gone)) None (entry_at q es))

-- a look-up behind the changes
pub entry_at-overlaid : (q : List ℕ) (c : Changes) (es : List Entry) → is_in_key_order c.puts ≡ true → entry_at q (overlaid c es) ≡ looked q c es
entry_at-overlaid q c es order =
    entry_at-puts q c.puts (fold (λ fs key. without key fs) es (map (λ e. e.key) c.gone)) order
    ∙ ap (λ o. option_or (entry_at q c.puts) o) (entry_at-removed q c.gone es)

order-puts : (ps es : List Entry) → is_in_key_order es ≡ true → is_in_key_order (fold (λ fs p. put p fs) es ps) ≡ true
order-puts [] es order = order
order-puts (p ∷ ps) es order = order-puts ps (put p es) (is_in_key_order-put p es order)

order-removed : (gs es : List Entry) → is_in_key_order es ≡ true → is_in_key_order (fold (λ fs key. without key fs) es (map (λ e. e.key) gs)) ≡ true
order-removed [] es order = order
order-removed (g ∷ gs) es order = order-removed gs (without g.key es) (rising-filter entry_cmp (λ e. not (bytes_eq g.key e.key)) es order)

-- what is in key order stays so behind the changes
pub order-overlaid : (c : Changes) (es : List Entry) → is_in_key_order es ≡ true → is_in_key_order (overlaid c es) ≡ true
order-overlaid c es order = order-puts c.puts _ (order-removed c.gone es order)

put_first : (b : Bool) (e : Entry) (p g left : Option Entry)
    → option_or (cond b (Some e) p) (cond (is_some (cond b None g)) None left) ≡ cond b (Some e) (option_or p (cond (is_some g) None left))
put_first true e p g left = refl
put_first false e p g left = refl

gone_first : (b : Bool) (e : Entry) (p g left : Option Entry)
    → option_or (cond b None p) (cond (is_some (cond b (Some e) g)) None left) ≡ cond b None (option_or p (cond (is_some g) None left))
gone_first true e p g left = refl
gone_first false e p g left = refl

-- to put behind the changes is to put among them
pub overlaid-put : (e : Entry) (c : Changes) (es : List Entry) → is_in_key_order c.puts ≡ true → is_in_key_order es ≡ true → overlaid (with_put e c) es ≡ put e (overlaid c es)
overlaid-put e c es puts order =
    entries_are_a_map (overlaid (with_put e c) es) (put e (overlaid c es)) (order-overlaid (with_put e c) es order) (is_in_key_order-put e (overlaid c es) (order-overlaid c es order)) (λ q.
    entry_at-overlaid q (with_put e c) es (is_in_key_order-put e c.puts puts)
    ∙ (λ i. option_or (entry_at-put q e c.puts i) (cond (is_some ((entry_at-without q e.key c.gone ∙ ap (λ b. cond b None (entry_at q c.gone)) (eq-turned e.key q)) i)) None (entry_at q es)))
    ∙ put_first (bytes_eq q e.key) e (entry_at q c.puts) (entry_at q c.gone) (entry_at q es)
    ∙ sym (entry_at-put q e (overlaid c es) ∙ ap (λ o. cond (bytes_eq q e.key) (Some e) o) (entry_at-overlaid q c es puts)))

-- and to remove behind them is to remove among them
pub overlaid-gone : (e : Entry) (c : Changes) (es : List Entry) → is_in_key_order c.puts ≡ true → is_in_key_order es ≡ true → overlaid (with_gone e c) es ≡ without e.key (overlaid c es)
overlaid-gone e c es puts order =
    entries_are_a_map (overlaid (with_gone e c) es) (without e.key (overlaid c es)) (order-overlaid (with_gone e c) es order) (rising-filter entry_cmp (λ f. not (bytes_eq e.key f.key)) (overlaid c es) (order-overlaid c es order)) (λ q.
    entry_at-overlaid q (with_gone e c) es (rising-filter entry_cmp (λ f. not (bytes_eq e.key f.key)) c.puts puts)
    ∙ (λ i. option_or ((entry_at-without q e.key c.puts ∙ ap (λ b. cond b None (entry_at q c.puts)) (eq-turned e.key q)) i) (cond (is_some (entry_at-put q e c.gone i)) None (entry_at q es)))
    ∙ gone_first (bytes_eq q e.key) e (entry_at q c.puts) (entry_at q c.gone) (entry_at q es)
    ∙ sym (entry_at-without q e.key (overlaid c es) ∙ ap (λ b. cond b None (entry_at q (overlaid c es))) (eq-turned e.key q) ∙ ap (λ o. cond (bytes_eq q e.key) None o) (entry_at-overlaid q c es puts)))

-- a look-up's answer, where the key was put, where it was removed, and where neither
module _ (q : List ℕ) (c : Changes) (es : List Entry) (order : is_in_key_order c.puts ≡ true) where
  pub found_put : (e : Entry) → Some e ≡ entry_at q c.puts → Some e ≡ entry_at q (overlaid c es)
  found_put e is = ap (λ o. option_or o (cond (is_some (entry_at q c.gone)) None (entry_at q es))) is ∙ sym (entry_at-overlaid q c es order)

  pub found_gone : None ≡ entry_at q c.puts → (g : Entry) → Some g ≡ entry_at q c.gone → None ≡ entry_at q (overlaid c es)
  found_gone none g is = (λ i. option_or (none i) (cond (is_some (is i)) None (entry_at q es))) ∙ sym (entry_at-overlaid q c es order)

  pub found_left : None ≡ entry_at q c.puts → None ≡ entry_at q c.gone → entry_at q es ≡ entry_at q (overlaid c es)
  found_left none left = (λ i. option_or (none i) (cond (is_some (left i)) None (entry_at q es))) ∙ sym (entry_at-overlaid q c es order)
