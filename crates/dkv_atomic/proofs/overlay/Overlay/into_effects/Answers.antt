use Rattle.std.proofs.Common.{ℕ, List, ◌++◌, map, sym, ap, ◌∙◌, subst}
use Rattle.std.specs.Prelude.{bytes_eq}
use Rattle.std.specs.List.{IsDistinct}
use Rattle.dkv_base.specs.declared.types.Entry.{Entry}
use Rattle.dkv_atomic.specs.Overlays.{Changes}
use Rattle.dkv_atomic.proofs.Apart.{distinct_keys}
use Rattle.dkv_atomic.proofs.overlay.Overlay.into_effects.Goals as goal

pub returns-clause-distinct : goal.returns-clause-distinct
returns-clause-distinct c =
    let before : Changes = record { puts = c.self.inside.puts.entries.items; gone = c.self.inside.gone.entries.items } in
    let keys : List Entry → List (List ℕ) = λ es. map (λ (e : Entry). e.key) es in
    let removed = c.in_ok-keys_of.ensures ∙ ap keys c.into_entries-gone.ensures in
    subst (λ (ks : List (List ℕ)). IsDistinct bytes_eq ks) (sym (λ i. keys (c.into_entries-puts.ensures i) ++ removed i)) (distinct_keys before c.self.inside.puts.ordered c.self.inside.gone.ordered c.self.invariant)
