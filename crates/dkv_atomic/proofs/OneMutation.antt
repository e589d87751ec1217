-- What one mutation leaves behind changes.
use Rattle.std.proofs.Common.{◌≡◌, ℕ, Bool, true, false, cond, not, List, Option, Some, refl, sym, ap, ◌∙◌, arith}
use Rattle.std.specs.Prelude.{bytes_eq, option_map}
use Rattle.std.specs.List.{list_all}
use Rattle.dkv_base.specs.declared.types.Entry.{Entry}
use Rattle.dkv_base.specs.declared.types.Mutation.{Mutation}
use Rattle.dkv_base.specs.declared.types.Value.{Value}
use Rattle.dkv_base.specs.Limits.{is_kind}
use Rattle.dkv_base.specs.declared.kinds.TheConstants.{DELETE}
use Rattle.dkv_base.specs.State.{entry_cmp, entry_at, put, without, visible, is_visible, is_in_key_order}
use Rattle.dkv_base.specs.Writes.{mutated, stored, new_value}
use Rattle.dkv_base.proofs.Risings.{rising-filter, all-put_in}
use Rattle.dkv_table.proofs.Lists.{filter-all}
use Rattle.dkv_atomic.specs.Overlays.{Changes, overlaid, with_put, with_gone, IsStep}
use Rattle.dkv_atomic.proofs.Overlaid.{overlaid-put, overlaid-gone, order-overlaid}
use Rattle.dkv_atomic.proofs.Visible.{put_unseen}
use Rattle.dkv_base.proofs.Lists.{all-filter, all_of_filter}
use Rattle.dkv_atomic.proofs.AllEntries.{all-puts, all-removed, length-put, length-fewer}

-- what is behind the changes can be seen
all_seen : (t : ℕ) (c : Changes) (es : List Entry) → list_all (is_visible t) c.puts ≡ true → list_all (is_visible t) (overlaid c (visible t es)) ≡ true
all_seen t c es puts = all-puts (is_visible t) c.puts _ puts (all-removed (is_visible t) c.gone (visible t es) (all_of_filter (is_visible t) es))

-- what a mutation does, by its kind and its new value
acts_as : (m : Mutation) (t n : ℕ) (left : List Entry) (kind : Bool) (value : Option Value) → is_kind DELETE m ≡ kind → new_value m (entry_at m.key left) ≡ value
    → mutated m n t left ≡ option_map (visible t) (cond kind (Some (without m.key left)) (option_map (λ v. put (stored m n v) left) value))
acts_as m t n left kind value is new = λ i. option_map (visible t) (cond (is i) (Some (without m.key left)) (option_map (λ v. put (stored m n v) left) (new i)))

module _ (m : Mutation) (t n : ℕ) (c : Changes) (es : List Entry) (rises : is_in_key_order es ≡ true) (puts_rise : is_in_key_order c.puts ≡ true) (seen : list_all (is_visible t) c.puts ≡ true) where
  -- a removal behind the changes
  removes : (key : List ℕ) (e : Entry) → e.key ≡ key → without key (overlaid c (visible t es)) ≡ overlaid (with_gone e c) (visible t es)
  removes key e is = ap (λ k. without k (overlaid c (visible t es))) (sym is) ∙ sym (overlaid-gone e c (visible t es) puts_rise (rising-filter entry_cmp (is_visible t) es rises))

  gone_step : (e : Entry) → mutated m n t (overlaid c (visible t es)) ≡ Some (overlaid (with_gone e c) (visible t es)) → IsStep m t n (visible t es) c (with_gone e c) true
  gone_step e acts = record {
    acts = acts;
    few = omega (arith, length-fewer (λ f. not (bytes_eq e.key f.key)) c.puts);
    seen = all-filter (is_visible t) (λ f. not (bytes_eq e.key f.key)) c.puts seen;
  }

  pub deletes : is_kind DELETE m ≡ true → (e : Entry) → e.key ≡ m.key → IsStep m t n (visible t es) c (with_gone e c) true
  deletes kind e key =
      let left = overlaid c (visible t es) in
      gone_step e (acts_as m t n left true (new_value m (entry_at m.key left)) kind refl
      ∙ ap Some (filter-all (is_visible t) (without m.key left) (all-filter (is_visible t) (λ f. not (bytes_eq m.key f.key)) left (all_seen t c es seen)) ∙ removes m.key e key))

  pub stores : is_kind DELETE m ≡ false → (v : Value) → new_value m (entry_at m.key (overlaid c (visible t es))) ≡ Some v → (e : Entry) → e ≡ stored m n v → is_visible t e ≡ true
      → IsStep m t n (visible t es) c (with_put e c) true
  stores kind v new e is sees = record {
    acts =
        let left = overlaid c (visible t es) in
        acts_as m t n left false (Some v) kind new
        ∙ ap Some (ap (λ f. visible t (put f left)) (sym is) ∙ filter-all (is_visible t) (put e left) (all-put_in entry_cmp (is_visible t) e left sees (all_seen t c es seen))
        ∙ sym (overlaid-put e c (visible t es) puts_rise (rising-filter entry_cmp (is_visible t) es rises)));
    few = length-put e c.puts;
    seen = all-put_in entry_cmp (is_visible t) e c.puts sees seen;
  }

  pub ends : is_kind DELETE m ≡ false → (v : Value) → new_value m (entry_at m.key (overlaid c (visible t es))) ≡ Some v → (e : Entry) → e ≡ stored m n v → is_visible t e ≡ false → (g : Entry) → g.key ≡ e.key
      → IsStep m t n (visible t es) c (with_gone g c) true
  ends kind v new e is unseen g key =
      let left = overlaid c (visible t es) in
      gone_step g (acts_as m t n left false (Some v) kind new
      ∙ ap Some (ap (λ f. visible t (put f left)) (sym is)
      ∙ put_unseen t e left (order-overlaid c (visible t es) (rising-filter entry_cmp (is_visible t) es rises)) (filter-all (is_visible t) left (all_seen t c es seen)) unseen
      ∙ removes e.key g key))
