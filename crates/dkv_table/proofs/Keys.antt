-- How two keys compare, and entries by their keys.
use Rattle.std.proofs.Common.{◌≡◌, ℕ, true, false, not, List, refl, sym, ap, ◌∙◌}
use Rattle.std.specs.Prelude.{bytes_eq, find, filter}
use Rattle.std.specs.Ordering.{is_lt, is_le, is_eq, ordering_reverse}
use Rattle.std.specs.declared.cmp.Ordering.{Ordering}
use Rattle.std.specs.declared.cmp.Ordering.TheVariants.{Less, Equal, Greater}
use Rattle.std.specs.Cmp.{IsTotalOrder}
use Rattle.std.specs.Cmp.Lexicographic.{nat_list_cmp_total}
use Rattle.std.proofs.Math.Path.{fun_ext}
use Rattle.std.proofs.lemmas.Cmp.{tied_itself}
use Rattle.std.proofs.lemmas.Map.Text.{is_eq-slice_cmp}
use Rattle.std.proofs.lemmas.Slice.Eq.{bytes_eq-Decides}
use Rattle.dkv_base.specs.declared.types.Entry.{Entry}
use Rattle.dkv_base.specs.Ordered.{found, left_out}
use Rattle.dkv_base.specs.State.{key_cmp, entry_cmp, entry_at, without}
use Rattle.dkv_base.proofs.Ranks as ranks
use Rattle.dkv_table.specs.Places.{marker}

-- keys that rank the same are one key
pub same_key : (a b : List ℕ) → key_cmp a b ≡ Equal → a ≡ b
same_key a b h = (bytes_eq-Decides a b).0 (sym (is_eq-slice_cmp a b) ∙ ap is_eq h)

-- and one key ranks the same
pub itself : (a b : List ℕ) → a ≡ b → key_cmp a b ≡ Equal
itself a b same = ap (λ c. key_cmp a c) (sym same) ∙ tied_itself nat_list_cmp_total a

-- the two may change places where bytes are compared
pub eq-turned : (a b : List ℕ) → bytes_eq a b ≡ bytes_eq b a
eq-turned a b = sym (is_eq-slice_cmp a b) ∙ ranks.eq-turned nat_list_cmp_total a b ∙ is_eq-slice_cmp b a

-- a key below another has other bytes
pub eq-above : (a b : List ℕ) → is_lt (key_cmp a b) ≡ true → bytes_eq a b ≡ false
eq-above a b h = sym (is_eq-slice_cmp a b) ∙ ranks.not_eq-above _ h

le_turned : (o : Ordering) → is_le (ordering_reverse o) ≡ not (is_lt o)
le_turned Less = refl
le_turned Equal = refl
le_turned Greater = refl

-- at or above is not below
pub le-turned : (a b : List ℕ) → is_le (key_cmp b a) ≡ not (is_lt (key_cmp a b))
le-turned a b = ap is_le (nat_list_cmp_total.antisymm b a) ∙ le_turned _

-- what is below is at or below
pub le-lt : (o : Ordering) → is_lt o ≡ true → is_le o ≡ true
le-lt o h = ap is_le (ranks.lt_is o h)

-- entries are in a total order by their keys
pub entry_total : IsTotalOrder entry_cmp
entry_total = record {
  antisymm = λ e f. nat_list_cmp_total.antisymm e.key f.key;
  trans = λ e f g. nat_list_cmp_total.trans e.key f.key g.key;
  congr = λ e f g. nat_list_cmp_total.congr e.key f.key g.key;
}

-- to look a key up is to look up what ranks as its marker does
pub entry_at-found : (key : List ℕ) (es : List Entry) → entry_at key es ≡ found entry_cmp (marker key) es
entry_at-found key es = ap (λ t. find t es) (fun_ext (λ e. sym (is_eq-slice_cmp key e.key)))

-- and to take it away is to leave that out
pub without-left_out : (key : List ℕ) (es : List Entry) → without key es ≡ left_out entry_cmp (marker key) es
without-left_out key es = ap (λ t. filter t es) (fun_ext (λ e. ap not (sym (is_eq-slice_cmp key e.key))))
