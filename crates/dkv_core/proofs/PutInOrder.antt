-- Entries in order, put one after the other, are those entries.
use Rattle.std.proofs.Common.{◌≡◌, true, List, [], ◌∷◌, ◌++◌, refl, sym, ap, ◌∙◌, append_assoc}
use Rattle.std.specs.List.{list_all}
use Rattle.std.specs.Ordering.{is_lt}
use Rattle.std.proofs.lemmas.List.{append-nil}
use Rattle.std.proofs.lemmas.Bool.{and_parts, and_from}
use Rattle.dkv_base.specs.declared.types.Entry.{Entry}
use Rattle.dkv_base.specs.State.{key_cmp, is_in_key_order}
use Rattle.dkv_base.proofs.Risings.{put_in-last}
use Rattle.dkv_table.proofs.Keys.{entry_total}
use Rattle.dkv_core.specs.Cores.{put_all}

below_last : (es : List Entry) (e : Entry) (rest : List Entry) → is_in_key_order (es ++ e ∷ rest) ≡ true → list_all (λ f. is_lt (key_cmp f.key e.key)) es ≡ true
below_last [] e rest order = refl
below_last (f ∷ fs) e rest order =
    let parts = and_parts (list_all (λ g. is_lt (key_cmp f.key g.key)) (fs ++ e ∷ rest)) _ order in
    and_from (is_lt (key_cmp f.key e.key)) _ (among fs parts.0) (below_last fs e rest parts.1)
  where
    among : (gs : List Entry) → list_all (λ g. is_lt (key_cmp f.key g.key)) (gs ++ e ∷ rest) ≡ true → is_lt (key_cmp f.key e.key) ≡ true
    among [] h = (and_parts (is_lt (key_cmp f.key e.key)) _ h).0
    among (g ∷ gs) h = among gs (and_parts (is_lt (key_cmp f.key g.key)) _ h).1

put_on : (es rest : List Entry) → is_in_key_order (es ++ rest) ≡ true → put_all rest es ≡ es ++ rest
put_on es [] order = sym (append-nil es)
put_on es (e ∷ rest) order =
    ap (λ fs. put_all rest fs) (put_in-last entry_total e es (below_last es e rest order))
    ∙ put_on (es ++ e ∷ []) rest (ap is_in_key_order (append_assoc es (e ∷ []) rest) ∙ order)
    ∙ append_assoc es (e ∷ []) rest

pub put_in_order : (es : List Entry) → is_in_key_order es ≡ true → put_all es [] ≡ es
put_in_order es order = put_on [] es order
