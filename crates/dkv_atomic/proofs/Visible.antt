-- What a look-up finds among the entries that can be seen at a moment.
use Rattle.std.proofs.Common.{◌≡◌, ℕ, Bool, true, false, cond, not, List, [], ◌∷◌, Option, Some, None, refl, sym, ap, ◌∙◌}
use Rattle.std.specs.Prelude.{bytes_eq}
use Rattle.std.specs.List.{list_all}
use Rattle.std.specs.Ordering.{is_lt}
use Rattle.std.proofs.lemmas.Bool.{and_parts}
use Rattle.std.proofs.lemmas.Slice.Eq.{bytes_eq-Decides}
use Rattle.dkv_base.specs.declared.types.Entry.{Entry}
use Rattle.dkv_base.specs.State.{entry_cmp, entry_at, put, without, visible, is_visible, key_cmp, is_in_key_order}
use Rattle.dkv_base.proofs.KeyOrder.{entry_at-put, entry_at-without, is_in_key_order-put, entries_are_a_map}
use Rattle.dkv_base.proofs.Risings.{rising-filter}
use Rattle.dkv_table.proofs.Edits.{entry_at-above}
use Rattle.dkv_table.proofs.Keys.{eq-turned}

-- behind an entry no other has its key
pub behind : (q : List ℕ) (e : Entry) (es : List Entry) → list_all (λ f. is_lt (key_cmp e.key f.key)) es ≡ true → bytes_eq q e.key ≡ true → entry_at q es ≡ None
behind q e es above same = ap (λ key. entry_at key es) ((bytes_eq-Decides q e.key).0 same) ∙ entry_at-above e.key es above

-- what is found, where it can be seen
abbrev pub if_visible : ℕ → Option Entry → Option Entry
if_visible t None = None
if_visible t (Some e) = cond (is_visible t e) (Some e) None

seen_or_not : (t : ℕ) (e : Entry) (b : Bool) (old left : Option Entry) → left ≡ if_visible t old → (b ≡ true → old ≡ None) → is_visible t e ≡ false
    → left ≡ if_visible t (cond b (Some e) old)
seen_or_not t e true old left is none gone = is ∙ ap (if_visible t) (none refl) ∙ sym (ap (λ v. cond v (Some e) None) gone)
seen_or_not t e false old left is none gone = is

seen_first : (t : ℕ) (e : Entry) (b : Bool) (old left : Option Entry) → left ≡ if_visible t old → is_visible t e ≡ true
    → cond b (Some e) left ≡ if_visible t (cond b (Some e) old)
seen_first t e true old left is sees = sym (ap (λ v. cond v (Some e) None) sees)
seen_first t e false old left is sees = is

-- a look-up among what can be seen
pub entry_at-visible : (t : ℕ) (q : List ℕ) (es : List Entry) → is_in_key_order es ≡ true → entry_at q (visible t es) ≡ if_visible t (entry_at q es)
entry_at-visible t q [] order = refl
entry_at-visible t q (e ∷ es) order =
    let parts = and_parts (list_all (λ f. is_lt (key_cmp e.key f.key)) es) (is_in_key_order es) order in
    let rest = entry_at-visible t q es parts.1 in
    elim (is_visible t e) as (λ b. is_visible t e ≡ b → entry_at q (cond b (e ∷ visible t es) (visible t es)) ≡ if_visible t (cond (bytes_eq q e.key) (Some e) (entry_at q es))) [
      | true ↦ λ sees. seen_first t e (bytes_eq q e.key) (entry_at q es) (entry_at q (visible t es)) rest sees
      | false ↦ λ gone. seen_or_not t e (bytes_eq q e.key) (entry_at q es) (entry_at q (visible t es)) rest (behind q e es parts.0) gone
    ] refl

-- an entry that can't be seen, once put, is a removal
pub put_unseen : (t : ℕ) (e : Entry) (es : List Entry) → is_in_key_order es ≡ true → visible t es ≡ es → is_visible t e ≡ false → visible t (put e es) ≡ without e.key es
put_unseen t e es order all gone =
    entries_are_a_map (visible t (put e es)) (without e.key es) (rising-filter entry_cmp (is_visible t) (put e es) (is_in_key_order-put e es order)) (rising-filter entry_cmp (λ f. not (bytes_eq e.key f.key)) es order) (λ q.
    entry_at-visible t q (put e es) (is_in_key_order-put e es order)
    ∙ ap (if_visible t) (entry_at-put q e es)
    ∙ cut (bytes_eq q e.key) (entry_at q es) (sym (entry_at-visible t q es order) ∙ ap (entry_at q) all)
    ∙ sym (entry_at-without q e.key es ∙ ap (λ b. cond b None (entry_at q es)) (eq-turned e.key q)))
  where
    cut : (b : Bool) (old : Option Entry) → if_visible t old ≡ old → if_visible t (cond b (Some e) old) ≡ cond b None old
    cut true old is = ap (λ v. cond v (Some e) None) gone
    cut false old is = is

-- a look-up's answer, where nothing is found, where an entry is found that can be seen, and where it can't
module _ (t : ℕ) (q : List ℕ) (es : List Entry) (order : is_in_key_order es ≡ true) where
  pub absent : None ≡ entry_at q es → None ≡ entry_at q (visible t es)
  absent is = ap (if_visible t) is ∙ sym (entry_at-visible t q es order)

  pub still_there : (e : Entry) → Some e ≡ entry_at q es → is_visible t e ≡ true → Some e ≡ entry_at q (visible t es)
  still_there e is sees = ap (λ v. cond v (Some e) None) (sym sees) ∙ ap (if_visible t) is ∙ sym (entry_at-visible t q es order)

  pub ended : (e : Entry) → Some e ≡ entry_at q es → is_visible t e ≡ false → None ≡ entry_at q (visible t es)
  ended e is gone = ap (λ v. cond v (Some e) None) (sym gone) ∙ ap (if_visible t) is ∙ sym (entry_at-visible t q es order)
