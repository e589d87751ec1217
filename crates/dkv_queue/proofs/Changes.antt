-- A row that is taken out, and may be put back changed, leaves the list of rows with that row changed.
use Rattle.std.proofs.Common.{◌≡◌, ℕ, Bool, true, false, cond, not, List, [], ◌∷◌, filter_map, Option, Some, None, refl, sym, ap, ◌∙◌}
use Rattle.std.specs.List.{list_all, cons_option}
use Rattle.std.specs.Ordering.{is_lt, match_ordering}
use Rattle.std.proofs.lemmas.Bool.{and_parts}
use Rattle.std.proofs.lemmas.List.Elements.{filter_agree}
use Rattle.dkv_base.specs.declared.types.MsgId.{MsgId}
use Rattle.dkv_base.specs.State.{id_cmp, same_id}
use Rattle.dkv_base.specs.Ordered.{put_in, left_out, is_rising}
use Rattle.dkv_base.proofs.Ranks.{greater}
use Rattle.dkv_base.proofs.RankedLists.{put_in-above, left_out-above}
use Rattle.dkv_queue.specs.declared.row.Row.{Row}
use Rattle.dkv_queue.specs.Rows.{row_cmp, is_row_of, row_at, handed_out, rows_without, failed, after_failure}
use Rattle.dkv_queue.specs.Kept.{row_for}
use Rattle.dkv_base.proofs.NamedMessages.{same_id-true}
use Rattle.dkv_base.proofs.IdOrder.{id_ties}
use Rattle.dkv_queue.proofs.Ids.{row_total, not_above}
use Rattle.dkv_queue.proofs.Looks.{row_at-of}

-- what is left where a row is taken out and another is put in, or none is
abbrev pub placed : Option Row → List Row → List Row
placed None rows = rows
placed (Some r) rows = put_in row_cmp r rows

-- the rows with those of the id changed
abbrev pub revised : (Row → Option Row) → MsgId → List Row → List Row
revised h id rows = filter_map (λ s. cond (is_row_of id s) (h s) (Some s)) rows

-- rows above one of the id are left as they are
revised-above : (h : Row → Option Row) (id : MsgId) (r : Row) (rows : List Row) → is_row_of id r ≡ true → list_all (λ s. is_lt (row_cmp r s)) rows ≡ true → revised h id rows ≡ rows
revised-above h id r [] of above = refl
revised-above h id r (s ∷ rows) of above =
    let not_of : is_row_of id s ≡ false = ap (λ x. same_id x s.message.id) (same_id-true id r.message.id of) ∙ not_above r s (and_parts _ _ above).0 in
    λ i. cons_option (cond (not_of i) (h s) (Some s)) (revised-above h id r rows of (and_parts _ _ above).1 i)

-- what all rows pass, the row of the id does
pub all_row_at : (q : Row → Bool) (id : MsgId) (rows : List Row) (r : Row) → list_all q rows ≡ true → row_at id rows ≡ Some r → q r ≡ true
all_row_at q id [] r all is = absurd (cc is)
all_row_at q id (s ∷ rows) r all is = by (is_row_of id s) is (all_row_at q id rows r (and_parts _ _ all).1)
  where
    by : (b : Bool) → cond b (Some s) (row_at id rows) ≡ Some r → (row_at id rows ≡ Some r → q r ≡ true) → q r ≡ true
    by true is rest = let same : r ≡ s = cc is in ap q same ∙ (and_parts _ _ all).0
    by false is rest = rest is

-- what is put in the place of the first row stands first
placed-first : (id : MsgId) (s : Row) (rows : List Row) (o : Option Row) → is_row_of id s ≡ true → list_all (λ r. is_lt (row_cmp s r)) rows ≡ true → ((r : Row) → o ≡ Some r → r.message.id ≡ id)
    → placed o rows ≡ cons_option o rows
placed-first id s rows None of above own = refl
placed-first id s rows (Some r) of above own =
    put_in-above row_total r rows (ap (λ x. list_all (λ y. is_lt (id_cmp x y.message.id)) rows) (own r refl ∙ same_id-true id s.message.id of) ∙ above)

-- what is put behind a row stands behind it
placed-behind : (s : Row) (rows : List Row) (o : Option Row) → ((r : Row) → o ≡ Some r → is_lt (row_cmp s r) ≡ true) → placed o (s ∷ rows) ≡ s ∷ placed o rows
placed-behind s rows None above = refl
placed-behind s rows (Some r) above = λ i. match_ordering (greater row_total s r (above r refl) i) (r ∷ s ∷ rows) (r ∷ rows) (s ∷ put_in row_cmp r rows)

pub left_out-first : (id : MsgId) (s : Row) (rows : List Row) → is_row_of id s ≡ true → list_all (λ r. is_lt (row_cmp s r)) rows ≡ true → left_out row_cmp (row_for id) (s ∷ rows) ≡ rows
left_out-first id s rows of above =
    (λ i. cond (not ((id_ties id s.message.id ∙ of) i)) (s ∷ left_out row_cmp (row_for id) rows) (left_out row_cmp (row_for id) rows))
    ∙ left_out-above row_total (row_for id) rows (ap (λ x. list_all (λ y. is_lt (id_cmp x y.message.id)) rows) (same_id-true id s.message.id of) ∙ above)

pub left_out-behind : (id : MsgId) (s : Row) (rows : List Row) → is_row_of id s ≡ false → left_out row_cmp (row_for id) (s ∷ rows) ≡ s ∷ left_out row_cmp (row_for id) rows
left_out-behind id s rows not_of i = cond (not ((id_ties id s.message.id ∙ not_of) i)) (s ∷ left_out row_cmp (row_for id) rows) (left_out row_cmp (row_for id) rows)

pub revised-row : (h : Row → Option Row) (id : MsgId) (rows : List Row) (r : Row) (o : Option Row) → is_rising row_cmp rows ≡ true → row_at id rows ≡ Some r → h r ≡ o
    → ((t : Row) → o ≡ Some t → t.message.id ≡ id) → placed o (left_out row_cmp (row_for id) rows) ≡ revised h id rows
revised-row h id [] r o rising is gives own = absurd (cc is)
revised-row h id (s ∷ rows) r o rising is gives own = by (is_row_of id s) refl is (revised-row h id rows r o (and_parts _ _ rising).1)
  where
    above : list_all (λ t. is_lt (row_cmp s t)) rows ≡ true
    above = (and_parts (list_all (λ t. is_lt (row_cmp s t)) rows) (is_rising row_cmp rows) rising).0

    by : (b : Bool) → is_row_of id s ≡ b → cond b (Some s) (row_at id rows) ≡ Some r
        → (row_at id rows ≡ Some r → h r ≡ o → ((t : Row) → o ≡ Some t → t.message.id ≡ id) → placed o (left_out row_cmp (row_for id) rows) ≡ revised h id rows)
        → placed o (left_out row_cmp (row_for id) (s ∷ rows)) ≡ revised h id (s ∷ rows)
    by true of here rest =
        let same : s ≡ r = cc here in
        ap (placed o) (left_out-first id s rows of above) ∙ placed-first id s rows o of above own
        ∙ sym ((λ i. cons_option (cond (of i) (h s) (Some s)) (revised-above h id s rows of above i)) ∙ ap (λ x. cons_option x rows) (ap h same ∙ gives))
    by false not_of there rest =
        let below : is_lt (row_cmp s r) ≡ true = all_row_at (λ t. is_lt (row_cmp s t)) id rows r above there in
        let own_id : r.message.id ≡ id = row_at-of id rows r there in
        ap (placed o) (left_out-behind id s rows not_of)
        ∙ placed-behind s (left_out row_cmp (row_for id) rows) o (λ t found. ap (λ x. is_lt (id_cmp s.message.id x)) (own t found ∙ sym own_id) ∙ below)
        ∙ ap (λ xs. s ∷ xs) (rest there gives own)
        ∙ sym (λ i. cons_option (cond (not_of i) (h s) (Some s)) (revised h id rows))

pub left_out-settled : (id : MsgId) (rows : List Row) → left_out row_cmp (row_for id) rows ≡ rows_without id rows
left_out-settled id rows = filter_agree _ _ (λ r. ap not (id_ties id r.message.id)) rows

-- the row is out
abbrev pub as_out : Row → Row
as_out r = record r { out = true }

handed_out-revised : (id : MsgId) (rows : List Row) → revised (λ r. Some (as_out r)) id rows ≡ handed_out id rows
handed_out-revised id [] = refl
handed_out-revised id (r ∷ rows) =
    elim (is_row_of id r) as (λ b. cons_option (cond b (Some (as_out r)) (Some r)) (revised (λ s. Some (as_out s)) id rows) ≡ (cond b (as_out r) r) ∷ handed_out id rows) [
      | true ↦ ap (λ rest. as_out r ∷ rest) (handed_out-revised id rows)
      | false ↦ ap (λ rest. r ∷ rest) (handed_out-revised id rows)
    ]

-- the three changes, as they are made
pub handed_out-made : (id : MsgId) (rows : List Row) (r : Row) → is_rising row_cmp rows ≡ true → row_at id rows ≡ Some r → put_in row_cmp (as_out r) (left_out row_cmp (row_for id) rows) ≡ handed_out id rows
handed_out-made id rows r rising is =
    revised-row (λ s. Some (as_out s)) id rows r (Some (as_out r)) rising is refl (λ t same. ap (λ x. x.message.id) (own t same) ∙ row_at-of id rows r is) ∙ handed_out-revised id rows
  where
    own : (t : Row) → ◌≡◌ {A = Option Row} (Some (as_out r)) (Some t) → t ≡ as_out r
    own t same = cc same

pub failed-gone : (id : MsgId) (at : ℕ) (rows : List Row) (r : Row) → is_rising row_cmp rows ≡ true → row_at id rows ≡ Some r → after_failure at r ≡ None
    → left_out row_cmp (row_for id) rows ≡ failed id at rows
failed-gone id at rows r rising is last = revised-row (after_failure at) id rows r None rising is last (λ t same. absurd (cc same))

pub failed-again : (id : MsgId) (at : ℕ) (rows : List Row) (r s : Row) → is_rising row_cmp rows ≡ true → row_at id rows ≡ Some r → after_failure at r ≡ Some s → s.message.id ≡ id
    → put_in row_cmp s (left_out row_cmp (row_for id) rows) ≡ failed id at rows
failed-again id at rows r s rising is again own = revised-row (after_failure at) id rows r (Some s) rising is again (λ t same. ap (λ x. x.message.id) (told t same) ∙ own)
  where
    told : (t : Row) → ◌≡◌ {A = Option Row} (Some s) (Some t) → t ≡ s
    told t same = cc same
