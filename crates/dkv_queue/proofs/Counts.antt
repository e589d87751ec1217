-- How many rows are out after a change.
use Rattle.std.proofs.Common.{◌≡◌, suc, ◌≤◌, Bool, true, false, cond, List, [], ◌∷◌, length, Some, None, refl, sym, ap, ◌∙◌, arith}
use Rattle.std.specs.List.{list_all}
use Rattle.std.specs.Ordering.{is_eq, is_lt, match_ordering}
use Rattle.std.specs.declared.cmp.Ordering.{Ordering}
use Rattle.std.specs.declared.cmp.Ordering.TheVariants.{Less, Equal, Greater}
use Rattle.std.proofs.lemmas.Bool.{and_parts}
use Rattle.dkv_base.specs.declared.types.MsgId.{MsgId}
use Rattle.dkv_base.specs.Ordered.{put_in, left_out, is_rising}
use Rattle.dkv_queue.specs.declared.row.Row.{Row}
use Rattle.dkv_queue.specs.Rows.{row_cmp, is_row_of, row_at, out_rows}
use Rattle.dkv_queue.specs.Kept.{row_for}
use Rattle.dkv_base.proofs.IdOrder.{id_ties}
use Rattle.dkv_queue.proofs.Changes.{left_out-first, left_out-behind}

-- the order of two rows doesn't count
swapped : (r s : Row) (rows : List Row) → length (out_rows (r ∷ s ∷ rows)) ≡ length (out_rows (s ∷ r ∷ rows))
swapped r s rows = by r.out s.out
  where
    by : (a b : Bool) → length (cond a (r ∷ cond b (s ∷ out_rows rows) (out_rows rows)) (cond b (s ∷ out_rows rows) (out_rows rows)))
        ≡ length (cond b (s ∷ cond a (r ∷ out_rows rows) (out_rows rows)) (cond a (r ∷ out_rows rows) (out_rows rows)))
    by true true = refl
    by true false = refl
    by false true = refl
    by false false = refl

one_more : (r : Row) (xs ys : List Row) → length (out_rows xs) ≡ length (out_rows ys) → length (out_rows (r ∷ xs)) ≡ length (out_rows (r ∷ ys))
one_more r xs ys same =
    elim r.out as (λ b. length (cond b (r ∷ out_rows xs) (out_rows xs)) ≡ length (cond b (r ∷ out_rows ys) (out_rows ys))) [
      | true ↦ ap suc same
      | false ↦ same
    ]

-- a row that is put in counts as one that is put first
pub count-put_in : (r : Row) (rows : List Row) → row_at r.message.id rows ≡ None → length (out_rows (put_in row_cmp r rows)) ≡ length (out_rows (r ∷ rows))
count-put_in r [] absent = refl
count-put_in r (s ∷ rows) absent = by (row_cmp r s) refl (count-put_in r rows)
  where
    apart : (b : Bool) → is_row_of r.message.id s ≡ b → cond b (Some s) (row_at r.message.id rows) ≡ None → (b ≡ false) × (row_at r.message.id rows ≡ None)
    apart true of none = absurd (cc none)
    apart false of none = (refl, none)

    by : (o : Ordering) → row_cmp r s ≡ o → (row_at r.message.id rows ≡ None → length (out_rows (put_in row_cmp r rows)) ≡ length (out_rows (r ∷ rows)))
        → length (out_rows (match_ordering o (r ∷ s ∷ rows) (r ∷ rows) (s ∷ put_in row_cmp r rows))) ≡ length (out_rows (r ∷ s ∷ rows))
    by Less is rest = refl
    by Equal is rest = absurd (let same : true ≡ false = sym (ap is_eq is) ∙ id_ties r.message.id s.message.id ∙ (apart (is_row_of r.message.id s) refl absent).0 in cc same)
    by Greater is rest = one_more s (put_in row_cmp r rows) (r ∷ rows) (rest (apart (is_row_of r.message.id s) refl absent).1) ∙ swapped s r rows

-- without a row there is that row less
pub count-left_out : (id : MsgId) (rows : List Row) (r : Row) → is_rising row_cmp rows ≡ true → row_at id rows ≡ Some r
    → length (out_rows rows) ≡ length (out_rows (r ∷ left_out row_cmp (row_for id) rows))
count-left_out id [] r rising is = absurd (cc is)
count-left_out id (s ∷ rows) r rising is = by (is_row_of id s) refl is (count-left_out id rows r (and_parts (list_all (λ t. is_lt (row_cmp s t)) rows) (is_rising row_cmp rows) rising).1)
  where
    above : list_all (λ t. is_lt (row_cmp s t)) rows ≡ true
    above = (and_parts (list_all (λ t. is_lt (row_cmp s t)) rows) (is_rising row_cmp rows) rising).0

    by : (b : Bool) → is_row_of id s ≡ b → cond b (Some s) (row_at id rows) ≡ Some r
        → (row_at id rows ≡ Some r → length (out_rows rows) ≡ length (out_rows (r ∷ left_out row_cmp (row_for id) rows)))
        → length (out_rows (s ∷ rows)) ≡ length (out_rows (r ∷ left_out row_cmp (row_for id) (s ∷ rows)))
    by true of here rest =
        let same : s ≡ r = cc here in
        ap (λ t. length (out_rows (t ∷ rows))) same ∙ ap (λ ts. length (out_rows (r ∷ ts))) (sym (left_out-first id s rows of above))
    by false not_of there rest =
        one_more s rows (r ∷ left_out row_cmp (row_for id) rows) (rest there) ∙ swapped s r (left_out row_cmp (row_for id) rows)
        ∙ ap (λ ts. length (out_rows (r ∷ ts))) (sym (left_out-behind id s rows not_of))

-- no more are out than there are
pub out_within : (rows : List Row) → length (out_rows rows) ≤ length rows
out_within [] = omega arith
out_within (r ∷ rows) =
    let rest = out_within rows in
    elim r.out as (λ b. length (cond b (r ∷ out_rows rows) (out_rows rows)) ≤ suc (length rows)) [
      | true ↦ omega arith
      | false ↦ omega arith
    ]
