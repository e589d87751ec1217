-- How ids compare, and moments with ids.
use Rattle.std.proofs.Common.{◌≡◌, true, false, ◌&&◌, ◌==◌, sym, ◌∙◌}
use Rattle.std.specs.Cmp.{IsTotalOrder, tied_then, unsigned_tied}
use Rattle.std.specs.Ordering.{nat_cmp, is_eq, is_lt}
use Rattle.std.proofs.lemmas.Cmp.{then_total, on_total, nat_cmp_total}
use Rattle.dkv_base.specs.State.{id_cmp, same_id}
use Rattle.dkv_base.proofs.IdOrder.{id_total, id_ties, id_above}
use Rattle.dkv_queue.specs.declared.row.Row.{Row}
use Rattle.dkv_queue.specs.declared.moment.DueAt.{DueAt}
use Rattle.dkv_queue.specs.Rows.{row_cmp, is_row_of}
use Rattle.dkv_queue.specs.Kept.{due_cmp}

-- rows and due moments are in total orders
pub row_total : IsTotalOrder row_cmp
row_total = on_total (λ (r : Row). r.message.id) id_total

pub due_total : IsTotalOrder due_cmp
due_total = then_total (on_total (λ (d : DueAt). d.due) nat_cmp_total) (on_total (λ (d : DueAt). d.id) id_total)

-- moments with ids tie where both are one
pub due_ties : (d e : DueAt) → is_eq (due_cmp d e) ≡ ((d.due == e.due) && same_id d.id e.id)
due_ties d e = sym (tied_then (nat_cmp d.due e.due) (id_cmp d.id e.id)) ∙ (λ i. unsigned_tied d.due e.due i && id_ties d.id e.id i)

-- a row above another is not of its id
pub not_above : (r s : Row) → is_lt (row_cmp r s) ≡ true → is_row_of r.message.id s ≡ false
not_above r s h = id_above r.message.id s.message.id h
