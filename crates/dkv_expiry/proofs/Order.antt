-- How two endings compare.
use Rattle.std.proofs.Common.{◌≡◌, true, ◌&&◌, sym, ap, ◌∙◌}
use Rattle.std.specs.Cmp.{IsTotalOrder, ranks, tied_then, unsigned_tied}
use Rattle.std.specs.Ordering.{nat_cmp, is_le, is_eq}
use Rattle.std.specs.declared.cmp.Ordering.{Ordering}
use Rattle.std.specs.declared.cmp.Ordering.TheVariants.{Equal}
use Rattle.std.proofs.lemmas.Cmp.{then_total, on_total, nat_cmp_total, nat_list_cmp_total}
use Rattle.std.proofs.lemmas.Map.Text.{is_eq-slice_cmp}
use Rattle.dkv_base.specs.State.{key_cmp}
use Rattle.dkv_expiry.specs.declared.ending.Ending.{Ending}
use Rattle.dkv_expiry.specs.Endings.{ending_cmp, same_ending}

-- endings are in a total order
pub ending_total : IsTotalOrder ending_cmp
ending_total = then_total (on_total (λ (e : Ending). e.at) nat_cmp_total) (on_total (λ (e : Ending). e.key) nat_list_cmp_total)

-- they tie where they are one
pub ties : (p q : Ending) → is_eq (ending_cmp p q) ≡ same_ending p q
ties p q = sym (tied_then (nat_cmp p.at q.at) (key_cmp p.key q.key)) ∙ (λ i. unsigned_tied p.at q.at i && is_eq-slice_cmp p.key q.key i)

-- what ranks below or as another does not rank above it
pub le-eq : (r : Ordering) → r ≡ Equal → is_le r ≡ true
le-eq r e = ap is_le e
