-- Ids of messages are in a total order, in which only one id ties with itself.
use Rattle.std.proofs.Common.{◌≡◌, true, false, ◌&&◌, sym, ◌∙◌}
use Rattle.std.specs.Cmp.{IsTotalOrder, tied_then, unsigned_tied}
use Rattle.std.specs.Ordering.{nat_cmp, is_eq, is_lt}
use Rattle.std.proofs.lemmas.Cmp.{then_total, on_total, nat_cmp_total}
use Rattle.dkv_base.specs.declared.types.MsgId.{MsgId}
use Rattle.dkv_base.specs.State.{id_cmp, same_id}
use Rattle.dkv_base.proofs.Ranks.{not_eq-above}

-- ids are in a total order
pub id_total : IsTotalOrder id_cmp
id_total = then_total (on_total (λ (a : MsgId). a.commit) nat_cmp_total) (on_total (λ (a : MsgId). a.index) nat_cmp_total)

-- ids tie where they are one
pub id_ties : (a b : MsgId) → is_eq (id_cmp a b) ≡ same_id a b
id_ties a b = sym (tied_then (nat_cmp a.commit b.commit) (nat_cmp a.index b.index)) ∙ (λ i. unsigned_tied a.commit b.commit i && unsigned_tied a.index b.index i)

-- an id above another is another
pub id_above : (a b : MsgId) → is_lt (id_cmp a b) ≡ true → same_id a b ≡ false
id_above a b h = sym (id_ties a b) ∙ not_eq-above _ h
