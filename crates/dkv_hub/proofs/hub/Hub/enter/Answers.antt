use Rattle.std.proofs.Common.{◌≡◌, ◌+◌, ap, subst, IsTrue, rules}
use Rattle.dkv_hub.specs.Rows.{WatchRow, is_free}
use Rattle.dkv_hub.proofs.HubRows.{free, below_next}
use Rattle.dkv_hub.proofs.hub.Hub.enter.Goals as goal

pub invariant_of-self : goal.invariant_of-self
invariant_of-self c =
    let more : c.in_ok-next.next ≡ c.self.inside.next + 1 = search rules in
    rw (c.in-Ok.ensures.items, more) (below_next c.self.inside.next c.in_ok-row.row c.self.inside.rows.items (ap (λ (r : WatchRow). r.number) c.in_ok-row.ensures) c.self.invariant)

pub returns-in-Ok-clause-number : goal.returns-in-Ok-clause-number
returns-in-Ok-clause-number c = subst (λ rows. IsTrue (is_free c.self.inside.next rows)) c.self.view_is (free c.self.inside.next c.self.inside.rows.items c.self.invariant)
