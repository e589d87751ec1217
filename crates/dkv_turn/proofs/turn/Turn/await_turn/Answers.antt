-- A look at the word serving keeps the rule.
use Rattle.std.proofs.Common.{rules, ap, ◌∙◌}
use Rattle.dkv_turn.proofs.Tickets.{looks}
use Rattle.dkv_turn.proofs.turn.Turn.await_turn.Goals as goal

pub load-requires : goal.load-requires
load-requires g c = let w = c.requires.waits in
    (search rules, search rules, looks _ _ _ _ _ _ _ c.loop.seat.me.0 c.loop.seat.me.1 w.0 (ap (λ m. m.0.spent) c.loop.invariant.1 ∙ w.2) (ap (λ m. m.0.stage) c.loop.invariant.1 ∙ w.3))
