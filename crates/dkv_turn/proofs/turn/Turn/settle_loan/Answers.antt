-- The swap of the loan keeps the rule.
use Rattle.std.proofs.Common.{rules, sym, ⊎_elim}
use Rattle.dkv_turn.proofs.Loans.{changes}
use Rattle.dkv_turn.proofs.turn.Turn.settle_loan.Goals as goal

pub swap-requires : goal.swap-requires
swap-requires g c = let s = c.args.seat.now in let i = c.requires.inside in (
  search rules,
  search rules,
  ⊎_elim
      (λ same. absurd (c.if-now-before.true same))
      (λ mine. changes _ _ _ _ _ _ _ s.me.0 s.me.1 i.0 _ _ _ _ i.1 i.2 (sym mine))
      c.requires.may,
)
