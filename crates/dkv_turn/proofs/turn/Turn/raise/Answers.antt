-- The step on the word now keeps the rule.
use Rattle.std.proofs.Common.{rules, arith}
use Rattle.dkv_turn.proofs.Moments.{raises}
use Rattle.dkv_turn.proofs.turn.Turn.raise.Goals as goal

pub fetch_max-requires : goal.fetch_max-requires
fetch_max-requires g c = let s = c.args.pass.now.seat in
    (search rules, search rules, raises _ _ _ _ _ _ _ s.me.0 s.me.1 _ c.requires.outside.0 c.requires.outside.1 (omega (arith, c.min-at.ensures)))
