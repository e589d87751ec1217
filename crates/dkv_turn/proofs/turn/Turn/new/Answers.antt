-- A new turn meets the rule.
use Rattle.std.proofs.Common.{ap, ◌∙◌, ◌∷◌, ◌++◌, [], Some, sym, map}
use mathlib.Core.Option.{some}
use Rattle.dkv_turn.proofs.Splits.{opens}
use Rattle.dkv_turn.proofs.turn.Turn.new.Goals as goal

pub new-requires : goal.new-requires
new-requires g c = opens _ _ _ _ _ c.args.value _ c.requires.empty c.requires.none_lent (ap g.V.Chronicle.grounds (sym c.of-was.ensures))
    (ap (map some) (c.push_reserved.ensures.items ∙ ap (λ l. l ++ Some c.args.value ∷ []) c.in-Ok.ensures.items))
