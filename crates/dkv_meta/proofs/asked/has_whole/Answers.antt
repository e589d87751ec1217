use Rattle.std.proofs.Common.{rules, tests, ◌∙◌}
use Rattle.std.proofs.lemmas.Iterator.{YieldsList-from_slice}
use Rattle.std.proofs.lemmas.Iterator.Search.{any_from_yields_List}
use Rattle.serde_json.specs.View.{view}
use Rattle.dkv_meta.specs.Asked.{is_whole}
use Rattle.dkv_meta.proofs.Bodies.{some_is_whole}
use Rattle.dkv_meta.proofs.asked.has_whole.Goals as goal

pub returns : goal.returns
returns c =
    any_from_yields_List (λ v. is_whole c.args.number (view v)) _ _ _ c.any.ensures.ran (YieldsList-from_slice c.args.values.now cc) (λ x b q k. search (rules, tests))
    ∙ some_is_whole c.args.number c.args.values.now
