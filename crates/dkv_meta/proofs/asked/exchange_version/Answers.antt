use Rattle.std.proofs.Common.{◌≡◌, Some, None, option_and_then, sym, ap, ◌∙◌, true≢false}
use Rattle.serde_json.specs.View.{view}
use Rattle.dkv_meta.specs.Asked.{json_of, best_version, supported_versions}
use Rattle.dkv_meta.proofs.Bodies.{read_is, none_is}
use Rattle.dkv_meta.proofs.asked.exchange_version.Goals as goal

pub returns-in-Ok : goal.returns-in-Ok
returns-in-Ok c =
    let is : json_of c.args.body.now ≡ Some (view c.in-Ok.value) = read_is c.args.body.now (view c.in-Ok.value) c.in-Ok.ensures.ok.0 c.in-Ok.ensures.ok.1 in
    c.supported_version.ensures ∙ sym (ap (λ o. option_and_then best_version (option_and_then supported_versions o)) is)

pub returns-else-is_memory : goal.returns-else-is_memory
returns-else-is_memory c =
    let is : json_of c.args.body.now ≡ None = none_is c.args.body.now (c.in-Err.ensures.err (λ m. true≢false (sym (c.is_memory.ensures.1 m) ∙ c.if-is_memory.false))) in
    sym (ap (λ o. option_and_then best_version (option_and_then supported_versions o)) is)
