use Rattle.std.proofs.Common.{ap, ◌∙◌, ℕ, List, Option, Ok, Err}
use Rattle.std.specs.Option.{option_map_or}
use Rattle.dkv_route.specs.declared.access.Cause.TheVariants as cause
use Rattle.dkv_route.specs.Access.{exchange}
use Rattle.dkv_route.specs.Answers.{exchange_response}
use Rattle.dkv_route.proofs.bodies.exchanged.Goals as goal

pub returns-in_ok-response-in-Ok-clause-planned : goal.returns-in_ok-response-in-Ok-clause-planned
returns-in_ok-response-in-Ok-clause-planned c =
    let reply = c.in-Ok.ensures.reply in (
      exchange reply.0,
      ap (λ (o : Option ℕ). option_map_or (λ version. Ok (exchange version)) o (Err cause.BadExchange)) reply.1,
      (c.in-Ok.text, reply.2, c.in_ok-response-in-Ok.ensures ∙ ap (λ (text : List ℕ). exchange_response c.args.close text) c.as_slice.ensures),
    )
