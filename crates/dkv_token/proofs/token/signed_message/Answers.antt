use Rattle.std.proofs.Common.{◌≡◌, ◌∙◌, ◌++◌, ap}
use Rattle.std.specs.Int.{w64, to_be_bytes}
use Rattle.dkv_token.proofs.Shape.{message_is}
use Rattle.dkv_token.proofs.token.signed_message.Goals as goal

pub returns : goal.returns
returns c =
    let moment : c.copy_from_slice-2.new.self ≡ to_be_bytes w64 c.args.expiry = c.copy_from_slice-2.ensures.after ∙ c.to_be_bytes.ensures in
    message_is c.copy_from_slice.new.self c.copy_from_slice-2.new.self c.copy_from_slice.ensures.len
    ∙ ap (λ m. c.copy_from_slice.new.self ++ m) moment
    ∙ ap (λ i. i ++ to_be_bytes w64 c.args.expiry) c.copy_from_slice.ensures.after
