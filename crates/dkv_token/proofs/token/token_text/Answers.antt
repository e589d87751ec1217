use Rattle.std.proofs.Common.{◌≡◌, ◌∙◌, ◌++◌, ◌∷◌, ap, length}
use Rattle.std.specs.Int.{w64, to_be_bytes}
use Rattle.hex.specs.Hex.{encode_lower, lower_digits}
use Rattle.hex.proofs.HexLemmas.{length-encode_with}
use Rattle.dkv_token.specs.declared.token.TheConstants.{DOT}
use Rattle.dkv_token.specs.Token.{prefix}
use Rattle.dkv_token.proofs.Shape.{text_is}
use Rattle.dkv_token.proofs.token.token_text.Goals as goal

pub returns : goal.returns
returns c =
    let digits : c.encode_to_slice.new.output ≡ encode_lower (to_be_bytes w64 c.args.expiry) =
    rw c.unwrap.ensures at c.encode_to_slice.ensures.written ∙ ap encode_lower c.to_be_bytes-moment.ensures in
    let signature : c.encode_to_slice-2.new.output ≡ encode_lower c.args.signature.now =
    rw c.unwrap-2.ensures at c.encode_to_slice-2.ensures.written in
    let sixteen = ap length digits ∙ length-encode_with lower_digits (to_be_bytes w64 c.args.expiry) in
    text_is c.copy_from_slice.new.self c.encode_to_slice.new.output c.encode_to_slice-2.new.output c.copy_from_slice.ensures.after sixteen
    ∙ ap (λ d. prefix ++ d ++ DOT ∷ c.encode_to_slice-2.new.output) digits
    ∙ ap (λ s. prefix ++ encode_lower (to_be_bytes w64 c.args.expiry) ++ DOT ∷ s) signature
