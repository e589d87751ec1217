use Rattle.std.proofs.Common.{◌≡◌, ap, ◌∙◌}
use Rattle.hex.specs.Hex.{encode_lower}
use Rattle.dkv_base.specs.Stamps.{stamp}
use Rattle.dkv_key.proofs.Stamping.{digits_are, stamp_bytes}
use Rattle.dkv_key.proofs.stamps.stamp_hex.Goals as goal

pub returns : goal.returns
returns c =
    let written : c.encode_to_slice.new.output ≡ encode_lower c.stamp_of.result = rw c.unwrap.ensures at c.encode_to_slice.ensures.written in
    written ∙ ap encode_lower c.stamp_of.ensures ∙ digits_are (stamp c.args.n) (stamp_bytes c.args.n)
