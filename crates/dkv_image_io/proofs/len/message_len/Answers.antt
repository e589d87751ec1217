use Rattle.std.proofs.Common.{◌≡◌, ◌∙◌, sym, ap, ℕ, ◌+◌, ◌*◌, min, length, flat_map, arith}
use Rattle.dkv_image.specs.Image.{sized}
use Rattle.dkv_image_io.proofs.Sizes.{message_size}
use Rattle.dkv_image_io.proofs.len.message_len.Goals as goal

pub returns : goal.returns
returns c =
    let m = c.args.message.now in
    let is : c.saturating_add.result ≡ min 18446744073709551615 (36 + length m.payload + length (flat_map sized m.undelivered) + 4 * length m.backoff)
    = omega (arith, c.saturating_add-fields.ensures, c.keys_len-keys.ensures, c.saturating_mul.ensures, c.saturating_add.ensures, c.len.ensures, c.len-2.ensures) in
    is ∙ ap (λ (n : ℕ). min 18446744073709551615 n) (sym (message_size m))
