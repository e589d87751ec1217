use Rattle.std.proofs.Common.{rules, ◌≡◌, ◌∙◌, ap, List, ℕ, ◌++◌, length, flat_map}
use Rattle.std.specs.Int.{w32, to_le_bytes}
use Rattle.dkv_io.proofs.Seen.{on_ok}
use Rattle.dkv_image.specs.Image.{sized}
use Rattle.dkv_image_io.specs.Sizes.{numbers_bytes}
use Rattle.dkv_image_io.proofs.Sizes.{six_added}
use Rattle.dkv_image_io.proofs.spell.add_message.Goals as goal

pub returns : goal.returns
returns c =
    let m = c.args.message.now in
    let kc = to_le_bytes w32 (length m.undelivered) in
    let ks = flat_map sized m.undelivered in
    let ic = to_le_bytes w32 (length m.backoff) in
    let is = flat_map (to_le_bytes w32) m.backoff in
    let second : c.add_sized.new.out.items ≡ c.add_numbers.new.out.items ++ sized m.payload = search rules in
    on_ok c.add_intervals.result _ _ c.add_intervals.ensures (λ last.
    last
    ∙ ap (λ (l : List ℕ). l ++ ic ++ is) c.in_ok-add_keys.ensures
    ∙ ap (λ (l : List ℕ). l ++ kc ++ ks ++ ic ++ is) second
    ∙ ap (λ (l : List ℕ). l ++ sized m.payload ++ kc ++ ks ++ ic ++ is) c.in_ok-add_numbers.ensures
    ∙ six_added c.args.out.now.items (numbers_bytes m) (sized m.payload) kc ks ic is)
