use Rattle.std.proofs.Common.{◌≡◌, ◌++◌, take, flat_map}
use Rattle.dkv_image.specs.Image.{sized}
use Rattle.dkv_image_io.proofs.spell.add_keys.Given as goal

-- the keys so far were added
abbrev pub invariant-loop-key : goal.invariant-loop-key
invariant-loop-key l = l.out.items ≡ l.initial.out.items ++ flat_map sized (take l.key-index l.items)
