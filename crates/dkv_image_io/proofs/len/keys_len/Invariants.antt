use Rattle.std.proofs.Common.{◌≡◌, ◌+◌, ◌-◌, ◌^◌, min, length, flat_map, take}
use Rattle.dkv_image.specs.Image.{sized}
use Rattle.dkv_image_io.proofs.len.keys_len.Given as goal

-- the keys so far were counted
abbrev pub invariant-loop-key : goal.invariant-loop-key
invariant-loop-key l = l.len ≡ min (2 ^ 64 - 1) (l.before + length (flat_map sized (take l.key-index l.key-items)))
