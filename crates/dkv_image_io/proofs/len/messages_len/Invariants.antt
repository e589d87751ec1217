use Rattle.std.proofs.Common.{◌≡◌, ◌+◌, ◌-◌, ◌^◌, ◌<◌, min, length, flat_map}
use Rattle.dkv_image.specs.Image.{message_bytes}
use Rattle.dkv_image_io.proofs.len.messages_len.Given as goal

-- with the messages still to come it is all
abbrev pub invariant-loop-message : goal.invariant-loop-message
invariant-loop-message l = (min (2 ^ 64 - 1) (l.len + length (flat_map message_bytes l.messages)) ≡ min (2 ^ 64 - 1) (l.before + length (flat_map message_bytes l.fn.messages))) × (l.len < 2 ^ 64)

abbrev pub decreases-loop-message : goal.decreases-loop-message
decreases-loop-message l = length l.messages
