use Rattle.std.proofs.Common.{◌≡◌, ◌+◌, ◌-◌, ◌^◌, ◌<◌, min, length, flat_map}
use Rattle.dkv_image.specs.Image.{entry_bytes}
use Rattle.dkv_image_io.proofs.len.entries_len.Given as goal

-- with the entries still to come it is all
abbrev pub invariant-loop-entry : goal.invariant-loop-entry
invariant-loop-entry l = (min (2 ^ 64 - 1) (l.len + length (flat_map entry_bytes l.entries)) ≡ min (2 ^ 64 - 1) (l.before + length (flat_map entry_bytes l.fn.entries))) × (l.len < 2 ^ 64)

abbrev pub decreases-loop-entry : goal.decreases-loop-entry
decreases-loop-entry l = length l.entries
