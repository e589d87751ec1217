use Rattle.std.proofs.Common.{◌≡◌, ◌++◌, take, flat_map}
use Rattle.std.specs.Int.{w32, to_le_bytes}
use Rattle.dkv_image_io.proofs.spell.add_intervals.Given as goal

-- the intervals so far were added
abbrev pub invariant-loop-interval : goal.invariant-loop-interval
invariant-loop-interval l = l.out.items ≡ l.initial.out.items ++ flat_map (to_le_bytes w32) (take l.interval-index l.items)
