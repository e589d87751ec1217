use Rattle.std.proofs.Common.{◌≡◌, map, take}
use Rattle.dkv_msgs.specs.Outputs.{key_frame_output}
use Rattle.dkv_route.proofs.frames.frame_output.Given as goal

abbrev pub invariant-loop-key : goal.invariant-loop-key
invariant-loop-key l = l.keys ≡ map key_frame_output (take l.key-index l.frame.keys)
