-- Which frames are answered yet.
--     is_built k      all but a watch, a poll and a checkpoint
use Rattle.std.specs.Prelude.{Bool, true, false}
use Rattle.dkv_pipe.specs.declared.frame_kind.FrameKind.{FrameKind}
use Rattle.dkv_pipe.specs.declared.frame_kind.FrameKind.TheVariants as kind

-- the pipe answers frames of this kind
abbrev pub is_built : FrameKind → Bool
is_built kind.Read = true
is_built kind.Write = true
is_built kind.Watch = false
is_built kind.Poll = false
is_built kind.Take = true
is_built kind.Acknowledge = true
is_built kind.Fail = true
is_built kind.Checkpoint = false
is_built kind.Term = true
