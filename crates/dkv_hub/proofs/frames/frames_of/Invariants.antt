use Rattle.std.proofs.Common.{◌≡◌, ◌++◌, map, drop}
use Rattle.dkv_base.specs.Replies.{key_frames}
use Rattle.dkv_base.specs.State.{visible}
use Rattle.dkv_hub.specs.Frames.{commit_shown}
use Rattle.dkv_hub.proofs.frames.frames_of.Given as goal

-- the frames of all keys are those made, and then those of the keys still to come
abbrev pub invariant-loop-key : goal.invariant-loop-key
invariant-loop-key g l = record {
  run : key_frames (visible l.at (g.T.Table.content l.table)) l.keys (map commit_shown l.last) ≡ l.frames ++ key_frames (visible l.at (g.T.Table.content l.table)) (drop l.key-index l.keys) (map commit_shown (drop l.place l.last));
  place : l.place ≡ l.key-index;
}
