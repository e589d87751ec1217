use Rattle.std.proofs.Common.{◌≡◌, map, drop}
use Rattle.dkv_base.specs.Replies.{key_frames, is_some_changed}
use Rattle.dkv_base.specs.State.{visible}
use Rattle.dkv_hub.specs.Frames.{commit_shown}
use Rattle.dkv_hub.proofs.frames.is_some_new.Given as goal

-- some key changed of all where one did of those still to come
abbrev pub invariant-loop-key : goal.invariant-loop-key
invariant-loop-key g l = record {
  rest : is_some_changed (key_frames (visible l.at (g.T.Table.content l.table)) l.keys (map commit_shown l.last)) ≡ is_some_changed (key_frames (visible l.at (g.T.Table.content l.table)) (drop l.key-index l.keys) (map commit_shown (drop l.place l.last)));
  place : l.place ≡ l.key-index;
}
