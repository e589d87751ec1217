-- What is noted of a frame, as the definitions tell it.
--     ShownIsTold      what is noted of each key tells the commits that a frame showed
--     NothingNew      a frame beside what is shown already is none
use Rattle.std.specs.Prelude.{ℕ, ◌≡◌, IsTrue, List, map, Some, None}
use Rattle.dkv_base.specs.Replies.{frame, shown}
use Rattle.dkv_base.specs.State.{State, seen}
use Rattle.dkv_hub.specs.Frames.{commit_shown, shows, are_committed}

-- where no entry is of commit 0
abbrev pub ShownIsTold : Type 0
ShownIsTold =
    (s : State) (t : ℕ) (keys : List (List ℕ)) → IsTrue (are_committed s.entries)
    → map commit_shown (shows (seen s t) keys) ≡ shown s t keys

-- whatever the state, the moment and the keys
abbrev pub NothingNew : Type 0
NothingNew = (s : State) (t : ℕ) (keys : List (List ℕ)) → frame s t keys (Some (shown s t keys)) ≡ None
