-- Frames of a watch.
use Rattle.std.proofs.Common.{◌≡◌, refl, [], ◌∷◌, Option, Some, None, Bool, true, false}
use Rattle.std.specs.Prelude.{pos}
use Rattle.dkv_base.specs.declared.types.Answer.TheVariants as answer
use Rattle.dkv_base.specs.declared.types.Ask.TheVariants as ask
use Rattle.dkv_base.specs.declared.types.Entry.{Entry}
use Rattle.dkv_base.specs.declared.types.KeyFrame.{KeyFrame}
use Rattle.dkv_base.specs.Protobuf.{varint, groups}
use Rattle.dkv_base.specs.Replies.{said}
use Rattle.worked.proofs.Words.{key_a, key_b, key_c, value, mutation, sets, mutates, by_1, told, entry, b_1}

-- what a frame says of a key
abbrev key_frame : Bool → Option Entry → KeyFrame
key_frame changed e = record { changed = changed; entry = e }

-- a frame comes where a key changed, also by its end; another caller has no watch
frames_of_a_watch : told (
    by_1 5 (ask.Watch (key_a ∷ key_b ∷ []))
    ∷ by_1 6 (ask.Write (mutates (mutation 1 key_a (value 3 (1 ∷ [])) (pos 100) ∷ sets key_b (2 ∷ []) ∷ [])))
    ∷ by_1 6 ask.Poll
    ∷ by_1 7 (ask.Write (mutates (sets key_c (3 ∷ []) ∷ [])))
    ∷ by_1 7 ask.Poll
    ∷ by_1 100 ask.Poll
    ∷ (record { who = 2; at = 100; ask = ask.Poll })
    ∷ []) ≡
    said (answer.Frame (Some (record { keys = key_frame true None ∷ key_frame true None ∷ [] })))
    ∷ said (answer.Written 1)
    ∷ said (answer.Frame (Some (record { keys = key_frame true (Some (entry key_a (1 ∷ []) 3 1 100)) ∷ key_frame true (Some b_1) ∷ [] })))
    ∷ said (answer.Written 2)
    ∷ said (answer.Frame None)
    ∷ said (answer.Frame (Some (record { keys = key_frame true None ∷ key_frame false None ∷ [] })))
    ∷ said answer.NoWatch
    ∷ []
unfolding varint groups
frames_of_a_watch = refl
