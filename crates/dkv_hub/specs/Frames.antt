-- What a frame of a watch shows, as a watcher notes it.
--     are_committed es      whether no entry is of commit 0
--     IsFrame es t keys shown f      whether it is the frame of these entries beside what was shown
--     IsToldStill es t keys shown f      whether, where there is no frame, what was shown is what these entries show
--     shown_of o, shows es keys      what a frame shows of a key's entry, or of its absence; of each key
--     commit_shown s, last_told o      the commit that was shown, or none; of all keys, if a frame was shown
--     is_changed o was, is_new o was      whether a key's entry, or its absence, differs from what was shown; or nothing was
use Rattle.std.specs.Prelude.{ℕ, ◌≡◌, Bool, true, not, nat_le, nat_eq, ◌==◌, List, map, Option, Some, None, option_map}
use Rattle.std.specs.Bool.{then_some}
use Rattle.std.specs.List.{list_all}
use Rattle.std.specs.Option.{option_eq, option_map_or}
use Rattle.dkv_base.specs.declared.types.Entry.{Entry}
use Rattle.dkv_base.specs.declared.types.Frame.{Frame}
use Rattle.dkv_base.specs.Replies.{frame, shown}
use Rattle.dkv_base.specs.State.{State, entry_at}
use Rattle.dkv_hub.specs.declared.shown.Shown.{Shown}

-- what a frame shows of a key: of its entry, or that it is absent
abbrev pub shown_of : Option Entry → Shown
shown_of (Some e) = record { commit = e.commit; expire = e.expire }
shown_of None = record { commit = 0; expire = 0 }

-- what a frame shows of each key
abbrev pub shows : List Entry → List (List ℕ) → List Shown
shows es keys = map (λ key. shown_of (entry_at key es)) keys

-- the commit that was shown; 0 is none
abbrev pub commit_shown : Shown → Option ℕ
commit_shown s = then_some (not (s.commit == 0)) s.commit

-- what the last frame showed, if there was one
abbrev pub last_told : Option (List Shown) → Option (List (Option ℕ))
last_told last = option_map (map commit_shown) last

-- each entry is of a commit; these count from 1
abbrev pub are_committed : List Entry → Bool
are_committed es = list_all (λ e. nat_le 1 e.commit) es

-- the frame, at the moment, of each database with these entries
abbrev pub IsFrame : List Entry → ℕ → List (List ℕ) → Option (List Shown) → Option Frame → Type 0
IsFrame es t keys last f = (s : State) → s.entries ≡ es → f ≡ frame s t keys (last_told last)

-- where there is no frame, what was shown is what a frame would show, in each database with these entries
abbrev pub IsToldStill : List Entry → ℕ → List (List ℕ) → Option (List Shown) → Option Frame → Type 0
IsToldStill es t keys last f = (s : State) → s.entries ≡ es → f ≡ None → last_told last ≡ Some (shown s t keys)

-- the entry is of another commit than the one that was shown, or one is absent where the other isn't
abbrev pub is_changed : Option Entry → Shown → Bool
is_changed found was = not (option_eq nat_eq (option_map (λ e. e.commit) found) (commit_shown was))

-- it differs from what was shown, or nothing was
abbrev pub is_new : Option Entry → Option Shown → Bool
is_new found was = option_map_or (is_changed found) was true
