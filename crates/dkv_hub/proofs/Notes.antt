-- What is noted of a frame.
use Rattle.std.proofs.Common.{◌≡◌, ℕ, ◌≤◌, Bool, true, false, cond, not, ◌==◌, nat_le, nat_eq, List, [], ◌∷◌, map, find, Option, Some, None, option_map, refl, sym, ap, ◌∙◌, arith}
use Rattle.std.specs.List.{list_all}
use Rattle.std.specs.Bool.{then_some}
use Rattle.std.specs.Option.{option_eq}
use Rattle.std.proofs.lemmas.Bool.{and_parts, leb-true, ne_eqb, eq-eqb}
use Rattle.dkv_base.specs.declared.types.Entry.{Entry}
use Rattle.dkv_base.specs.Replies.{shown, commit_at, key_frames, is_some_changed}
use Rattle.dkv_base.specs.State.{seen, entry_at, is_visible}
use Rattle.dkv_base.proofs.Lists.{all-filter}
use Rattle.dkv_hub.specs.Frames.{commit_shown, shown_of, shows, are_committed}
use Rattle.dkv_hub.specs.Laws.{ShownIsTold, NothingNew}

-- what holds of all holds of what is found
all-found : {X : Type 0} (q p : X → Bool) (xs : List X) (x : X) → list_all q xs ≡ true → find p xs ≡ Some x → q x ≡ true
all-found q p [] x all is = absurd (cc is)
all-found q p (y ∷ xs) x all is =
    let parts = and_parts (q y) (list_all q xs) all in
    by (p y) is parts.0 (all-found q p xs x parts.1)
  where
    by : (b : Bool) → cond b (Some y) (find p xs) ≡ Some x → q y ≡ true → (find p xs ≡ Some x → q x ≡ true) → q x ≡ true
    by true same here rest = let alike : y ≡ x = cc same in sym (ap q alike) ∙ here
    by false same here rest = rest same

-- what is noted of a key tells the commit of its entry
told_of : (o : Option Entry) → ((e : Entry) → o ≡ Some e → nat_le 1 e.commit ≡ true) → commit_shown (shown_of o) ≡ option_map (λ e. e.commit) o
told_of None later = refl
told_of (Some e) later =
    let above : 1 ≤ e.commit = leb-true 1 e.commit (later e refl) in
    let other : (e.commit == 0) ≡ false = ne_eqb e.commit 0 (λ same. omega arith) in
    ap (λ b. then_some (not b) e.commit) other

told_each : (es : List Entry) (keys : List (List ℕ)) → are_committed es ≡ true → map commit_shown (shows es keys) ≡ map (commit_at es) keys
told_each es [] later = refl
told_each es (key ∷ keys) later =
    let first = told_of (entry_at key es) (λ e is. all-found (λ (f : Entry). nat_le 1 f.commit) _ es e later is) in
    λ i. first i ∷ told_each es keys later i

pub told : ShownIsTold
told s t keys later = told_each (seen s t) keys (all-filter (λ (e : Entry). nat_le 1 e.commit) (is_visible t) s.entries later)

same_commit : (o : Option ℕ) → option_eq nat_eq o o ≡ true
same_commit None = refl
same_commit (Some n) = eq-eqb n n refl

-- no key differs from what it is
none_changed : (es : List Entry) (keys : List (List ℕ)) → is_some_changed (key_frames es keys (map (commit_at es) keys)) ≡ false
none_changed es [] = refl
none_changed es (key ∷ keys) =
    ap (λ b. cond (not b) true (is_some_changed (key_frames es keys (map (commit_at es) keys)))) (same_commit (commit_at es key)) ∙ none_changed es keys

pub nothing_new : NothingNew
nothing_new s t keys = ap (λ b. cond b (Some (record { keys = key_frames (seen s t) keys (shown s t keys) })) None) (none_changed (seen s t) keys)
