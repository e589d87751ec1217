-- What a frame says of one key after another.
use Rattle.std.proofs.Common.{◌≡◌, ℕ, zero, suc, ◌+◌, ◌<◌, Bool, true, List, [], ◌∷◌, length, get_or, map, drop, Option, None, if◌then◌else◌, ◌++◌, append_assoc, add-one, refl, sym, ap, ◌∙◌, arith}
use Rattle.std.specs.Prelude.{slice_get}
use Rattle.std.proofs.Math.Seq.{drop-nil}
use Rattle.dkv_base.specs.declared.types.Entry.{Entry}
use Rattle.dkv_base.specs.declared.types.KeyFrame.{KeyFrame}
use Rattle.dkv_base.specs.Replies.{key_frames, is_some_changed}
use Rattle.dkv_base.specs.State.{entry_at}
use Rattle.dkv_hub.specs.declared.shown.Shown.{Shown}
use Rattle.dkv_hub.specs.Frames.{commit_shown, is_new}

-- what a frame says of a key with this entry, or without one
abbrev pub told : Option Entry → Bool → KeyFrame
told found changed = record { changed = changed; entry = if changed then found else None }

-- the first of the frames of these keys, and the rest
here : (es : List Entry) (key : List ℕ) (keys : List (List ℕ)) (last : List Shown)
    → key_frames es (key ∷ keys) (map commit_shown last)
    ≡ told (entry_at key es) (is_new (entry_at key es) (slice_get last 0)) ∷ key_frames es keys (map commit_shown (drop 1 last))
here es key keys [] = refl
here es key keys (s ∷ last) = refl

-- the frame of the key at a place, and those of the keys behind it
frame_at : (es : List Entry) (keys : List (List ℕ)) (last : List Shown) (i : ℕ) (key : List ℕ) → i < length keys → key ≡ get_or keys i key
    → key_frames es (drop i keys) (map commit_shown (drop i last))
    ≡ told (entry_at key es) (is_new (entry_at key es) (slice_get last i)) ∷ key_frames es (drop (suc i) keys) (map commit_shown (drop (suc i) last))
frame_at es [] last i key lt is = absurd (omega arith)
frame_at es (k ∷ keys) last zero key lt is = rw is (here es k keys last)
frame_at es (k ∷ keys) [] (suc i) key lt is = ap (λ l. key_frames es (drop i keys) (map commit_shown l)) (sym (drop-nil i)) ∙ frame_at es keys [] i key (omega arith) is
frame_at es (k ∷ keys) (s ∷ last) (suc i) key lt is = frame_at es keys last i key (omega arith) is

-- one frame more
pub more_frames : (es : List Entry) (keys : List (List ℕ)) (last : List Shown) (i j : ℕ) (frames new : List KeyFrame) (k : KeyFrame) (key : List ℕ) (found : Option Entry) (changed : Bool)
    → key_frames es keys (map commit_shown last) ≡ frames ++ key_frames es (drop i keys) (map commit_shown (drop j last)) → j ≡ i
    → i < length keys → key ≡ get_or keys i key → found ≡ entry_at key es → changed ≡ is_new found (slice_get last j) → k ≡ told found changed → new ≡ frames ++ k ∷ []
    → key_frames es keys (map commit_shown last) ≡ new ++ key_frames es (drop (i + 1) keys) (map commit_shown (drop (j + 1) last))
more_frames es keys last i j frames new k key found changed run same lt is f c t n =
    let e = frame_at es keys last i key lt is in
    let rest : List KeyFrame = key_frames es (drop (suc i) keys) (map commit_shown (drop (suc i) last)) in
    let a : (frames ++ k ∷ []) ++ rest ≡ frames ++ (k ∷ rest) = append_assoc frames (k ∷ []) rest in
    rw (n, same, add-one) (cc (e, a))

-- some key changed where this one did, or one of those behind it
pub more_changed : (es : List Entry) (keys : List (List ℕ)) (last : List Shown) (i j : ℕ) (key : List ℕ) (found : Option Entry) (changed : Bool)
    → is_some_changed (key_frames es keys (map commit_shown last)) ≡ is_some_changed (key_frames es (drop i keys) (map commit_shown (drop j last))) → j ≡ i
    → i < length keys → key ≡ get_or keys i key → found ≡ entry_at key es → changed ≡ is_new found (slice_get last j)
    → is_some_changed (key_frames es keys (map commit_shown last)) ≡ (if changed then true else is_some_changed (key_frames es (drop (i + 1) keys) (map commit_shown (drop (j + 1) last))))
more_changed es keys last i j key found changed run same lt is f c =
    let e = ap is_some_changed (frame_at es keys last i key lt is) in
    rw (same, add-one) (cc e)
