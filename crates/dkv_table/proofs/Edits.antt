-- What a look-up, a put and a removal do at the place of a key.
use Rattle.std.proofs.Common.{◌≡◌, ℕ, zero, suc, ◌<◌, true, List, [], ◌∷◌, ◌++◌, length, take, drop, set, get_or, Some, None, refl, sym, ap, ◌∙◌, arith}
use Rattle.std.specs.List.{list_all, insert, remove}
use Rattle.std.proofs.lemmas.List.{take-append-drop}
use Rattle.std.proofs.Math.Seq.{drop-cons}
use Rattle.dkv_base.specs.declared.types.Entry.{Entry}
use Rattle.dkv_base.specs.Ordered.{found, left_out}
use Rattle.dkv_base.specs.State.{entry_cmp, entry_at, put, without}
use Rattle.dkv_base.proofs.RankedLists as ranked
use Rattle.dkv_table.specs.Places.{is_above, marker, IsAt, IsGap}
use Rattle.dkv_table.proofs.Keys.{itself, entry_total, entry_at-found, without-left_out}

-- the items before a place, and from it on
parts : {X : Type 0} (es : List X) (at : ℕ) → es ≡ take at es ++ drop at es
parts es at = sym (take-append-drop at es)

-- and with the one at the place
pub around : {X : Type 0} (es : List X) (at : ℕ) (d : X) → at < length es → es ≡ take at es ++ get_or es at d ∷ drop (suc at) es
around es at d lt = parts es at ∙ ap (λ fs. take at es ++ fs) (drop-cons es at d lt)

-- a key that is below all keys is under none of them
pub entry_at-above : (key : List ℕ) (es : List Entry) → list_all (is_above key) es ≡ true → entry_at key es ≡ None
entry_at-above key es above = entry_at-found key es ∙ ranked.found-above entry_total (marker key) es above

-- a key that would go at the place has no entry
pub entry_at-gap : (key : List ℕ) (es : List Entry) (at : ℕ) → IsGap key es at → entry_at key es ≡ None
entry_at-gap key es at gap =
    entry_at-found key es ∙ ap (found entry_cmp (marker key)) (parts es at)
    ∙ ranked.found-below entry_total (marker key) (take at es) (drop at es) gap.below
    ∙ ranked.found-above entry_total (marker key) (drop at es) gap.above

-- and one that is there has the entry there
pub entry_at-at : (key : List ℕ) (es : List Entry) (at : ℕ) (d : Entry) → IsAt key es at → entry_at key es ≡ Some (get_or es at d)
entry_at-at key es at d is =
    entry_at-found key es ∙ ap (found entry_cmp (marker key)) (around es at d is.in_range)
    ∙ ranked.found-below entry_total (marker key) (take at es) _ is.below
    ∙ ranked.found-here entry_total (marker key) (get_or es at d) (drop (suc at) es) (itself key _ (sym (is.here d)))

-- an entry is put behind those below it, and before those above it
pub put-gap : (e : Entry) (es : List Entry) (at : ℕ) → IsGap e.key es at → put e es ≡ insert es at e
put-gap e es at gap =
    ap (put e) (parts es at) ∙ ranked.put_in-below entry_total e (take at es) (drop at es) gap.below
    ∙ ap (λ fs. take at es ++ fs) (ranked.put_in-above entry_total e (drop at es) gap.above)

-- an item set at a place stands between those before and those after
pub set_parts : {X : Type 0} (es : List X) (at : ℕ) (e : X) → at < length es → set es at e ≡ take at es ++ e ∷ drop (suc at) es
set_parts [] at e lt = absurd (omega arith)
set_parts (f ∷ fs) zero e lt = refl
set_parts (f ∷ fs) (suc at) e lt = ap (λ gs. f ∷ gs) (set_parts fs at e (omega arith))

-- and in the place of the one that has its key
pub put-at : (e : Entry) (es : List Entry) (at : ℕ) → IsAt e.key es at → put e es ≡ set es at e
put-at e es at is =
    ap (put e) (around es at e is.in_range) ∙ ranked.put_in-below entry_total e (take at es) _ is.below
    ∙ ap (λ fs. take at es ++ fs) (ranked.put_in-here entry_total e (get_or es at e) (drop (suc at) es) (itself e.key _ (sym (is.here e))))
    ∙ sym (set_parts es at e is.in_range)

-- what is below a key, or above it, stays when the key is taken away
pub without-gap : (key : List ℕ) (es : List Entry) (at : ℕ) → IsGap key es at → without key es ≡ es
without-gap key es at gap =
    without-left_out key es ∙ ap (left_out entry_cmp (marker key)) (parts es at)
    ∙ ranked.left_out-below entry_total (marker key) (take at es) (drop at es) gap.below
    ∙ ap (λ fs. take at es ++ fs) (ranked.left_out-above entry_total (marker key) (drop at es) gap.above)
    ∙ take-append-drop at es

-- and the entry at its place goes
pub without-at : (key : List ℕ) (es : List Entry) (at : ℕ) (d : Entry) → IsAt key es at → without key es ≡ remove es at
without-at key es at d is =
    without-left_out key es ∙ ap (left_out entry_cmp (marker key)) (around es at d is.in_range)
    ∙ ranked.left_out-below entry_total (marker key) (take at es) _ is.below
    ∙ ap (λ fs. take at es ++ fs) (ranked.left_out-here entry_total (marker key) (get_or es at d) (drop (suc at) es) (itself key _ (sym (is.here d)))
    ∙ ranked.left_out-above entry_total (marker key) (drop (suc at) es) is.above)
