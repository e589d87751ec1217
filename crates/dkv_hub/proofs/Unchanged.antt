-- Where no key changed, what was shown is what stands.
use Rattle.std.proofs.Common.{◌≡◌, ℕ, Bool, true, false, cond, not, nat_eq, List, [], ◌∷◌, length, map, Option, Some, None, option_map, refl, sym, ap, arith}
use Rattle.std.specs.Option.{option_eq}
use Rattle.std.proofs.lemmas.Bool.{eqb-true}
use Rattle.dkv_base.specs.declared.types.Entry.{Entry}
use Rattle.dkv_base.specs.Replies.{commit_at, key_frames, is_some_changed}
use Rattle.dkv_hub.specs.declared.shown.Shown.{Shown}
use Rattle.dkv_hub.specs.Frames.{commit_shown}

same_commit : (a b : Option ℕ) → option_eq nat_eq a b ≡ true → a ≡ b
same_commit None None h = refl
same_commit None (Some n) h = absurd (cc h)
same_commit (Some m) None h = absurd (cc h)
same_commit (Some m) (Some n) h = ap Some (eqb-true m n h)

-- each commit that was shown is the key's
pub still : (es : List Entry) (keys : List (List ℕ)) (last : List Shown) → length last ≡ length keys → is_some_changed (key_frames es keys (map commit_shown last)) ≡ false
    → map commit_shown last ≡ map (commit_at es) keys
still es [] [] l h = refl
still es [] (w ∷ last) l h = absurd (omega (arith, l))
still es (k ∷ keys) [] l h = absurd (omega (arith, l))
still es (k ∷ keys) (w ∷ last) l h =
    elim (option_eq nat_eq (commit_at es k) (commit_shown w)) as (λ b. option_eq nat_eq (commit_at es k) (commit_shown w) ≡ b → cond (not b) true (is_some_changed (key_frames es keys (map commit_shown last))) ≡ false
    → map commit_shown (w ∷ last) ≡ map (commit_at es) (k ∷ keys)) [
      | true ↦ λ e same.
          let rest = still es keys last (omega (arith, l)) same in
          let first = sym (same_commit (commit_at es k) (commit_shown w) e) in
          λ i. first i ∷ rest i
      | false ↦ λ e other. absurd (cc other)
    ] refl h
